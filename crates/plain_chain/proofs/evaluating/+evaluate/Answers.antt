use Rattle.std.proofs.Common.{◌≡◌, subst}
use Rattle.chain_meaning.specs.Mean.{error_noted, query_noted}
use Rattle.chain_trail.specs.Trail.{head_name, tail_names, traced}
use Rattle.chain_trail.specs.Trails.{Trails}
use Rattle.plain_chain.specs.Steps.{plain_rest, plain_steps}
use Rattle.plain_chain.proofs.Traced.{front-errors, front-log}
use Rattle.plain_chain.proofs.Trailing.{ok-noted}
use Rattle.plain_chain.proofs.evaluating.+evaluate.Goals as goal

pub returns-in-Errors-clause-trails : goal.returns-in-Errors-clause-trails
returns-in-Errors-clause-trails g t c =
    let said = g.R.Rulings.said c.args.rulings.now in
    let chain = c.args.asking.chain.now in
    let q = c.args.asking.query.now in
    let names = c.args.names.now in
    let others = c.in-Some.others.now in
    let marks = c.args.marks.now in
    let mid = c.reach.new.trail in
    let after = c.evaluate.new.trail in
    ok-noted c.behind_errors.result (head_name names) (traced (plain_steps said others chain) (tail_names names)) q (error_noted q) _ marks c.args.trail.now mid after c.in_ok-meant.meant
    (front-errors c.in-Some.step.now others (plain_rest said chain) names q c.in-Some.ensures.cases.0 c.in-Errors.is) c.in_ok-reach.ensures
    (subst (λ ns. Trails (traced (plain_steps said others chain) ns q) marks mid after c.in_ok-meant.meant) c.rest_of.ensures c.in_ok-meant.ensures.trails) c.behind_errors.ensures

pub returns-in-Log-clause-trails : goal.returns-in-Log-clause-trails
returns-in-Log-clause-trails g t c =
    let said = g.R.Rulings.said c.args.rulings.now in
    let chain = c.args.asking.chain.now in
    let q = c.args.asking.query.now in
    let names = c.args.names.now in
    let others = c.in-Some.others.now in
    let marks = c.args.marks.now in
    let mid = c.reach.new.trail in
    let after = c.evaluate.new.trail in
    ok-noted c.behind_log.result (head_name names) (traced (plain_steps said others chain) (tail_names names)) q (query_noted c.in-Log.plan q) _ marks c.args.trail.now mid after c.in_ok-meant.meant
    (front-log c.in-Some.step.now others (plain_rest said chain) names q c.in-Some.ensures.cases.0 c.in-Log.plan c.in-Log.is) c.in_ok-reach.ensures
    (subst (λ ns. Trails (traced (plain_steps said others chain) ns q) marks mid after c.in_ok-meant.meant) c.rest_of.ensures c.in_ok-meant.ensures.trails) c.behind_log.ensures
