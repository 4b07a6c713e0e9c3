use Rattle.std.specs.Prelude.{IfOk}
use Rattle.std.proofs.Common.{◌≡◌, subst}
use Rattle.chain_trail.specs.Says.{pass_say}
use Rattle.chain_trail.specs.Trail.{head_name, reached, tail_names, traced, translated_by}
use Rattle.chain_trail.specs.Trails.{Trails}
use Rattle.plain_chain.specs.Steps.{plain_run}
use Rattle.plain_chain.proofs.Traced.{dns64-some}
use Rattle.plain_chain.proofs.Trailing.{ok-lined}
use Rattle.plain_chain.proofs.translating.translate.Goals as goal

pub returns-then-translates-clause-trails : goal.returns-then-translates-clause-trails
returns-then-translates-clause-trails g c =
    let said = g.R.Rulings.said c.args.rulings.now in
    let chain = c.args.asking.chain.now in
    let q = c.args.asking.query.now in
    let names = c.args.names.now in
    let n = head_name names in
    let plan = c.in-Some.plan in
    let steps = plain_run said chain.middle chain in
    let r = c.decide_twice.result in
    let mid = c.reach.new.trail in
    let after = c.decide_twice.new.trail in
    ok-lined r (translated_by n (traced steps (tail_names names)) plan q) _ c.args.marks.now (reached n pass_say) c.args.trail.now mid after
    (dns64-some chain.dns64 plan steps names q c.in-Some.is) c.in_ok-reach.ensures
    (subst (λ ns. IfOk r (Trails (translated_by n (traced steps ns) plan q) c.args.marks.now mid after)) c.rest_of.ensures (c.decide_twice.ensures.trails n))

pub returns-clause-trails : goal.returns-clause-trails
returns-clause-trails g c =
    let said = g.R.Rulings.said c.args.rulings.now in
    let chain = c.args.asking.chain.now in
    let q = c.args.asking.query.now in
    let names = c.args.names.now in
    let n = head_name names in
    let plan = c.in-Some.plan in
    let steps = plain_run said chain.middle chain in
    let r = c.decide_pointed.result in
    let mid = c.reach.new.trail in
    let after = c.decide_pointed.new.trail in
    ok-lined r (translated_by n (traced steps (tail_names names)) plan q) _ c.args.marks.now (reached n pass_say) c.args.trail.now mid after
    (dns64-some chain.dns64 plan steps names q c.in-Some.is) c.in_ok-reach.ensures
    (subst (λ ns. IfOk r (Trails (translated_by n (traced steps ns) plan q) c.args.marks.now mid after)) c.rest_of-2.ensures (c.decide_pointed.ensures.trails n))
