use Rattle.std.specs.Prelude.{IfOk}
use Rattle.std.proofs.Common.{◌≡◌, ◌++◌, map, refl, ap, subst, ◌∙◌}
use Rattle.chain_build.specs.Compiled.{front_answerer}
use Rattle.chain_trail.specs.Says.{pass_say}
use Rattle.chain_trail.specs.Trail.{head_name, reached, tail_names, traced}
use Rattle.chain_trail.specs.Trails.{Trails}
use Rattle.plain_chain.specs.Steps.{plain_others, plain_run}
use Rattle.plain_chain.proofs.Rules.{goes-on, says}
use Rattle.plain_chain.proofs.Traced.{middle-answers}
use Rattle.plain_chain.proofs.Trailing.{done-at, ok-lined}
use Rattle.plain_chain.proofs.evaluating.+decide_run.Goals as goal

pub returns-in_ok-reach-in-Some-2-clause-trails : goal.returns-in_ok-reach-in-Some-2-clause-trails
returns-in_ok-reach-in-Some-2-clause-trails g t c =
    let said = g.R.Rulings.said c.args.rulings.now in
    let chain = c.args.asking.chain.now in
    let q = c.args.asking.query.now in
    let names = c.args.names.now in
    let n = head_name names in
    let plugin = c.in-Some.plugin.now in
    let others = c.in-Some.others.now in
    let behind = plain_others said chain.extras chain in
    let rest = traced (plain_run said others chain) (tail_names names) in
    let say = c.front_say.result.now in
    record {
      lines = reached n say;
      added = c.in_ok-reach-in-Some-2.ensures;
      are = done-at _ c.args.marks.now (reached n say) c.in-Some-2.decision
          (λ other. middle-answers plugin others behind names q c.in-Some.ensures.cases.0 other
          ∙ says n rest (front_answerer plugin) q c.in_ok-decision.ensures c.in-Some-2.decision say c.in-Some-2.is c.front_say.ensures other);
    }

pub returns-in_ok-reach-in-None-clause-trails : goal.returns-in_ok-reach-in-None-clause-trails
returns-in_ok-reach-in-None-clause-trails g t c =
    let said = g.R.Rulings.said c.args.rulings.now in
    let chain = c.args.asking.chain.now in
    let q = c.args.asking.query.now in
    let names = c.args.names.now in
    let n = head_name names in
    let plugin = c.in-Some.plugin.now in
    let others = c.in-Some.others.now in
    let behind = plain_others said chain.extras chain in
    let rest = traced (plain_run said others chain) (tail_names names) in
    let r = c.decide_run.result in
    let mid = c.reach-in-None.new.trail in
    let after = c.decide_run.new.trail in
    ok-lined r (rest q) _ c.args.marks.now (reached n pass_say) c.args.trail.now mid after
    (λ other. middle-answers plugin others behind names q c.in-Some.ensures.cases.0 other ∙ goes-on n rest (front_answerer plugin) q c.in_ok-decision.ensures c.in-None.is other) c.in_ok-reach-in-None.ensures
    (subst (λ ns. IfOk r (Trails (traced (plain_run said others chain) ns q) c.args.marks.now mid after)) c.rest_of.ensures c.decide_run.ensures.trails)
