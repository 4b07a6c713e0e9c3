use Rattle.std.proofs.Common.{◌≡◌, ◌<◌, ◌++◌, ◌+◌, List, Option, Some, None, drop, length, rules, sym, ap, subst, ◌∙◌}
use Rattle.std.specs.Prelude.{IfOk}
use Rattle.dns_data.specs.declared.directive.Directive.{Directive}
use Rattle.extra_stock.specs.{said_at}
use Rattle.plugin_api.specs.{Sayings}
use Rattle.chain_build.specs.Plans.{inner_of}
use Rattle.chain_meaning.specs.Steps.{verdict_decides}
use Rattle.chain_meaning.specs.declared.decision.Decision.{Decision}
use Rattle.chain_trail.specs.Says.{decision_say, pass_say}
use Rattle.chain_trail.specs.Trail.{head_name, others_answered, reached, tail_names, traced}
use Rattle.chain_trail.specs.Trails.{Trails}
use Rattle.plain_chain.specs.Steps.{plain_others}
use Rattle.plain_chain.proofs.Traced.{others-at}
use Rattle.plain_chain.proofs.Trailing.{done-at, ok-lined}
use Rattle.plain_chain.proofs.evaluating.+decide_others.Goals as goal

pub returns-in_ok-reach-in-Some-clause-trails : goal.returns-in_ok-reach-in-Some-clause-trails
returns-in_ok-reach-in-Some-clause-trails g t c =
    let said = g.R.Rulings.said c.args.rulings.now in
    let chain = c.args.asking.chain.now in
    let q = c.args.asking.query.now in
    let names = c.args.names.now in
    let n = head_name names in
    let v = c.in-Some.decision in
    let inside : c.args.at < length chain.extras = search rules in
    let rest = traced (plain_others said (drop (c.args.at + 1) chain.extras) chain) (tail_names names) in
    let says : verdict_decides (said_at said chain.extras c.args.at q) ≡ Some v =
    ap (λ (ds : List Directive). verdict_decides (said_at said ds c.args.at q)) (sym c.requires) ∙ sym c.in_ok-decision.ensures.says ∙ c.in-Some.is in
    record {
      lines = reached n (decision_say v);
      added = c.in_ok-reach-in-Some.ensures ∙ ap (λ s. c.args.trail.now ++ reached n s) c.decision_say.ensures;
      are = done-at _ c.args.marks.now (reached n (decision_say v)) v
          (λ other. others-at said chain.extras c.args.at (inner_of chain) names q inside other ∙ ap (λ (o : Option Decision). others_answered n rest q o other) says);
    }

pub returns-in_ok-reach-in-None-clause-trails : goal.returns-in_ok-reach-in-None-clause-trails
returns-in_ok-reach-in-None-clause-trails g t c =
    let said = g.R.Rulings.said c.args.rulings.now in
    let chain = c.args.asking.chain.now in
    let q = c.args.asking.query.now in
    let names = c.args.names.now in
    let n = head_name names in
    let marks = c.args.marks.now in
    let inside : c.args.at < length chain.extras = search rules in
    let left = drop (c.args.at + 1) chain.extras in
    let rest = traced (plain_others said left chain) (tail_names names) in
    let r = c.decide_others.result in
    let mid = c.reach-in-None.new.trail in
    let after = c.decide_others.new.trail in
    let says : verdict_decides (said_at said chain.extras c.args.at q) ≡ None =
    ap (λ (ds : List Directive). verdict_decides (said_at said ds c.args.at q)) (sym c.requires) ∙ sym c.in_ok-decision.ensures.says ∙ c.in-None.is in
    ok-lined r (rest q) _ marks (reached n pass_say) c.args.trail.now mid after
    (λ other. others-at said chain.extras c.args.at (inner_of chain) names q inside other ∙ ap (λ (o : Option Decision). others_answered n rest q o other) says) c.in_ok-reach-in-None.ensures
    (subst (λ (s : Sayings). IfOk r (Trails (traced (plain_others s left chain) (tail_names names) q) marks mid after)) c.extra_says.ensures.stays
    (subst (λ ns. IfOk r (Trails (traced (plain_others (g.R.Rulings.said c.extra_says.new.rulings) left chain) ns q) marks mid after)) c.rest_of.ensures c.decide_others.ensures.trails))
