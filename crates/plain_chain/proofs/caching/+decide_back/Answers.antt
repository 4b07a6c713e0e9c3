use Rattle.std.proofs.Common.{◌≡◌, List, [], ◌++◌, Option, Some, None, map, refl, sym, ap, subst, ◌∙◌}
use Rattle.std.specs.Prelude.{IfOk}
use Rattle.std.proofs.lemmas.List.{append-nil}
use Rattle.outside.specs.declared.mark.Mark.{Mark}
use Rattle.plain_marks.specs.Meant.{Means}
use Rattle.plain_marks.specs.declared.meant.Meant.TheVariants as meant
use Rattle.chain_build.specs.Compiled.{back_answerer, back_of}
use Rattle.chain_meaning.specs.Mean.{answer_of}
use Rattle.chain_trail.specs.Says.{decided_say, pass_say}
use Rattle.chain_trail.specs.Trail.{answered, end_name, head_name, reached, tail_names, traced}
use Rattle.chain_trail.specs.Trails.{Trails}
use Rattle.plain_chain.proofs.Rules.{back-say}
use Rattle.plain_chain.proofs.Traced.{back-answers, back-end}
use Rattle.plain_chain.proofs.Trailing.{done-at, ok-lined, taken-done, taken-on, taken-stops, taken-wants}
use Rattle.plain_chain.proofs.caching.+decide_back.Goals as goal

pub returns-in_default : goal.returns-in_default
returns-in_default t c = record {
  lines = reached end_name [];
  added = c.in_ok-reach_end.ensures;
  are = done-at _ c.args.marks.now (reached end_name []) _ (back-end c.args.back.now c.args.names.now c.args.asking.query.now c.in_default.ensures.cases);
}

pub returns-in_ok-reach-in-Some-said : goal.returns-in_ok-reach-in-Some-said
returns-in_ok-reach-in-Some-said t c =
    let q = c.args.asking.query.now in
    let names = c.args.names.now in
    let plugin = back_answerer c.in-Some.plugin.now in
    let v = c.in-Some-said.decision in
    record {
      lines = reached (head_name names) (decided_say plugin v);
      added = c.in_ok-reach-in-Some-said.ensures ∙ ap (λ s. c.args.trail.now ++ reached (head_name names) s) (c.decision_say.ensures ∙ back-say c.in-Some.plugin.now v);
      are = taken-done (answer_of plugin q) (answered (head_name names) (traced (map back_of c.in-Some.others.now) (tail_names names)) plugin q) _ (back-answers c.in-Some.plugin.now c.in-Some.others.now names q c.in-Some.ensures.cases.0)
          c.args.marks.now c.in-Done.left.now (Some v) (reached (head_name names) (decided_say plugin v)) v
          (subst (Means (answer_of plugin q) c.args.marks.now) (c.in-Done.is ∙ ap (λ o. meant.Done o c.in-Done.left) c.in-Some-said.is) c.in_ok-said.ensures) (λ other. refl);
    }

pub returns-in_ok-reach-in-None : goal.returns-in_ok-reach-in-None
returns-in_ok-reach-in-None t c =
    let q = c.args.asking.query.now in
    let names = c.args.names.now in
    let plugin = back_answerer c.in-Some.plugin.now in
    let behind = map back_of c.in-Some.others.now in
    let rest = traced behind (tail_names names) in
    let next = answered (head_name names) rest plugin q in
    taken-on (answer_of plugin q) next _ (back-answers c.in-Some.plugin.now c.in-Some.others.now names q c.in-Some.ensures.cases.0)
    c.decide_back.result c.args.marks.now c.in-Done.left.now c.args.trail.now c.decide_back.new.trail None
    (subst (Means (answer_of plugin q) c.args.marks.now) (c.in-Done.is ∙ ap (λ o. meant.Done o c.in-Done.left) c.in-None.is) c.in_ok-said.ensures)
    (ok-lined c.decide_back.result (rest q) (next None) c.in-Done.left.now (reached (head_name names) pass_say) c.args.trail.now c.reach-in-None.new.trail c.decide_back.new.trail (λ other. refl) c.in_ok-reach-in-None.ensures
    (subst (λ ns. IfOk c.decide_back.result (Trails (traced behind ns q) c.in-Done.left.now c.reach-in-None.new.trail c.decide_back.new.trail)) c.rest_of.ensures c.decide_back.ensures))

pub returns-in-More : goal.returns-in-More
returns-in-More t c =
    let q = c.args.asking.query.now in
    let names = c.args.names.now in
    let plugin = back_answerer c.in-Some.plugin.now in
    taken-wants (answer_of plugin q) (answered (head_name names) (traced (map back_of c.in-Some.others.now) (tail_names names)) plugin q) _ (back-answers c.in-Some.plugin.now c.in-Some.others.now names q c.in-Some.ensures.cases.0)
    c.args.marks.now c.args.trail.now (subst (Means (answer_of plugin q) c.args.marks.now) c.in-More.is c.in_ok-said.ensures)

pub returns-in-Off : goal.returns-in-Off
returns-in-Off t c =
    let q = c.args.asking.query.now in
    let names = c.args.names.now in
    let plugin = back_answerer c.in-Some.plugin.now in
    record {
      lines = [];
      added = sym (append-nil c.args.trail.now);
      are = taken-stops (answer_of plugin q) (answered (head_name names) (traced (map back_of c.in-Some.others.now) (tail_names names)) plugin q) _ (back-answers c.in-Some.plugin.now c.in-Some.others.now names q c.in-Some.ensures.cases.0)
          c.args.marks.now c.in-Off.left.now (subst (Means (answer_of plugin q) c.args.marks.now) c.in-Off.is c.in_ok-said.ensures);
    }
