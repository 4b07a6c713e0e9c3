use Rattle.std.proofs.Common.{◌≡◌, ◌∙◌, None, arith, subst}
use Rattle.plugin_api.specs.{PlanData}
use Rattle.std.specs.Prelude.{IfOk}
use Rattle.template_plugin.specs.Made.{PlanParts, Says, own_say, spans_by}
use Rattle.template_plugin.specs.Parts.{answer_by}
use Rattle.template_plugin.specs.Template.{Said, said_of}
use Rattle.template_plugin.proofs.Saying.{filled_with, whole_parts, whole_said}
use Rattle.template_plugin.proofs.plan.TemplatePlan.say.Goals as goal

pub answer-requires-clause-parts : goal.answer-requires-clause-parts
answer-requires-clause-parts c = whole_parts c.as_str-name.result.now c.as_str-name.utf8

pub returns : goal.returns
returns c =
    let p = c.self.inside in
    let plan : PlanData = record { directive = p.directive; zones = p.default } in
    let parts : PlanParts = record { kind = p.kind; zones = p.zones; fallthrough = p.fallthrough; rcode = p.rcode; patterns = p.patterns; sections = p.sections; whole = p.whole } in
    let q = c.args.query.now in
    let text = c.as_str-name.result.now in
    let name = c.as_str-name.ensures ∙ c.in_ok-write_lower.ensures.ok in
    let said = subst (λ (d : PlanData). said_of (answer_by (filled_with text p.zones q (spans_by None text)) p.whole p.rcode) ≡ own_say d q)
    c.self.view_is (whole_said plan q text parts c.self.invariant name (omega (arith, c.if-len-gt0.false, c.len.ensures))) in
    subst (λ (s : Said). IfOk c.answer.result (λ say. Says say s c.answer.new.slot)) said c.answer.ensures
