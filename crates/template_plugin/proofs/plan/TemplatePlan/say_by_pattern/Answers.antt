use Rattle.std.proofs.Common.{◌≡◌, ◌∙◌, ℕ, List, Some, ap, subst}
use Rattle.plugin_api.specs.{PlanData}
use Rattle.std.specs.Prelude.{IfOk}
use Rattle.template_plugin.specs.Made.{PlanParts, Says, spans_by}
use Rattle.template_plugin.specs.Parts.{answer_by}
use Rattle.template_plugin.specs.Template.{Said, first_found, found_said, next, said_of}
use Rattle.template_plugin.specs.Words.{patterns_of}
use Rattle.template_plugin.proofs.Saying.{filled_with, pattern_said}
use Rattle.template_plugin.proofs.plan.TemplatePlan.say_by_pattern.Goals as goal

pub returns : goal.returns
returns c =
    let p = c.self.inside in
    let plan : PlanData = record { directive = p.directive; zones = p.default } in
    let parts : PlanParts = record { kind = p.kind; zones = p.zones; fallthrough = p.fallthrough; rcode = p.rcode; patterns = p.patterns; sections = p.sections; whole = p.whole } in
    let q = c.args.query.now in
    let name = c.as_str-name.result.now in
    let own = c.as_str-name.ensures ∙ c.requires.name in
    let scratch = c.find_first.new.scratch in
    let sections = c.at-sections.result.now in
    let found = rw c.as_slice.ensures at c.in_ok-number.ensures in
    let first = rw c.in-Some.is at (found (patterns_of plan.directive.body) c.self.invariant.patterns_are) in
    let said = subst
    (λ (d : PlanData). said_of (answer_by (filled_with name p.zones q (spans_by (Some scratch) name)) sections p.rcode) ≡ found_said d q next (first_found (patterns_of d.directive.body) name))
    c.self.view_is (pattern_said plan q name parts scratch c.in-Some.number sections c.self.invariant own first c.at-sections.ensures)
    ∙ ap (λ (n : List ℕ). found_said c.args.self.now q next (first_found (patterns_of c.args.self.now.directive.body) n)) c.as_str-name.ensures in
    subst (λ (s : Said). IfOk c.answer.result (λ say. Says say s c.answer.new.slot)) said c.answer.ensures
