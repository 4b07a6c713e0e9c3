use Rattle.std.proofs.Common.{◌≡◌, ◌∙◌, None, ap, sym}
use Rattle.plugin_api.specs.{PlanData}
use Rattle.template_plugin.specs.Reading.{words_why}
use Rattle.template_plugin.proofs.Judged.{read_ok}
use Rattle.template_plugin.proofs.plan.TemplatePlan.reread.Goals as goal

pub returns-clause-value : goal.returns-clause-value
returns-clause-value g c =
    let plan : PlanData = record { directive = c.args.directive.now; zones = c.args.zones.now } in
    let none : words_why plan.zones plan.directive.args ≡ None = sym (c.in_ok-why.ensures ∙ ap (words_why plan.zones) c.as_slice.ensures) ∙ c.in_default.is in
    let passes = rw (c.as_slice-2.ensures, c.new-made.ensures) at c.in_ok-read_lines.ensures.value in
    (read_ok c.args.patterns plan c.read_lines.new.out none passes, c.in_ok-make.ensures)
