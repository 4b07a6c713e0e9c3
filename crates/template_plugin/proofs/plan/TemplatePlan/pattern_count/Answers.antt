use Rattle.std.proofs.Common.{◌≡◌, ◌∙◌, length, subst}
use Rattle.plugin_api.specs.{PlanData}
use Rattle.template_plugin.specs.Words.{patterns_of}
use Rattle.template_plugin.proofs.Judged.{as_many}
use Rattle.template_plugin.proofs.plan.TemplatePlan.pattern_count.Goals as goal

pub returns : goal.returns
returns c =
    let p = c.self.inside in
    let is = as_many (patterns_of p.directive.body) p.patterns c.self.invariant.patterns_are in
    subst (λ (d : PlanData). c.len.result ≡ length (patterns_of d.directive.body)) c.self.view_is (c.len.ensures ∙ is)
