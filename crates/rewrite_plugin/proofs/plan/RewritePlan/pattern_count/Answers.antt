use Rattle.std.proofs.Common.{◌≡◌, length, subst}
use Rattle.dns_data.specs.declared.directive.Directive.{Directive}
use Rattle.rewrite_plugin.specs.Reading.{patterns_of}
use Rattle.rewrite_plugin.proofs.plan.RewritePlan.pattern_count.Goals as goal

pub returns : goal.returns
returns c =
    let p = c.self.inside in
    subst (λ (d : Directive). p.patterns ≡ length (patterns_of d)) c.self.view_is c.self.invariant.patterns
