use Rattle.std.proofs.Common.{◌≡◌, drop, None}
use Rattle.std.specs.Prelude.{option_map}
use Rattle.file_plugin.specs.Zones.{longest_of}
use Rattle.file_plugin.proofs.choice.zone_for.Given as goal

abbrev pub invariant-loop-plan : goal.invariant-loop-plan
invariant-loop-plan l = longest_of l.name (option_map (λ zone. zone.now) l.best) (drop l.plan-index l.plans) ≡ longest_of l.name None l.plans
