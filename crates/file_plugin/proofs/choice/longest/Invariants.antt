use Rattle.std.proofs.Common.{◌≡◌, drop}
use Rattle.std.specs.Prelude.{option_map}
use Rattle.file_plugin.specs.Zones.{longest}
use Rattle.file_plugin.proofs.choice.longest.Given as goal

abbrev pub invariant-loop-zone : goal.invariant-loop-zone
invariant-loop-zone l = longest l.name (option_map (λ zone. zone.now) l.best) (drop l.zone-index l.zones) ≡ longest l.name (option_map (λ zone. zone.now) l.fn.before) l.zones
