use Rattle.std.proofs.Common.{◌≡◌, drop}
use Rattle.std.specs.Prelude.{◌==◌}
use Rattle.std.specs.List.{find}
use Rattle.plugin_api.proofs.services.service_on.Given as goal

abbrev pub invariant-loop-service : goal.invariant-loop-service
invariant-loop-service l = find (λ s. s.port == l.port) (drop l.service-index l.services) ≡ find (λ s. s.port == l.port) l.services
