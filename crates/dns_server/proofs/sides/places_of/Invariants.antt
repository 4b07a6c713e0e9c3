use Rattle.std.proofs.Common.{◌≡◌, ◌++◌, map, drop}
use Rattle.dns_server.specs.Opening.{place_of, sides_of}
use Rattle.dns_server.proofs.sides.places_of.Given as goal

abbrev pub invariant-loop-port : goal.invariant-loop-port
invariant-loop-port l = map place_of l.places.items ++ sides_of l.workers (drop l.port-index l.ports) ≡ sides_of l.workers l.ports
