use Rattle.std.proofs.Common.{◌≡◌, ◌++◌, map}
use Rattle.dns_server.specs.Opening.{place_of, sides_to}
use Rattle.dns_server.proofs.sides.push_places.Given as goal

abbrev pub invariant-loop-number : goal.invariant-loop-number
invariant-loop-number l = map place_of l.places.items ≡ map place_of l.initial.places.items ++ sides_to l.port l.by l.number
