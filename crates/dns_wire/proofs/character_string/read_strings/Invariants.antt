use Rattle.std.proofs.Common.{◌≤◌, ◌-◌}
use Rattle.dns_wire.proofs.Strings.{StringsSoFar}
use Rattle.dns_wire.proofs.character_string.read_strings.Given as goal

abbrev pub invariant-loop-at : goal.invariant-loop-at
invariant-loop-at l = record { inside : l.at ≤ l.behind; so_far : StringsSoFar l.bytes l.start l.at l.behind l.strings }

abbrev pub decreases-loop-at : goal.decreases-loop-at
decreases-loop-at l = l.behind - l.at
