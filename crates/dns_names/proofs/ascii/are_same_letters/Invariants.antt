use Rattle.std.proofs.Common.{◌≡◌, ◌↔◌, IsTrue, take, map}
use Rattle.std.specs.Char.{to_ascii_lowercase}
use Rattle.dns_names.proofs.ascii.are_same_letters.Given as goal

abbrev pub invariant-loop-i : goal.invariant-loop-i
invariant-loop-i l = IsTrue l.same ↔ (map to_ascii_lowercase (take l.i l.a) ≡ map to_ascii_lowercase (take l.i l.b))
