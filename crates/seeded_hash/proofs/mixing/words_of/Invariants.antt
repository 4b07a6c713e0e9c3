use Rattle.std.proofs.Common.{◌≡◌}
use Rattle.seeded_hash.specs.Mixing.{words_to}
use Rattle.seeded_hash.proofs.mixing.words_of.Given as goal

abbrev pub invariant-loop-i : goal.invariant-loop-i
invariant-loop-i l = l.state ≡ words_to l.factor l.begun l.i l.bytes
