use Rattle.std.proofs.Common.{◌≡◌, drop}
use Rattle.seeded_hash.specs.Mixing.{number_of}
use Rattle.seeded_hash.proofs.mixing.number_of.Given as goal

abbrev pub invariant-loop-byte : goal.invariant-loop-byte
invariant-loop-byte l = number_of l.number (drop l.byte-index l.bytes) ≡ number_of 0 l.bytes
