-- A hash as it is made.
use Rattle.std.specs.Prelude.{ℕ, List}
use Rattle.seeded_hash.specs.declared.hasher.Seed.{Seed}
use Rattle.seeded_hash.specs.declared.hasher.SeededHasher.{SeededHasher}
use Rattle.seeded_hash.specs.Mixing.{written}

-- behind bytes
abbrev pub after : SeededHasher → List ℕ → SeededHasher
after h bytes = record { state = written h.factor h.state bytes; factor = h.factor }

-- at the beginning
abbrev pub begun_by : Seed → SeededHasher
begun_by seed = record { state = seed.state; factor = seed.factor }
