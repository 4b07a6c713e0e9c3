use Rattle.std.proofs.Common.{◌≡◌, drop}
use Rattle.std.specs.Cmp.Lexicographic.{pointwise}
use Rattle.block_readings.specs.Same.{same_key}
use Rattle.block_readings.proofs.comparing.are_same_keys.Given as goal

-- what is left decides
abbrev pub invariant-loop-key : goal.invariant-loop-key
invariant-loop-key l = pointwise same_key (drop l.key-index l.keys) l.rest ≡ pointwise same_key l.fn.keys l.fn.others
