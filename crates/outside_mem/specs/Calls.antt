-- The calls of one kind as plain data. This server's own rule.
use Rattle.std.specs.Prelude.{ℕ, List, ◌+◌, ◌-◌, ◌^◌, min}

-- the numbers of the calls that are to fail, and how many calls were counted
pub record CallsData : Type 0 where
  pub fails : List ℕ
  pub counted : ℕ

-- a count of 64 bits with one more, or at its last value
abbrev pub one_more : ℕ → ℕ
one_more count = min (count + 1) (2 ^ 64 - 1)

-- the same calls with one more counted
abbrev pub counted : CallsData → CallsData
counted calls = record { fails = calls.fails; counted = one_more calls.counted }
