-- How long a side waits behind failing receives in a row, in milliseconds. This server's own rule.
use Rattle.std.specs.Prelude.{ℕ, ◌*◌, min, max}

-- twice the pause before, between 1 and 100
abbrev pub longer : ℕ → ℕ
longer pause = min 100 (max 1 (2 * pause))
