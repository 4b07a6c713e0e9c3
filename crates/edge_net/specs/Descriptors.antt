-- How many descriptors connections leave to files and sockets. This server's own rule.
use Rattle.std.specs.Prelude.{ℕ, ◌-◌, ◌/◌, max}

-- of so many the last 32 are kept, or the last eighth
abbrev pub first_kept : ℕ → ℕ
first_kept limit = limit - max 32 (limit / 8)
