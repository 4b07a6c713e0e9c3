-- How many bytes a send or a receive moved. This server's own rule.
use Rattle.std.specs.Prelude.{◌≤◌, ℕ}
use Rattle.edge_sockets.specs.declared.upstream.Moved.{Moved}
use Rattle.edge_sockets.specs.declared.upstream.Moved.TheVariants as moved

-- no more than there was room for
abbrev pub MovesAtMost : ℕ → Moved → Type 0
MovesAtMost most (moved.Some count) = count ≤ most
MovesAtMost most moved.Blocked = Unit {0}
MovesAtMost most moved.Failed = Unit {0}
