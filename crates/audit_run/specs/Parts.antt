-- The parts that workers share, and which calls are of one. This server's own rule.
use Rattle.std.specs.Prelude.{ℕ, ◌==◌, ◌&&◌, Bool, false, List, map}
use Rattle.std.specs.Prelude.{Option, Some, None}
use Rattle.one_history.specs.Calls.{Call}
use Rattle.one_history.specs.Runs.{CacheRun, block_at, run_marks}
use Rattle.audit_run.specs.declared.part.SharedCall.{SharedCall}
use Rattle.audit_run.specs.declared.part.SharedPart.{SharedPart}
use Rattle.audit_run.specs.declared.place.Order.{Order}

-- the generations and blocks that have a part, as a run of caches
abbrev pub run_of : SharedPart → CacheRun (Unit {0})
run_of p = record { reads = tt; first = p.first; blocks = p.blocks }

-- it is this block
abbrev pub is_block : ℕ → Option ℕ → Bool
is_block block None = false
is_block block (Some other) = other == block

abbrev pub is_of : SharedPart → SharedCall → Bool
is_of p c = c.part == p.part && is_block c.block (block_at (run_of p) c.serial)

-- an order is of a part that begins with its serial and block
abbrev pub is_order_of : SharedPart → Order → Bool
is_order_of p o =
    o.part == p.part && o.serial == p.first && is_block o.block (block_at (run_of p) p.first)

-- a call, by the number of its mark
abbrev pub numbered : SharedCall → Call ℕ
numbered c = record { serial = c.serial; block = c.block; part = c.part; mark = c.mark }

-- of the calls of each side, the numbers of those of a part, by side and serial
abbrev pub part_marks : SharedPart → List (List SharedCall) → ℕ → ℕ → List ℕ
part_marks p calls = run_marks (run_of p) p.part (map (λ own. map numbered own) calls)
