-- Seats, as the calls of the lock see them.
use Rattle.std.specs.Prelude.{◌≡◌}
use Rattle.atomic_table.specs.Seated.{TableId}
use Rattle.ruled_lock.specs.declared.rule.View.{View}
use Rattle.ruled_lock.specs.declared.seat.SeatOf.{SeatOf}

module _ {O K R : Type 0} where
  -- what the seat knows
  abbrev pub view_of : SeatOf O K R → View O K R
  view_of seat = seat.seat.me.0

  -- the seat belongs to the lock of this table
  abbrev pub IsAt : TableId → SeatOf O K R → Type 0
  IsAt id seat = seat.seat.table_id ≡ id

  -- the seat belongs to the lock that it belonged to
  abbrev pub StaysAt : SeatOf O K R → SeatOf O K R → Type 0
  StaysAt old new = (new.seat.table_id ≡ old.seat.table_id) × (new.seat.id ≡ old.seat.id)
