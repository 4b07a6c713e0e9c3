-- What callers see of the table and its handles: which table a handle is of, and what it knows.
use Rattle.std.specs.Prelude.{◌≡◌, ℕ}
use Rattle.atomic_table.specs.Seated.{TableId}
use Rattle.pin_table.specs.declared.views.PassView.{PassView}
use Rattle.pin_table.specs.declared.views.Plan.{Plan}
use Rattle.pin_table.specs.declared.passes.Pass.{Pass}
use Rattle.pin_table.specs.declared.passes.Told.{Told}
use Rattle.pin_table.specs.declared.publisher.Publisher.{Publisher}
use Rattle.pin_table.specs.declared.table.PinTable.{PinTable}
use Rattle.pin_table.specs.Steps.{pass_in, plan_in}

module _ {C : Type 0} where
  -- what the pass knows
  abbrev pub pass_of : Pass C → PassView C
  pass_of pass = pass_in pass.seat.me.0

  -- it is still the same pass of the same table
  abbrev pub SamePass : Pass C → Pass C → Type 0
  SamePass old new = (new.seat.table_id ≡ old.seat.table_id) × (new.seat.id ≡ old.seat.id)

  -- what the publisher knows
  abbrev pub plan_of : Publisher C → Plan C
  plan_of publisher = plan_in publisher.seat.me.0

  -- it is still the publisher of the same table
  abbrev pub SamePublisher : Publisher C → Publisher C → Type 0
  SamePublisher old new = (new.seat.table_id ≡ old.seat.table_id) × (new.seat.id ≡ old.seat.id)

  -- the slot of the current generation
  abbrev pub current_of : Publisher C → ℕ
  current_of publisher = publisher.current

  -- how many generations it says are published
  abbrev pub seen_of : Told C → ℕ
  seen_of told = told.seen

-- N and K are what a chain notes and its kind
module _ {C N K : Type 0} where
  -- which table it is
  abbrev pub id_of : PinTable C N K → TableId
  id_of table = table.table.shared.table_id

  -- the pass is one of this table's
  abbrev pub IsPassOf : PinTable C N K → Pass C → Type 0
  IsPassOf table pass = pass.seat.table_id ≡ id_of table

  -- the publisher is this table's
  abbrev pub IsPublisherOf : PinTable C N K → Publisher C → Type 0
  IsPublisherOf table publisher = publisher.seat.table_id ≡ id_of table

  -- it was told by this table's publisher
  abbrev pub IsToldOf : PinTable C N K → Told C → Type 0
  IsToldOf table told = told.seat.table_id ≡ id_of table
