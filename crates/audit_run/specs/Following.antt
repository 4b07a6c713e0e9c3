-- Following an order with the calls that are left. This server's own rule.
use Rattle.std.specs.Prelude.{◌≡◌, ◌≢◌, ℕ, Bool, true, false, List, [], ◌∷◌, ◌++◌, map, take}
use Rattle.std.specs.Prelude.{Some}
use Rattle.one_history.specs.Calls.{Told, told_by}
use Rattle.audit_run.specs.declared.history.History.{History}
use Rattle.audit_run.specs.declared.part.PartRule.{PartRule}
use Rattle.audit_run.specs.declared.place.Place.{Place}
use Rattle.audit_run.specs.declared.record.SideRecord.{SideRecord}
use Rattle.audit_run.specs.declared.rows.LeftCall.{LeftCall}
use Rattle.audit_run.specs.Histories.{Shows}
use Rattle.audit_run.specs.Orders.{AllAllowed, Fails, place_of, told_at}
use Rattle.audit_run.specs.Rows.{left_in}
use Rattle.audit_run.specs.Told.{allows_told, shown_in}

-- behind these: what is left of each side's marks at each serial, and what is kept of the history
pub record IsFollowed (marks : ℕ → ℕ → List ℕ) (rule : PartRule) (sides : List SideRecord)
    (rows : List (List LeftCall)) (h : History) (told : List (Told ℕ)) : Type 0 where
  pub each : (worker serial : ℕ)
      → marks worker serial ≡ told_by worker serial told ++ left_in rows worker serial
  pub legal : AllAllowed (allows_told rule sides) [] told
  pub shows : Shows rule (map (shown_in sides) told) h

-- a place may stand there, at a serial, and is followed then; or it has a fault
abbrev pub StandsSo : (ℕ → ℕ → List ℕ) → PartRule → List SideRecord → List (Told ℕ) → Place → Bool
    → List (List LeftCall) → History → Type 0
StandsSo marks rule sides told place true rows h =
    (serial : ℕ) × IsFollowed marks rule sides rows h (told ++ told_at place serial ∷ [])
StandsSo marks rule sides told place false rows h =
    Fails marks (allows_told rule sides) told (Some place)

-- whether nothing is left
abbrev pub EmptyRows : List (List LeftCall) → Bool → Type 0
EmptyRows rows true = (worker serial : ℕ) → left_in rows worker serial ≡ []
EmptyRows rows false = (worker : ℕ) × (serial : ℕ) × (left_in rows worker serial ≢ [])

-- the first of these places are followed, so many
pub record IsUpTo (marks : ℕ → ℕ → List ℕ) (rule : PartRule) (sides : List SideRecord)
    (rows : List (List LeftCall)) (h : History) (places : List Place) (at : ℕ) : Type 0 where
  pub told : List (Told ℕ)
  pub are : map place_of told ≡ take at places
  pub followed : IsFollowed marks rule sides rows h told
