-- What is left of a part's calls while an order of them is followed. This server's own rule.
use Rattle.std.specs.Prelude.{◌≡◌, ◌≢◌, ℕ, ◌==◌, Bool, false, List, [], ◌∷◌, take, if◌then◌else◌}
use Rattle.std.specs.Prelude.{Option, Some, None, slice_get, slice_index_or}
use Rattle.std.specs.List.{list_any}
use Rattle.one_history.specs.Calls.{is_by}
use Rattle.audit_run.specs.declared.part.SharedCall.{SharedCall}
use Rattle.audit_run.specs.declared.part.SharedPart.{SharedPart}
use Rattle.audit_run.specs.declared.place.Place.{Place}
use Rattle.audit_run.specs.declared.rows.LeftCall.{LeftCall}
use Rattle.audit_run.specs.Orders.{told_at}
use Rattle.audit_run.specs.Parts.{is_of}

abbrev pub left_call : SharedCall → LeftCall
left_call c = record { serial = c.serial; mark = c.mark }

-- those of these calls that are of a part
abbrev pub left_of : SharedPart → List SharedCall → List LeftCall
left_of p [] = []
left_of p (c ∷ cs) = if is_of p c then left_call c ∷ left_of p cs else left_of p cs

-- the marks of one serial
abbrev pub marks_left : ℕ → List LeftCall → List ℕ
marks_left serial [] = []
marks_left serial (x ∷ xs) =
    if x.serial == serial then x.mark ∷ marks_left serial xs else marks_left serial xs

-- and of one side
abbrev pub left_in : List (List LeftCall) → ℕ → ℕ → List ℕ
left_in rows worker serial = marks_left serial (slice_index_or rows worker [])

abbrev pub has_serial : ℕ → List LeftCall → Bool
has_serial serial xs = list_any (λ x. x.serial == serial) xs

-- the call of a mark stands there, and none before it is of its serial
pub record IsNextAt (row : List LeftCall) (mark at : ℕ) : Type 0 where
  pub call : LeftCall
  pub is : slice_get row at ≡ Some call
  pub mark_is : call.mark ≡ mark
  pub first : has_serial call.serial (take at row) ≡ false

-- the next call of a serial is taken out, where it is this mark's
abbrev pub TakesNext : List LeftCall → ℕ → Option ℕ → List LeftCall → Type 0
TakesNext row mark None new =
    (new ≡ row) × ((serial : ℕ) (more : List ℕ) → marks_left serial row ≢ mark ∷ more)
TakesNext row mark (Some serial) new =
    (other : ℕ) → marks_left other row
    ≡ (if serial == other then mark ∷ marks_left other new else marks_left other new)

-- the same of the side of a place
abbrev pub TakesPlace : List (List LeftCall) → Place → Option ℕ → List (List LeftCall) → Type 0
TakesPlace rows place None new =
    (serial : ℕ) (more : List ℕ) → left_in rows place.side serial ≢ place.mark ∷ more
TakesPlace rows place (Some serial) new =
    (worker other : ℕ) → left_in rows worker other
    ≡ (if is_by worker other (told_at place serial)
    then place.mark ∷ left_in new worker other
    else left_in new worker other)
