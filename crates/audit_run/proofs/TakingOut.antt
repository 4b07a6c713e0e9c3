-- Taking a call out of a row.
use Rattle.std.proofs.Common.{◌≡◌, ℕ, zero, suc, ◌==◌, ◌||◌, Bool, true, false, List, [], ◌∷◌}
use Rattle.std.proofs.Common.{refl, sym, ap, ◌∙◌, take, eqb-true, eq-eqb}
use Rattle.std.proofs.Common.{Some, None}
use Rattle.std.specs.Prelude.{slice_get, if◌then◌else◌}
use Rattle.std.specs.List.{remove}
use Rattle.std.proofs.lemmas.Bool.{false≢true, or_parts}
use Rattle.std.proofs.lemmas.Option.{same_Some}
use Rattle.audit_run.specs.declared.rows.LeftCall.{LeftCall}
use Rattle.audit_run.specs.Rows.{IsNextAt, TakesNext, has_serial, marks_left}

-- which calls are left when one is taken out
pub taken_out : (row : List LeftCall) (at : ℕ) (x : LeftCall) → slice_get row at ≡ Some x
    → has_serial x.serial (take at row) ≡ false → (other : ℕ)
    → marks_left other row
    ≡ (if x.serial == other then x.mark ∷ marks_left other (remove row at)
    else marks_left other (remove row at))
taken_out [] at x is first other = cc
taken_out (y ∷ row) zero x is first other =
    ap (λ z. if z.serial == other then z.mark ∷ marks_left other row else marks_left other row)
    (same_Some y x is)
taken_out (y ∷ row) (suc at) x is first other =
    let parts = or_parts (y.serial == x.serial) (has_serial x.serial (take at row)) first in
    by_own (y.serial == other) (x.serial == other) refl refl parts.0
    (taken_out row at x is parts.1 other)
  where
    by_own : (b c : Bool) → (y.serial == other) ≡ b → (x.serial == other) ≡ c
        → (y.serial == x.serial) ≡ false
        → marks_left other row
        ≡ (if c then x.mark ∷ marks_left other (remove row at)
        else marks_left other (remove row at))
        → (if b then y.mark ∷ marks_left other row else marks_left other row)
        ≡ (if c then x.mark
        ∷ (if b then y.mark ∷ marks_left other (remove row at)
        else marks_left other (remove row at))
        else (if b then y.mark ∷ marks_left other (remove row at)
        else marks_left other (remove row at)))
    by_own true true e f apart more =
        absurd (let a = eqb-true y.serial other e in let b = eqb-true x.serial other f in
        false≢true (sym apart ∙ eq-eqb y.serial x.serial (a ∙ sym b)))
    by_own true false e f apart more = ap (λ l. y.mark ∷ l) more
    by_own false true e f apart more = more
    by_own false false e f apart more = more

-- the next call of a serial can be found
pub found_next : (row : List LeftCall) (serial mark : ℕ) (more : List ℕ)
    → marks_left serial row ≡ mark ∷ more
    → (at : ℕ) × (next : IsNextAt row mark at) × (next.call.serial ≡ serial)
found_next [] serial mark more e = cc
found_next (y ∷ row) serial mark more e =
    by_own (y.serial == serial) refl e (λ f. found_next row serial mark more f)
  where
    behind : (at : ℕ) (next : IsNextAt row mark at) → next.call.serial ≡ serial
        → (y.serial == serial) ≡ false
        → (at : ℕ) × (next : IsNextAt (y ∷ row) mark at) × (next.call.serial ≡ serial)
    behind at next same other = (
      suc at,
      record {
        call = next.call;
        is = next.is;
        mark_is = next.mark_is;
        first = ap (λ s. (y.serial == s) || has_serial next.call.serial (take at row)) same
            ∙ ap (λ b. b || has_serial next.call.serial (take at row)) other ∙ next.first;
      },
      same,
    )

    by_own : (b : Bool) → (y.serial == serial) ≡ b
        → (if b then y.mark ∷ marks_left serial row else marks_left serial row) ≡ mark ∷ more
        → (marks_left serial row ≡ mark ∷ more
        → (at : ℕ) × (next : IsNextAt row mark at) × (next.call.serial ≡ serial))
        → (at : ℕ) × (next : IsNextAt (y ∷ row) mark at) × (next.call.serial ≡ serial)
    by_own true is e further = (
      0,
      record { call = y; is = refl; mark_is = (let h : y.mark ≡ mark = cc in h); first = refl },
      eqb-true y.serial serial is,
    )
    by_own false is e further = let f = further e in behind f.0 f.1 f.2 is

pub none_next : (row : List LeftCall) (mark : ℕ) → ((at : ℕ) → IsNextAt row mark at → ⊥)
    → TakesNext row mark None row
none_next row mark none =
    (refl, λ serial more e. let f = found_next row serial mark more e in none f.0 f.1)

pub some_next : (row : List LeftCall) (mark at : ℕ) (x : LeftCall) (next : IsNextAt row mark at)
    → slice_get row at ≡ Some x → TakesNext row mark (Some x.serial) (remove row at)
some_next row mark at x next is = λ other.
    let same : next.call ≡ x = same_Some next.call x (sym next.is ∙ is) in
    let first : has_serial x.serial (take at row) ≡ false =
    ap (λ z. has_serial z.serial (take at row)) (sym same) ∙ next.first in
    let mark_is : x.mark ≡ mark = ap (λ z. z.mark) (sym same) ∙ next.mark_is in
    taken_out row at x is first other
    ∙ ap (λ m. if x.serial == other then m ∷ marks_left other (remove row at)
    else marks_left other (remove row at)) mark_is
