-- Passes that come back one after another.
use Rattle.std.proofs.Common.{◌≡◌, ℕ, zero, suc, List, [], ◌∷◌, ◌++◌, length, Some, None, refl, sym, ap, subst, ◌⊎◌, inl, inr, ⊎_elim}
use Rattle.std.specs.List.{All, slice_get}
use mathlib.Core.List.{map-append}
use Rattle.std.proofs.lemmas.Option.{none-some, same_Some}
use Rattle.std.proofs.lemmas.List.Elements.{All-push, All-nil}
use Rattle.atomic_table.specs.Seated.{TableId}
use Rattle.pin_table.specs.declared.passes.Pass.{Pass}
use Rattle.pin_table.specs.declared.views.PassView.{PassView}
use Rattle.pin_table.specs.{Keeps, pass_of, views_of}
use Rattle.pin_soak.specs.declared.chains.Chain.{Chain}
use Rattle.pin_soak.specs.Chains.{identity_of, log_of}
use Rattle.pin_soak.specs.Roles.{AreHome}

at_snoc : {A : Type 0} (xs : List A) (a b : A) (i : ℕ) → slice_get (xs ++ a ∷ []) i ≡ Some b
    → (slice_get xs i ≡ Some b) ⊎ ((i ≡ length xs) × (a ≡ b))
at_snoc [] a b zero e = inr (refl, same_Some a b e)
at_snoc [] a b (suc i) e = absurd (none-some b e)
at_snoc (x ∷ xs) a b zero e = inl e
at_snoc (x ∷ xs) a b (suc i) e =
    ⊎_elim (λ t. inl t) (λ t. inr (ap suc t.0, t.1)) (at_snoc xs a b i e)

pub home_none : (id : TableId) → AreHome id []
home_none id = record {
  idle = λ w pass e. absurd (none-some pass e);
  kept = All-nil (λ (q : PassView Chain). Keeps identity_of log_of q.turns);
}

-- one pass more
pub home_push : (id : TableId) (passes : List (Pass Chain)) (pass : Pass Chain) → AreHome id passes
    → pass.seat.table_id ≡ id → (pass_of pass).worker ≡ length passes → (pass_of pass).held ≡ None
    → Keeps identity_of log_of (pass_of pass).turns → AreHome id (passes ++ pass ∷ [])
home_push id passes pass h own number idle kept = record {
  idle = λ w other e. ⊎_elim
      (λ (t : slice_get passes w ≡ Some other). h.idle w other t)
      (λ (t : (w ≡ length passes) × (pass ≡ other)).
      subst (λ (z : ℕ × Pass Chain). (z.1.seat.table_id ≡ id) × ((pass_of z.1).worker ≡ z.0) × ((pass_of z.1).held ≡ None))
      (λ k. (sym t.0 k, t.1 k)) (own, number, idle))
      (at_snoc passes pass other w e);
  kept = subst (All (λ (q : PassView Chain). Keeps identity_of log_of q.turns)) (sym (map-append (λ (z : Pass Chain). pass_of z) passes (pass ∷ [])))
      (All-push (λ (q : PassView Chain). Keeps identity_of log_of q.turns) (views_of passes) (pass_of pass) h.kept kept);
}
