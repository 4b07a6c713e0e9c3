-- What holds of lists holds where the last come first.
use Rattle.std.proofs.Common.{◌≡◌, inl, inr, ℕ, zero, suc, List, [], ◌∷◌, ◌++◌, reverse, Some, slice_get, refl, sym, ap, ◌∙◌, subst, append_assoc}
use Rattle.std.specs.List.{All}
use Rattle.std.proofs.lemmas.List.{append-nil, reverse-append}
use Rattle.std.proofs.lemmas.List.Elements.{All-cons, All-head, All-tail}
use Rattle.std.proofs.lemmas.Option.{none-some, same_Some}
use Rattle.all_home.specs.AllHome.{HasDrain}
use Rattle.pin_table.specs.declared.views.Drain.{Drain}
use Rattle.pin_table.specs.Shown.{IsOther, Once}

-- what holds of each holds of the one at a place
pub at_all : {X : Type 0} (P : X → Type 0) (xs : List X) (k : ℕ) (x : X) → All P xs → slice_get xs k ≡ Some x → P x
at_all P [] k x all is = absurd (none-some x is)
at_all P (y ∷ xs) zero x all is = subst P (same_Some y x is) (All-head P y xs all)
at_all P (y ∷ xs) (suc k) x all is = at_all P xs k x (All-tail P y xs all) is

-- a fact that stays where one in the middle goes to the front stays where the second list goes
-- there, the last one first
module _ {X : Type 0} (F : List X → Type 0) (move : (l : List X) (x : X) (r : List X) → F (l ++ x ∷ r) → F (x ∷ (l ++ r))) where
  pub turned : (l r : List X) → F (l ++ r) → F (reverse r ++ l)
  turned l [] f = subst F (append-nil l) f
  turned l (x ∷ r) f =
      let is : reverse (x ∷ r) ++ l ≡ reverse r ++ x ∷ l = ap (λ (m : List X). m ++ l) (reverse-append (x ∷ []) r) ∙ append_assoc (reverse r) (x ∷ []) l in
      subst F (sym is) (turned (x ∷ l) r (move l x r f))

all_move : {X : Type 0} (P : X → Type 0) (l : List X) (x : X) (r : List X) → All P (l ++ x ∷ r) → All P (x ∷ (l ++ r))
all_move P [] x r all = all
all_move P (y ∷ l) x r all =
    let rest = all_move P l x r (All-tail P y (l ++ x ∷ r) all) in
    All-cons P x (y ∷ (l ++ r)) (All-head P x (l ++ r) rest) (All-cons P y (l ++ r) (All-head P y (l ++ x ∷ r) all) (All-tail P x (l ++ r) rest))

module _ {C : Type 0} where
  once_move : (l : List (Drain C)) (d : Drain C) (r : List (Drain C)) → Once (l ++ d ∷ r) → Once (d ∷ (l ++ r))
  once_move [] d r once = once
  once_move (e ∷ l) d r once =
      let rest = once_move l d r once.1 in
      let others = all_move (IsOther e) l d r once.0 in
      let turn : IsOther d e = λ serial worker. All-head (IsOther e) d (l ++ r) others (sym serial) (sym worker) in
      (All-cons (IsOther d) e (l ++ r) turn rest.0, (All-tail (IsOther e) d (l ++ r) others, rest.1))

  drain_move : (serial worker : ℕ) (l : List (Drain C)) (d : Drain C) (r : List (Drain C)) → HasDrain serial worker (l ++ d ∷ r) → HasDrain serial worker (d ∷ (l ++ r))
  drain_move serial worker [] d r has = has
  drain_move serial worker (e ∷ l) d r (inl is) = inr (inl is)
  drain_move serial worker (e ∷ l) d r (inr other) = by (drain_move serial worker l d r other)
    where
      by : HasDrain serial worker (d ∷ (l ++ r)) → HasDrain serial worker (d ∷ e ∷ (l ++ r))
      by (inl is) = inl is
      by (inr more) = inr (inr more)

  pub all_turned : (P : Drain C → Type 0) (l r : List (Drain C)) → All P (l ++ r) → All P (reverse r ++ l)
  all_turned P l r all = turned (All P) (all_move P) l r all

  pub once_turned : (l r : List (Drain C)) → Once (l ++ r) → Once (reverse r ++ l)
  once_turned l r once = turned Once once_move l r once

  pub drain_turned : (serial worker : ℕ) (l r : List (Drain C)) → HasDrain serial worker (l ++ r) → HasDrain serial worker (reverse r ++ l)
  drain_turned serial worker l r has = turned (HasDrain serial worker) (drain_move serial worker) l r has

  -- where a chain came home
  pub drain_at : (serial worker : ℕ) (ds : List (Drain C)) → HasDrain serial worker ds → (d : Drain C) × (k : ℕ) × (slice_get ds k ≡ Some d) × (d.serial ≡ serial) × (d.worker ≡ worker)
  drain_at serial worker [] has = absurd has
  drain_at serial worker (d ∷ ds) (inl is) = (d, 0, refl, is.0, is.1)
  drain_at serial worker (d ∷ ds) (inr other) = let f = drain_at serial worker ds other in (f.0, suc f.1, f.2, f.3, f.4)
