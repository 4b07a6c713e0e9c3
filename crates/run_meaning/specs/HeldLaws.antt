-- A serial is held exactly where one of the workers pinned it last among those below, and none is
-- held twice.
use Rattle.std.proofs.Common.{◌≡◌, ◌⊎◌, ℕ, zero, suc, Bool, true, false, List, [], ◌∷◌, refl, sym, ap}
use Rattle.std.proofs.Common.{subst, Option, Some, None, inl, inr, arith, eqb}
use Rattle.std.specs.Prelude.{◌↔◌, ◌||◌, map, if◌then◌else◌}
use Rattle.std.specs.List.{AllByRecursion, Contains, IsDistinct, list_any}
use Rattle.std.proofs.lemmas.Bool.{eqb-true}
use Rattle.std.proofs.lemmas.Map.Views.{Contains-from_any}
use Rattle.pin_table.specs.Known.{last_below}
use Rattle.run_meaning.specs.Held.{held_by, with_serial}

member : {X : Type 0} (x : X) (xs : List X) (y : X) → Contains (x ∷ xs) y → (x ≡ y) ⊎ Contains xs y
member x xs y (zero, inside, is) = inl is
member x xs y (suc k, inside, is) = inr (k, omega arith, is)

behind : {X : Type 0} (x : X) (xs : List X) (y : X) → Contains xs y → Contains (x ∷ xs) y
behind x xs y (k, inside, is) = (suc k, omega arith, is)

-- the list with a serial has those of the list
stays : (some : Option ℕ) (held : List ℕ) (serial : ℕ) → Contains held serial
    → Contains (with_serial some held) serial
stays None held serial h = h
stays (Some s) held serial h = by (list_any (eqb s) held)
  where
    by : (b : Bool) → Contains (if b then held else s ∷ held) serial
    by true = h
    by false = behind s held serial h

-- the list with a serial has it
stands : (held : List ℕ) (serial : ℕ) → Contains (with_serial (Some serial) held) serial
stands held serial = by (list_any (eqb serial) held) refl
  where
    by : (b : Bool) → list_any (eqb serial) held ≡ b
        → Contains (if b then held else serial ∷ held) serial
    by true is = Contains-from_any eqb-true serial held is
    by false is = (0, omega arith, refl)

-- it has nothing else
came : (some : Option ℕ) (held : List ℕ) (serial : ℕ) → Contains (with_serial some held) serial
    → (some ≡ Some serial) ⊎ Contains held serial
came None held serial h = inr h
came (Some s) held serial h = by (list_any (eqb s) held) h
  where
    by : (b : Bool) → Contains (if b then held else s ∷ held) serial
        → (Some s ≡ Some serial) ⊎ Contains held serial
    by true h = inr h
    by false h = elim (member s held serial h) as (λ _. (Some s ≡ Some serial) ⊎ Contains held serial)
        [ inl is ↦ inl (ap Some is) | inr in_held ↦ inr in_held ]

is_last : (last : ℕ) (pinned : List (List ℕ)) (serial : ℕ) → Contains (held_by last pinned) serial
    → Contains (map (last_below last) pinned) (Some serial)
is_last last [] serial (k, inside, is) = absurd (omega arith)
is_last last (mine ∷ others) serial h =
    by (came (last_below last mine) (held_by last others) serial h) (is_last last others serial)
  where
    by : (last_below last mine ≡ Some serial) ⊎ Contains (held_by last others) serial
        → (Contains (held_by last others) serial
        → Contains (map (last_below last) others) (Some serial))
        → Contains (map (last_below last) (mine ∷ others)) (Some serial)
    by (inl is) on = (0, omega arith, is)
    by (inr rest) on =
        behind (last_below last mine) (map (last_below last) others) (Some serial) (on rest)

is_held : (last : ℕ) (pinned : List (List ℕ)) (serial : ℕ)
    → Contains (map (last_below last) pinned) (Some serial) → Contains (held_by last pinned) serial
is_held last [] serial (k, inside, is) = absurd (omega arith)
is_held last (mine ∷ others) serial h =
    by (member (last_below last mine) (map (last_below last) others) (Some serial) h)
    (is_held last others serial)
  where
    by : (last_below last mine ≡ Some serial)
        ⊎ Contains (map (last_below last) others) (Some serial)
        → (Contains (map (last_below last) others) (Some serial)
        → Contains (held_by last others) serial)
        → Contains (held_by last (mine ∷ others)) serial
    by (inl is) on =
        subst (λ some. Contains (with_serial some (held_by last others)) serial) (sym is)
        (stands (held_by last others) serial)
    by (inr rest) on =
        stays (last_below last mine) (held_by last others) serial (on rest)

-- a serial is held exactly where one of the workers pinned it last among those below
pub held_exactly : (last : ℕ) (pinned : List (List ℕ)) (serial : ℕ)
    → Contains (held_by last pinned) serial ↔ Contains (map (last_below last) pinned) (Some serial)
held_exactly last pinned serial = (is_last last pinned serial, is_held last pinned serial)

none_same : (serial : ℕ) (held : List ℕ) → list_any (eqb serial) held ≡ false
    → AllByRecursion (λ other. eqb serial other ≡ false) held
none_same serial [] h = tt
none_same serial (one ∷ held) h =
    by (eqb serial one) (list_any (eqb serial) held) refl refl h (none_same serial held)
  where
    by : (first rest : Bool) → eqb serial one ≡ first → list_any (eqb serial) held ≡ rest
        → (first || rest) ≡ false
        → (list_any (eqb serial) held ≡ false
        → AllByRecursion (λ other. eqb serial other ≡ false) held)
        → AllByRecursion (λ other. eqb serial other ≡ false) (one ∷ held)
    by true rest is others h on = absurd cc
    by false true is others h on = absurd cc
    by false false is others h on = (is, on others)

once_with : (some : Option ℕ) (held : List ℕ) → IsDistinct eqb held
    → IsDistinct eqb (with_serial some held)
unfolding IsDistinct
once_with None held h = h
once_with (Some serial) held h = by (list_any (eqb serial) held) refl
  where
    by : (b : Bool) → list_any (eqb serial) held ≡ b
        → IsDistinct eqb (if b then held else serial ∷ held)
    by true is = h
    by false is = (none_same serial held is, h)

-- none is held twice
pub held_once : (last : ℕ) (pinned : List (List ℕ)) → IsDistinct eqb (held_by last pinned)
unfolding IsDistinct
held_once last [] = tt
held_once last (mine ∷ others) =
    once_with (last_below last mine) (held_by last others) (held_once last others)
