-- When an order of the calls of a shared part is a history of it, and at which place it is none.
-- This server's own rule.
use Rattle.std.specs.Prelude.{◌≡◌, ◌≢◌, ◌≤◌, ℕ, List, [], ◌∷◌, ◌++◌, map, take, length}
use Rattle.std.specs.Prelude.{Option, Some, None, slice_get}
use Rattle.one_history.specs.Calls.{Told, told_by}
use Rattle.audit_run.specs.declared.place.Place.{Place}

-- the place of a mark that is told
abbrev pub place_of : Told ℕ → Place
place_of t = record { side = t.worker; mark = t.mark }

-- what a place tells, where its mark is of this serial
abbrev pub told_at : Place → ℕ → Told ℕ
told_at place serial = record { worker = place.side; serial = serial; mark = place.mark }

-- each of these may stand behind those before it
abbrev pub AllAllowed : {N : Type 0} → (List N → N → Type 0) → List N → List N → Type 0
AllAllowed allows before [] = Unit {0}
AllAllowed allows before (t ∷ ts) = allows before t × AllAllowed allows (before ++ t ∷ []) ts

-- no mark is of two serials of a side
abbrev pub AreApart : (ℕ → ℕ → List ℕ) → Type 0
AreApart marks = (worker s t mark : ℕ) (xs ys zs ws : List ℕ) → marks worker s ≡ xs ++ mark ∷ ys
    → marks worker t ≡ zs ++ mark ∷ ws → s ≡ t

-- The marks of a part, by side and serial, and which of them may stand behind which.
module _ (marks : ℕ → ℕ → List ℕ) (allows : List (Told ℕ) → Told ℕ → Type 0) where
  -- a history may begin so: of each side and serial these are the first marks, in their order, and
  -- each may stand behind those before it
  pub record Begins (told : List (Told ℕ)) : Type 0 where
    pub first : (worker serial : ℕ) → (more : List ℕ)
        × (marks worker serial ≡ told_by worker serial told ++ more)
    pub legal : AllAllowed allows [] told

  -- a history has these places, in this order: it has just the marks of each side and serial
  pub record IsHistory (places : List Place) : Type 0 where
    pub told : List (Told ℕ)
    pub are : map place_of told ≡ places
    pub each : (worker serial : ℕ) → told_by worker serial told ≡ marks worker serial
    pub legal : AllAllowed allows [] told

  -- the place has a fault behind these: at no serial is its mark the next one and may stand there.
  -- Behind the last place a mark is missing.
  abbrev pub Fails : List (Told ℕ) → Option Place → Type 0
  Fails told (Some place) = (serial : ℕ) → Begins (told ++ told_at place serial ∷ []) → ⊥
  Fails told None = (worker : ℕ) × (serial : ℕ) × (told_by worker serial told ≢ marks worker serial)

  -- a history may begin with the places before this one, which has a fault
  pub record FailsAt (places : List Place) (at : ℕ) : Type 0 where
    pub within : at ≤ length places
    pub told : List (Told ℕ)
    pub are : map place_of told ≡ take at places
    pub begins : Begins told
    pub fails : Fails told (slice_get places at)

  -- what an order comes to
  abbrev pub Comes : List Place → Option ℕ → Type 0
  Comes places None = IsHistory places
  Comes places (Some at) = FailsAt places at
