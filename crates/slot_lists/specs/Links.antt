-- Lists of slots by links, each of which leads from a slot to the next. This server's own rule.
use Rattle.std.specs.Prelude.{◌≡◌, ℕ, zero, suc, ◌<◌, ◌⊎◌, ◌==◌, if◌then◌else◌, List, [], ◌∷◌}
use Rattle.std.specs.Prelude.{length, slice_index}

-- the links lead from one place over these slots to another place
abbrev pub Leads : List ℕ → ℕ → List ℕ → ℕ → Type 0
Leads links from [] to = from ≡ to
Leads links from (slot ∷ slots) to =
    (from ≡ slot) × (slot < length links) × Leads links (slice_index links slot) slots to

-- the slot is one of these
abbrev pub IsIn : ℕ → List ℕ → Type 0
IsIn slot [] = ⊥
IsIn slot (first ∷ rest) = (slot ≡ first) ⊎ IsIn slot rest

-- no slot stands twice
abbrev pub Once : List ℕ → Type 0
Once [] = Unit {0}
Once (first ∷ rest) = (IsIn first rest → ⊥) × Once rest

-- the slots from a place on, up to place 0, so many at most
abbrev pub walked : ℕ → List ℕ → ℕ → List ℕ
walked zero links from = []
walked (suc most) links from =
    if from == 0 then [] else from ∷ walked most links (slice_index links from)
