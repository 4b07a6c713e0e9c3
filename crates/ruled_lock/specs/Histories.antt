-- Histories of calls.
use Rattle.std.specs.Prelude.{◌≡◌, ℕ, List, [], ◌∷◌, ◌++◌, length, map, slice_get, Option}
use Rattle.std.specs.Prelude.{if◌then◌else◌, nat_lt}

module _ {E : Type 0} where
  abbrev pub Begins : List E → List E → Type 0
  Begins seen log = (rest : List E) × (log ≡ seen ++ rest)

  abbrev pub EachBegins : List (List E) → List E → Type 0
  EachBegins [] log = Unit {0}
  EachBegins (h ∷ hs) log = Begins h log × EachBegins hs log

  -- the longer of two histories
  abbrev pub longer : List E → List E → List E
  longer xs ys = if nat_lt (length xs) (length ys) then ys else xs

  -- what stands at the places of the list
  abbrev pub calls_at : List E → List ℕ → List (Option E)
  calls_at log places = map (slice_get log) places

module _ {O K R : Type 0} where
  -- the history leads from x to y, and each call is allowed at its place
  abbrev pub Leads : (O → K → R → O → Type 0) → (O → K → Type 0) → O → List (K × R) → O → Type 0
  Leads goes allowed x [] y = x ≡ y
  Leads goes allowed x (e ∷ es) y =
      allowed x e.0 × (z : O) × goes x e.0 e.1 z × Leads goes allowed z es y
