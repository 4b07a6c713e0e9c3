-- Places in a history, in lists that rise.
use Rattle.std.specs.Prelude.{ℕ, ◌+◌, ◌==◌, Bool, true, ◌&&◌, List, [], ◌∷◌}
use Rattle.std.specs.Prelude.{if◌then◌else◌, nat_lt, nat_le}

-- how often p stands in the list
abbrev pub times : ℕ → List ℕ → ℕ
times p [] = 0
times p (x ∷ xs) = (if x == p then 1 else 0) + times p xs

-- how often p stands in all the lists
abbrev pub times_in : ℕ → List (List ℕ) → ℕ
times_in p [] = 0
times_in p (l ∷ ls) = times p l + times_in p ls

-- 1 where p is below n, and else 0
abbrev pub once_below : ℕ → ℕ → ℕ
once_below p n = if nat_lt p n then 1 else 0

-- the list rises, from low on, and is below high
abbrev pub is_rising : ℕ → List ℕ → ℕ → Bool
is_rising low [] high = nat_le low high
is_rising low (p ∷ ps) high = nat_le low p && is_rising (p + 1) ps high

-- each of the lists rises
abbrev pub each_rising : List (List ℕ) → ℕ → Bool
each_rising [] high = true
each_rising (l ∷ ls) high = is_rising 0 l high && each_rising ls high

-- f of each, added up
abbrev pub total : {V : Type 0} → (V → ℕ) → List V → ℕ
total f [] = 0
total f (v ∷ vs) = f v + total f vs
