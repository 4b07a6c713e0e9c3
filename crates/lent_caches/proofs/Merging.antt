-- A list that merges others, place by place, has their elements put together.
use Rattle.std.proofs.Common.{◌≡◌, inl, inr, ℕ, zero, suc, List, [], ◌∷◌, Some, refl, sym, subst}
use Rattle.std.specs.Prelude.{slice_get, slice_set}
use Rattle.std.proofs.lemmas.Option.{same_Some}
use Rattle.cache_shards.specs.Merges.{AreEmpty, Merges}
use Rattle.ruled_lock.specs.Shuffles.{MergesTo, Shuffle, filled}

none_left : {N : Type 0} (lists : List (List N)) → AreEmpty lists → MergesTo (filled lists) []
none_left [] empty = refl
none_left ([] ∷ lists) empty = none_left lists empty
none_left ((e ∷ list) ∷ lists) empty = absurd empty

alone : {N : Type 0} (all : List N) → Shuffle [] all all
alone [] = (refl, refl)
alone (a ∷ all) = inr (all, refl, alone all)

-- an element in front, which is the first of the list at a place
in_front : {N : Type 0} (lists : List (List N)) (at : ℕ) (e : N) (rest log : List N) → slice_get lists at ≡ Some (e ∷ rest)
    → MergesTo (filled (slice_set lists at rest)) log → MergesTo (filled lists) (e ∷ log)
in_front [] at e rest log is m = absurd cc
in_front {N} (list ∷ lists) zero e [] log is m =
    subst (λ (l : List N). MergesTo (filled (l ∷ lists)) (e ∷ log)) (sym (same_Some list (e ∷ []) is)) (log, m, inl ([], refl, alone log))
in_front {N} (list ∷ lists) zero e (r ∷ rest) log is m =
    subst (λ (l : List N). MergesTo (filled (l ∷ lists)) (e ∷ log)) (sym (same_Some list (e ∷ r ∷ rest) is)) (m.0, m.1, inl (r ∷ rest, refl, m.2))
in_front ([] ∷ lists) (suc at) e rest log is m = in_front lists at e rest log is m
in_front ((x ∷ xs) ∷ lists) (suc at) e rest log is m = (e ∷ m.0, in_front lists at e rest m.0 is m.1, inr (m.0, refl, m.2))

pub merges_to : {N : Type 0} (lists : List (List N)) (log : List N) → Merges lists log → MergesTo (filled lists) log
merges_to lists [] m = none_left lists m
merges_to lists (e ∷ log) m = in_front lists m.0 e m.1 log m.2 (merges_to (slice_set lists m.0 m.1) log m.3)
