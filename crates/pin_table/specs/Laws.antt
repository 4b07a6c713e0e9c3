-- What callers may cite of chains that are made one after another.
use Rattle.std.specs.Prelude.{◌≡◌, ℕ, suc, ◌+◌, List, [], ◌∷◌, ◌++◌, length}
use Rattle.std.proofs.Common.{◌∙◌, arith}
use Rattle.pin_table.specs.Tags.{Identity, IsEmpty, AreNew}

module _ {C K N : Type 0} (identity : C → Identity K) (log : C → List (List N)) where
  -- a new chain for the next worker
  pub AreNew-push : (serial worker : ℕ) (cs : List C) (c : C) → AreNew identity log serial worker cs
      → (identity c).serial ≡ serial → (identity c).worker ≡ worker + length cs → IsEmpty (log c)
      → AreNew identity log serial worker (cs ++ c ∷ [])
  AreNew-push serial worker [] c h is at empty =
      let here : worker + 0 ≡ worker = omega arith in (is, at ∙ here, empty, tt)
  AreNew-push serial worker (x ∷ xs) c h is at empty =
      let next : worker + suc (length xs) ≡ worker + 1 + length xs = omega arith in
      (h.0, h.1, h.2, AreNew-push serial (worker + 1) xs c h.3 is (at ∙ next) empty)
