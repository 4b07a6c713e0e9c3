-- Words of eight bytes, and bytes that are equal word by word.
use Rattle.std.proofs.Common.{◌≡◌, ◌↔◌, ℕ, zero, suc, ◌+◌, ◌-◌, ◌<◌, ◌≤◌, IsTrue, nat_eq, List, [], ◌∷◌, ◌++◌, length, drop, take, refl, sym, ap, ◌∙◌, arith, eqb-true, length-take, length-drop}
use Rattle.std.specs.Prelude.{slice_index, slice_range}
use Rattle.std.specs.Int.{w64, from_le_bytes, to_le_bytes}
use Rattle.std.proofs.lemmas.Nat.{le_bytes_8}
use Rattle.std.proofs.lemmas.Bool.{eq-eqb}
use Rattle.std.proofs.lemmas.List.{take-append-drop, take_rest}
use Rattle.std.proofs.Math.Seq.{take-add}

none_there : (at count i : ℕ) → slice_index (take count (drop at [])) i ≡ 0
none_there zero zero i = refl
none_there zero (suc count) i = refl
none_there (suc at) zero i = refl
none_there (suc at) (suc count) i = refl

few_in : (bytes : List ℕ) (at count : ℕ) → ((i : ℕ) → slice_index bytes i < 256) → (i : ℕ) → slice_index (take count (drop at bytes)) i < 256
few_in [] at count few i = omega (arith, none_there at count i)
few_in (x ∷ bytes) zero zero few i = omega arith
few_in (x ∷ bytes) zero (suc count) few zero = few zero
few_in (x ∷ bytes) zero (suc count) few (suc i) = few_in bytes zero count (λ j. few (suc j)) i
few_in (x ∷ bytes) (suc at) count few i = few_in bytes at count (λ j. few (suc j)) i

sized : (bytes : List ℕ) (at : ℕ) → at + 8 ≤ length bytes → length (slice_range bytes at (at + 8)) ≡ 8
sized bytes at inside = omega (arith, length-take (at + 8 - at) (drop at bytes), length-drop at bytes, inside)

pub same_word : (a b : List ℕ) (at x y : ℕ) → at + 8 ≤ length a → at + 8 ≤ length b → ((i : ℕ) → slice_index a i < 256) → ((i : ℕ) → slice_index b i < 256)
    → x ≡ from_le_bytes w64 (slice_range a at (at + 8)) → y ≡ from_le_bytes w64 (slice_range b at (at + 8)) → (IsTrue (nat_eq x y) ↔ (slice_range a at (at + 8) ≡ slice_range b at (at + 8)))
same_word a b at x y p q few_a few_b is_x is_y =
    let left = le_bytes_8 (slice_range a at (at + 8)) x (sized a at p) (few_in a at (at + 8 - at) few_a) is_x in
    let right = le_bytes_8 (slice_range b at (at + 8)) y (sized b at q) (few_in b at (at + 8 - at) few_b) is_y in
    (λ h. sym left ∙ ap (to_le_bytes w64) (eqb-true x y h) ∙ right, λ e. eq-eqb x y (is_x ∙ ap (from_le_bytes w64) e ∙ sym is_y))

one_more : (bytes : List ℕ) (at : ℕ) → take (at + 8) bytes ≡ take at bytes ++ slice_range bytes at (at + 8)
one_more bytes at = let eight : at + 8 - at ≡ 8 = omega arith in take-add at 8 bytes ∙ ap (λ n. take at bytes ++ take n (drop at bytes)) (sym eight)

pub goes_on : (a b : List ℕ) (at : ℕ) → take at a ≡ take at b → slice_range a at (at + 8) ≡ slice_range b at (at + 8) → take (at + 8) a ≡ take (at + 8) b
goes_on a b at before word = one_more a at ∙ (λ i. before i ++ word i) ∙ sym (one_more b at)

-- the last word takes the rest
rest_of : (bytes : List ℕ) (last : ℕ) → last + 8 ≡ length bytes → bytes ≡ take last bytes ++ slice_range bytes last (last + 8)
rest_of bytes last long =
    let rest : length bytes - last ≡ last + 8 - last = omega (arith, long) in
    sym (take-append-drop last bytes) ∙ ap (λ t. take last bytes ++ t) (sym (take_rest bytes last) ∙ ap (λ n. take n (drop last bytes)) rest)

fewer : (bytes : List ℕ) (less more : ℕ) → less ≤ more → take less (take more bytes) ≡ take less bytes
fewer bytes zero more le = refl
fewer [] (suc less) zero le = refl
fewer [] (suc less) (suc more) le = refl
fewer (x ∷ bytes) (suc less) zero le = absurd (omega (arith, le))
fewer (x ∷ bytes) (suc less) (suc more) le = ap (λ t. x ∷ t) (fewer bytes less more (omega (arith, le)))

pub ends : (a b : List ℕ) (at last : ℕ) → last + 8 ≡ length a → length a ≡ length b → last ≤ at → take at a ≡ take at b → (slice_range a last (last + 8) ≡ slice_range b last (last + 8) → a ≡ b)
ends a b at last long same le before word =
    let front : take last a ≡ take last b = sym (fewer a last at le) ∙ ap (take last) before ∙ fewer b last at le in
    rest_of a last long ∙ (λ i. front i ++ word i) ∙ sym (rest_of b last (omega (arith, long, same)))
