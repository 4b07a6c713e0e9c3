-- Walks along a chain of slots.
use Rattle.std.proofs.Common.{◌≡◌, ◌≢◌, ℕ, ◌-◌, ◌*◌, ◌/◌, ◌%◌, ◌^◌, ◌<◌, ◌≤◌, false, List, [], ◌∷◌, ◌++◌, length, refl, inl, inr, sym, ap, subst, ◌∙◌, arith, Some, append-nil, append_assoc}
use Rattle.std.specs.Prelude.{◌⊎◌, slice_index, slice_get}
use Rattle.std.proofs.Math.Nat.{div-lt_iff_lt-mul, mul-lt-mul_of_pos_right}
use Rattle.outside.specs.{same_key}
use Rattle.outside.specs.declared.entry.Key.{Key}
use Rattle.slot_lists.specs.Links.{Leads, IsIn, Once, walked}
use Rattle.slot_lists.proofs.Links.{in_middle, in_back}
use Rattle.slot_lists.proofs.Chained.{told}
use Rattle.cache_shards.specs.Slots.{Pair, AreOthers, IsChainOf, IsWalk, chain_of}

-- the chain of a hash is one of so many
pub chain_low : (hash room : ℕ) → 0 < room → chain_of hash room < room
unfolding chain_of
chain_low hash room some =
    let half : hash % 2 ^ 64 / 2 ^ 32 < 2 ^ 32 = omega arith in
    let all : hash % 2 ^ 64 / 2 ^ 32 * room < 2 ^ 32 * room = mul-lt-mul_of_pos_right half some in
    (div-lt_iff_lt-mul {k = 2 ^ 32} {x = hash % 2 ^ 64 / 2 ^ 32 * room} {y = room} (omega arith)).1 (omega (arith, all))

in_either : (xs : List ℕ) (q s : ℕ) → IsIn s (xs ++ q ∷ []) → IsIn s xs ⊎ (s ≡ q)
in_either [] q s h = elim h [ inl e ↦ inr e | inr r ↦ absurd r ]
in_either (x ∷ xs) q s h = elim h [
  | inl e ↦ inl (inl e)
  | inr r ↦ elim (in_either xs q s r) [ inl i ↦ inl (inr i) | inr e ↦ inr e ]
]

once_back : (zs ys : List ℕ) → Once (zs ++ ys) → Once ys
once_back [] ys o = o
once_back (z ∷ zs) ys o = once_back zs ys o.1

pub walk_starts : (pairs : List Pair) (heads nexts : List ℕ) (key : Key) (at : ℕ) (slots : List ℕ) → IsChainOf heads nexts (length pairs) at slots
    → IsWalk pairs heads nexts key at (slice_index heads at)
walk_starts pairs heads nexts key at slots c = record {
  slots = slots;
  is = c;
  xs = [];
  ys = slots;
  parts = refl;
  from = c.path;
  passed = λ s p h. absurd h;
}

-- what is known of the slot that a walk has come to
pub record IsHere (pairs : List Pair) (nexts : List ℕ) (slot : ℕ) (ys : List ℕ) : Type 0 where
  pub rest : List ℕ
  pub is : ys ≡ slot ∷ rest
  pub next : Leads nexts (slice_index nexts slot) rest 0
  pub some : 0 < slot
  pub few : slot ≤ length pairs
  pub low : slot < length nexts

pub here : (pairs : List Pair) (heads nexts : List ℕ) (key : Key) (at slot : ℕ) (w : IsWalk pairs heads nexts key at slot) → slot ≢ 0
    → IsHere pairs nexts slot w.ys
here pairs heads nexts key at slot w n = go w.ys w.parts w.from
  where
    go : (ys : List ℕ) → w.slots ≡ w.xs ++ ys → Leads nexts slot ys 0 → IsHere pairs nexts slot ys
    go [] e p = absurd (n p)
    go (y ∷ ys) e p =
        let in_it : IsIn y w.slots = subst (IsIn y) (sym e) (in_middle w.xs y ys) in
        record {
          rest = ys;
          is = ap (λ (z : ℕ). z ∷ ys) (sym p.0);
          next = subst (λ (z : ℕ). Leads nexts (slice_index nexts z) ys 0) (sym p.0) p.2;
          some = subst (λ (z : ℕ). 0 < z) (sym p.0) (w.is.some y in_it);
          few = subst (λ (z : ℕ). z ≤ length pairs) (sym p.0) (w.is.few y in_it);
          low = subst (λ (z : ℕ). z < length nexts) (sym p.0) p.1;
        }

pub walk_steps : (pairs : List Pair) (heads nexts : List ℕ) (key : Key) (at slot : ℕ) (p : Pair) → IsWalk pairs heads nexts key at slot → slot ≢ 0
    → slice_get pairs (slot - 1) ≡ Some p → same_key key p.0 ≡ false → IsWalk pairs heads nexts key at (slice_index nexts slot)
walk_steps pairs heads nexts key at slot p w n is other =
    let h = here pairs heads nexts key at slot w n in
    record {
      slots = w.slots;
      is = w.is;
      xs = w.xs ++ slot ∷ [];
      ys = h.rest;
      parts = w.parts ∙ ap (λ (l : List ℕ). w.xs ++ l) h.is ∙ sym (append_assoc w.xs (slot ∷ []) h.rest);
      from = h.next;
      passed = λ s q i e. elim (in_either w.xs slot s i) [
        | inl before ↦ w.passed s q before e
        | inr same ↦
            let one : Some q ≡ Some p = sym e ∙ ap (λ (z : ℕ). slice_get pairs (z - 1)) same ∙ is in
            let eq : q ≡ p = cc in
            subst (λ (z : Pair). same_key key z.0 ≡ false) (sym eq) other
      ];
    }

left_is : (pairs : List Pair) (heads nexts : List ℕ) (key : Key) (at slot : ℕ) (w : IsWalk pairs heads nexts key at slot) (ys : List ℕ) (from : ℕ) (xs : List ℕ)
    → w.slots ≡ xs ++ ys → Leads nexts from ys 0 → walked (length nexts) nexts from ≡ ys
left_is pairs heads nexts key at slot w ys from xs e p =
    told nexts from ys p (once_back xs ys (subst Once e w.is.once))
    (λ h. let z = w.is.some 0 (subst (IsIn 0) (sym e) (in_back xs ys 0 h)) in absurd (omega (arith, z)))

pub walk_shrinks : (pairs : List Pair) (heads nexts : List ℕ) (key : Key) (at slot : ℕ) → IsWalk pairs heads nexts key at slot → slot ≢ 0
    → length (walked (length nexts) nexts (slice_index nexts slot)) < length (walked (length nexts) nexts slot)
walk_shrinks pairs heads nexts key at slot w n =
    let h = here pairs heads nexts key at slot w n in
    let now : walked (length nexts) nexts slot ≡ slot ∷ h.rest = left_is pairs heads nexts key at slot w w.ys slot w.xs w.parts w.from ∙ h.is in
    let then : walked (length nexts) nexts (slice_index nexts slot) ≡ h.rest =
    left_is pairs heads nexts key at slot w h.rest (slice_index nexts slot) (w.xs ++ slot ∷ [])
    (w.parts ∙ ap (λ (l : List ℕ). w.xs ++ l) h.is ∙ sym (append_assoc w.xs (slot ∷ []) h.rest)) h.next in
    subst (λ (a : List ℕ). length a < length (walked (length nexts) nexts slot)) (sym then)
    (subst (λ (b : List ℕ). length h.rest < length b) (sym now) (let low : length h.rest < length (slot ∷ h.rest) = omega arith in low))

pub walk_ends : (pairs : List Pair) (heads nexts : List ℕ) (key : Key) (at slot : ℕ) → IsWalk pairs heads nexts key at slot → slot ≡ 0
    → AreOthers pairs key (walked (length nexts) nexts (slice_index heads at))
walk_ends pairs heads nexts key at slot w e = go w.ys w.parts w.from
  where
    go : (ys : List ℕ) → w.slots ≡ w.xs ++ ys → Leads nexts slot ys 0 → AreOthers pairs key (walked (length nexts) nexts (slice_index heads at))
    go [] parts p =
        let all : walked (length nexts) nexts (slice_index heads at) ≡ w.xs =
        left_is pairs heads nexts key at slot w w.slots (slice_index heads at) [] refl w.is.path ∙ parts ∙ append-nil w.xs in
        subst (AreOthers pairs key) (sym all) w.passed
    go (y ∷ ys) parts p =
        let z = w.is.some y (subst (IsIn y) (sym parts) (in_middle w.xs y ys)) in
        absurd (omega (arith, z, p.0, e))
