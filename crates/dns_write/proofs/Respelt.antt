-- A name that was written stands in the bytes, and each offset spells its suffix.
use Rattle.std.proofs.Common.{◌≡◌, ◌≤◌, ◌<◌, ℕ, ◌+◌, ◌/◌, ◌%◌, true, false, List, [], ◌∷◌, ◌++◌, length, Some, None, refl, sym, ap, subst, ◌∙◌, arith, inl, inr, ◌⊎◌, length-append}
use Rattle.std.proofs.lemmas.Bool.Decides.{Decides-eqb}
use Rattle.std.proofs.lemmas.Slice.Eq.{slice_eq-Decides}
use Rattle.std.specs.Prelude.{cond, nat_lt, if◌then◌else◌, option_map, find}
use Rattle.std.specs.List.{AllByRecursion}
use Rattle.dns_names.specs.Name.{IsLabel, IsName, same_labels}
use Rattle.dns_wire.specs.Wire.{NameAt, WholeNameAt}
use Rattle.dns_wire.specs.Wire.NameAt.{root, label, pointer}
use Rattle.dns_write.specs.Written.{Draft, OffsetData, size, put, put_label, put_name, keep, earliest}
use Rattle.dns_write.proofs.Standing.{Stands, left, right, byte_here, label_here, pointer_here}
use Rattle.dns_write.proofs.Drafts.{grown-name}
use Rattle.dns_write.proofs.Writing.{at_offset, no_offset, at_root}

pub all_map : {X : Type 0} {P Q : X → Type 0} → ((x : X) → P x → Q x) → (xs : List X) → AllByRecursion P xs → AllByRecursion Q xs
all_map f [] all = tt
all_map f (x ∷ xs) all = (f x all.0, all_map f xs all.1)

pub all_push : {X : Type 0} (P : X → Type 0) (xs : List X) (x : X) → AllByRecursion P xs → P x → AllByRecursion P (xs ++ x ∷ [])
all_push P [] x all here = (here, tt)
all_push P (y ∷ xs) x all here = (all.0, all_push P xs x all.1 here)

-- the offset before an offset in the bytes spells its suffix
pub record Old (bytes : List ℕ) (start : ℕ) (p : OffsetData) : Type 0 where
  pub low : 12 ≤ p.at
  pub below : p.at < start
  pub behind : ℕ
  pub spelt : NameAt bytes p.at p.at p.suffix behind

pub older : {bytes : List ℕ} {start later : ℕ} → start ≤ later → (p : OffsetData) → Old bytes start p → Old bytes later p
older order p o = record { low = o.low; below = omega (arith, o.below); behind = o.behind; spelt = o.spelt }

-- a sequence that began later may end in more pointers
wider : (bytes : List ℕ) (start later at : ℕ) (name : List (List ℕ)) (behind : ℕ) → start ≤ later → NameAt bytes start at name behind → NameAt bytes later at name behind
wider bytes start later at [] behind order (root byte is) = root byte is
wider bytes start later at (l ∷ ls) behind order (label here more) = label here (wider bytes start later (at + 1 + length l) ls behind order more)
wider bytes start later at name behind order (pointer here low below more is) = pointer here low (omega arith) more is

-- what a search finds
record Found (P : OffsetData → Type 0) (suffix : List (List ℕ)) (at : ℕ) : Type 0 where
  p : OffsetData
  holds : P p
  at_is : p.at ≡ at
  suffix_is : p.suffix ≡ suffix

same_suffixes : (a b : List (List ℕ)) → same_labels a b ≡ true → a ≡ b
same_suffixes a b e = (slice_eq-Decides (λ a b. slice_eq-Decides Decides-eqb a b _ refl) a b _ refl).0 e

found : (P : OffsetData → Type 0) (offsets : List OffsetData) (suffix : List (List ℕ)) (at : ℕ) → option_map (λ offset. offset.at) (find (λ offset. same_labels offset.suffix suffix) offsets) ≡ Some at
    → AllByRecursion P offsets → Found P suffix at
found P [] suffix at is all = absurd cc
found P (q ∷ offsets) suffix at is all =
    elim (same_labels q.suffix suffix) as (λ b. same_labels q.suffix suffix ≡ b → option_map (λ offset. offset.at) (cond b (Some q) (find (λ offset. same_labels offset.suffix suffix) offsets)) ≡ Some at → Found P suffix at) [
      | true ↦ λ same here. record { p = q; holds = all.0; at_is = cc; suffix_is = same_suffixes q.suffix suffix same }
      | false ↦ λ other more. found P offsets suffix at more all.1
    ] refl is

found_earliest : (P : OffsetData → Type 0) (offsets : List OffsetData) (suffix : List (List ℕ)) (at : ℕ) → earliest offsets suffix ≡ Some at → AllByRecursion P offsets → Found P suffix at
unfolding earliest
found_earliest P offsets suffix at is all = found P offsets suffix at is all

-- after an offset was kept
pub all_keep : (P : OffsetData → Type 0) (d : Draft) (suffix : List (List ℕ)) → AllByRecursion P d.offsets → P (record { suffix = suffix; at = size d }) → AllByRecursion P (keep d suffix).offsets
all_keep P d suffix all here =
    elim (nat_lt (12 + length d.bytes) 16384) as (λ t. AllByRecursion P (if t then d.offsets ++ record { suffix = suffix; at = 12 + length d.bytes } ∷ [] else d.offsets)) [
      | true ↦ all_push P d.offsets (record { suffix = suffix; at = 12 + length d.bytes }) all here
      | false ↦ all
    ]

-- the front of what a name was put behind
pub front_of : (bytes : List ℕ) (d : Draft) (name : List (List ℕ)) → Stands bytes 12 (put_name d name).bytes → Stands bytes 12 d.bytes
front_of bytes d name s =
    let g = grown-name d name in
    left d.bytes g.more (rw g.bytes at s)

-- a name that was put, in a sequence that began at start; the offsets of the sequence have longer suffixes
abbrev pub Known : List ℕ → ℕ → List (List ℕ) → OffsetData → Type 0
Known bytes start name p = Old bytes start p ⊎ (length name < length p.suffix)

shorter_name : (bytes : List ℕ) (start : ℕ) (l : List ℕ) (ls : List (List ℕ)) (p : OffsetData) → Known bytes start (l ∷ ls) p → Known bytes start ls p
shorter_name bytes start l ls p (inl old) = inl old
shorter_name bytes start l ls p (inr long) = inr (omega arith)

pub name_spelt : (bytes : List ℕ) (start : ℕ) (d : Draft) (name : List (List ℕ)) → AllByRecursion IsLabel name → AllByRecursion (Known bytes start name) d.offsets → start ≤ size d
    → Stands bytes 12 (put_name d name).bytes → NameAt bytes start (size d) name (size (put_name d name))
name_spelt bytes start d [] each known order s =
    let t : Stands bytes 12 (d.bytes ++ 0 ∷ []) = rw (at_root d) at s in
    let zero_byte = right d.bytes (0 ∷ []) (size d) t refl in
    let e : size (put_name d []) ≡ size d + 1 = ap (λ (f : Draft). size f) (at_root d) ∙ omega (arith, length-append d.bytes (0 ∷ [])) in
    root (byte_here zero_byte) e
name_spelt bytes start d (l ∷ ls) each known order s =
    elim (earliest d.offsets (l ∷ ls)) as (λ o. earliest d.offsets (l ∷ ls) ≡ o → NameAt bytes start (size d) (l ∷ ls) (size (put_name d (l ∷ ls)))) [
      | Some at ↦ λ is.
          let put_is = at_offset d l ls at is in
          let f = found_earliest (Known bytes start (l ∷ ls)) d.offsets (l ∷ ls) at is known in
          let t : Stands bytes 12 (d.bytes ++ (192 + at / 256) ∷ (at % 256) ∷ []) = rw put_is at s in
          let here = pointer_here at (right d.bytes ((192 + at / 256) ∷ (at % 256) ∷ []) (size d) t refl) in
          let e : size (put_name d (l ∷ ls)) ≡ size d + 2 = ap (λ (f : Draft). size f) put_is ∙ omega (arith, length-append d.bytes ((192 + at / 256) ∷ (at % 256) ∷ [])) in
          elim f.holds [
            | inl old ↦
                let target : NameAt bytes at at (l ∷ ls) old.behind = rw (f.at_is, f.suffix_is) at old.spelt in
                pointer here (omega (arith, old.low, f.at_is)) (omega (arith, old.below, f.at_is)) target e
            | inr long ↦ absurd (omega (arith, long, ap length f.suffix_is))
          ]
      | None ↦ λ is.
          let put_is = no_offset d l ls is in
          let here = keep d (l ∷ ls) in
          let after = put_label here l in
          let t : Stands bytes 12 (put_name after ls).bytes = rw put_is at s in
          let text = right d.bytes (length l ∷ l) (size d) (front_of bytes after ls t) refl in
          let passed : size after ≡ size d + 1 + length l = omega (arith, length-append d.bytes (length l ∷ l)) in
          let known_after : AllByRecursion (Known bytes start ls) after.offsets =
          all_keep (Known bytes start ls) d (l ∷ ls) (all_map (shorter_name bytes start l ls) d.offsets known) (inr (omega arith)) in
          let rest = name_spelt bytes start after ls each.1 known_after (omega arith) t in
          let whole = rw passed at rest in
          subst (λ (f : Draft). NameAt bytes start (size d) (l ∷ ls) (size f)) (sym put_is) (label (label_here l each.0 text) whole)
    ] refl

-- what is known of an offset is that it was known before, or that it spells its suffix
abbrev pub Kept : (OffsetData → Type 0) → List ℕ → ℕ → OffsetData → Type 0
Kept Q bytes end p = Q p ⊎ Old bytes end p

-- the offset of the suffix that is written next
abbrev next_offset : Draft → List (List ℕ) → OffsetData
next_offset d suffix = record { suffix = suffix; at = size d }

sooner : (Q : OffsetData → Type 0) (bytes : List ℕ) (end : ℕ) (here : OffsetData) → Old bytes end here → (p : OffsetData) → Kept (λ q. Q q ⊎ (q ≡ here)) bytes end p → Kept Q bytes end p
sooner Q bytes end here old p (inl (inl known)) = inl known
sooner Q bytes end here old p (inl (inr same)) = inr (subst (Old bytes end) (sym same) old)
sooner Q bytes end here old p (inr known) = inr known

known_after : (Q : OffsetData → Type 0) (bytes : List ℕ) (start later : ℕ) (l : List ℕ) (ls : List (List ℕ)) (here : OffsetData) → start ≤ later → here.suffix ≡ l ∷ ls
    → ((p : OffsetData) → Q p → Known bytes start (l ∷ ls) p) → (p : OffsetData) → (Q p ⊎ (p ≡ here)) → Known bytes later ls p
known_after Q bytes start later l ls here order is known p (inl q) = elim (known p q) [ inl old ↦ inl (older order p old) | inr long ↦ inr (omega arith) ]
known_after Q bytes start later l ls here order is known p (inr same) = inr (omega (arith, ap (λ (q : OffsetData). length q.suffix) same, ap length is))

longer_name : (d : Draft) (name : List (List ℕ)) → size d + 1 ≤ size (put_name d name)
longer_name d name = let g = grown-name d name in omega (arith, g.low, ap length g.bytes, length-append d.bytes g.more)

pub offsets_spelt : (Q : OffsetData → Type 0) (bytes : List ℕ) (d : Draft) (name : List (List ℕ)) → AllByRecursion IsLabel name → ((p : OffsetData) → Q p → Known bytes (size d) name p)
    → AllByRecursion Q d.offsets → Stands bytes 12 (put_name d name).bytes → AllByRecursion (Kept Q bytes (size (put_name d name))) (put_name d name).offsets
offsets_spelt Q bytes d [] each known all s =
    subst (λ (f : Draft). AllByRecursion (Kept Q bytes (size (put_name d []))) f.offsets) (sym (at_root d)) (all_map (λ p q. inl q) d.offsets all)
offsets_spelt Q bytes d (l ∷ ls) each known all s =
    elim (earliest d.offsets (l ∷ ls)) as (λ o. earliest d.offsets (l ∷ ls) ≡ o → AllByRecursion (Kept Q bytes (size (put_name d (l ∷ ls)))) (put_name d (l ∷ ls)).offsets) [
      | Some at ↦ λ is. subst (λ (f : Draft). AllByRecursion (Kept Q bytes (size (put_name d (l ∷ ls)))) f.offsets) (sym (at_offset d l ls at is)) (all_map (λ p q. inl q) d.offsets all)
      | None ↦ λ is.
          let put_is = no_offset d l ls is in
          let here = next_offset d (l ∷ ls) in
          let after = put_label (keep d (l ∷ ls)) l in
          let t : Stands bytes 12 (put_name after ls).bytes = rw put_is at s in
          let order : size d ≤ size after = omega (arith, length-append d.bytes (length l ∷ l)) in
          let spelt = name_spelt bytes (size d) d (l ∷ ls) each (all_map known d.offsets all) (omega arith) s in
          let old : Old bytes (size (put_name d (l ∷ ls))) here = record { low = omega arith; below = omega (arith, longer_name d (l ∷ ls)); behind = size (put_name d (l ∷ ls)); spelt = spelt } in
          let all_after : AllByRecursion (λ q. Q q ⊎ (q ≡ here)) after.offsets =
          all_keep (λ q. Q q ⊎ (q ≡ here)) d (l ∷ ls) (all_map (λ p q. inl q) d.offsets all) (inr refl) in
          let rest = offsets_spelt (λ q. Q q ⊎ (q ≡ here)) bytes after ls each.1 (known_after Q bytes (size d) (size after) l ls here order refl known) all_after t in
          let rest_here : AllByRecursion (Kept (λ q. Q q ⊎ (q ≡ here)) bytes (size (put_name d (l ∷ ls)))) (put_name after ls).offsets =
          subst (λ (f : Draft). AllByRecursion (Kept (λ q. Q q ⊎ (q ≡ here)) bytes (size f)) (put_name after ls).offsets) (sym put_is) rest in
          subst (λ (f : Draft). AllByRecursion (Kept Q bytes (size (put_name d (l ∷ ls)))) f.offsets) (sym put_is)
          (all_map (sooner Q bytes (size (put_name d (l ∷ ls))) here old) (put_name after ls).offsets rest_here)
    ] refl

-- each offset of a draft spells its suffix in the bytes
abbrev pub OffsetsSpelt : List ℕ → Draft → Type 0
OffsetsSpelt bytes d = AllByRecursion (Old bytes (size d)) d.offsets

pub whole_name : (bytes : List ℕ) (d : Draft) (name : List (List ℕ)) → IsName name → OffsetsSpelt bytes d → Stands bytes 12 (put_name d name).bytes → WholeNameAt bytes (size d) name (size (put_name d name))
whole_name bytes d name proper known s = record {
  proper = proper;
  spelt = name_spelt bytes (size d) d name proper.each (all_map (λ p old. inl old) d.offsets known) (omega arith) s;
}

latest : (bytes : List ℕ) (start later : ℕ) → start ≤ later → (p : OffsetData) → Kept (Old bytes start) bytes later p → Old bytes later p
latest bytes start later order p (inl old) = older order p old
latest bytes start later order p (inr old) = old

pub offsets_name : (bytes : List ℕ) (d : Draft) (name : List (List ℕ)) → IsName name → OffsetsSpelt bytes d → Stands bytes 12 (put_name d name).bytes → OffsetsSpelt bytes (put_name d name)
offsets_name bytes d name proper known s =
    let grows = longer_name d name in
    all_map (latest bytes (size d) (size (put_name d name)) (omega arith)) (put_name d name).offsets
    (offsets_spelt (Old bytes (size d)) bytes d name proper.each (λ p old. inl old) known s)

pub offsets_put : (bytes : List ℕ) (d : Draft) (more : List ℕ) → OffsetsSpelt bytes d → OffsetsSpelt bytes (put d more)
offsets_put bytes d more known = all_map (older (omega (arith, length-append d.bytes more))) d.offsets known
