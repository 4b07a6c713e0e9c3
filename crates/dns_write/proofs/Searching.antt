-- Searching the offsets of suffixes, and keeping the first of them.
use Rattle.std.proofs.Common.{◌≡◌, ◌≤◌, ◌<◌, ℕ, zero, suc, ◌+◌, ◌-◌, Bool, true, false, List, [], ◌∷◌, ◌++◌, length, take, drop, get_or, map, min, Option, Some, None, Bor, inl, inr, refl, sym, ap, ◌∙◌, arith, length-append}
use Rattle.std.proofs.lemmas.List.{take-map, take-append-le, length-take-le, drop_more, append-nil, map-append, nil_from_length}
use Rattle.std.proofs.lemmas.Bool.{cases_lt}
use Rattle.std.proofs.Math.Seq.{take-append-add}
use Rattle.std.specs.Prelude.{cond, option_map, find}
use Rattle.std.specs.Option.{option_or}
use Rattle.std.specs.List.{AllByRecursion}
use Rattle.dns_names.specs.Name.{labels_of, same_labels}
use Rattle.std.proofs.lemmas.Bool.Decides.{Decides-eqb}
use Rattle.std.proofs.lemmas.Slice.Eq.{slice_eq-Decides}
use Rattle.dns_write.specs.Written.{Draft, OffsetData, earliest, keep}
use Rattle.dns_write.proofs.Respelt.{all_map, all_keep}
use Rattle.dns_write.specs.Offsets.{offset_of}

abbrev pub Stored : Type 0
Stored = Bor (List ℕ) × ℕ

pub all_at : (P : Stored → Type 0) (ps : List Stored) (i : ℕ) (d : Stored) → AllByRecursion P ps → i < length ps → P (get_or ps i d)
all_at P [] i d all inside = absurd (omega arith)
all_at P (p ∷ ps) zero d all inside = all.0
all_at P (p ∷ ps) (suc i) d all inside = all_at P ps i d all.1 (omega arith)

pub all_take : (P : Stored → Type 0) (n m : ℕ) (ps : List Stored) → n ≤ m → AllByRecursion P (take m ps) → AllByRecursion P (take n ps)
all_take P zero m ps order all = tt
all_take P (suc n) zero ps order all = absurd (omega arith)
all_take P (suc n) (suc m) [] order all = tt
all_take P (suc n) (suc m) (p ∷ ps) order all = (all.0, all_take P n m ps (omega arith) all.1)

pub all_few : (P : Stored → Type 0) (n : ℕ) (ps : List Stored) → AllByRecursion P ps → AllByRecursion P (take n ps)
all_few P zero ps all = tt
all_few P (suc n) [] all = tt
all_few P (suc n) (p ∷ ps) all = (all.0, all_few P n ps all.1)

-- the first offset has the suffix, or is passed
front_is : (p : OffsetData) (ps : List OffsetData) (suffix : List (List ℕ)) (b : Bool) → same_labels p.suffix suffix ≡ b
    → earliest (p ∷ ps) suffix ≡ option_map (λ (q : OffsetData). q.at) (cond b (Some p) (find (λ (q : OffsetData). same_labels q.suffix suffix) ps))
unfolding earliest
front_is p ps suffix b is = ap (λ (t : Bool). option_map (λ (q : OffsetData). q.at) (cond t (Some p) (find (λ (q : OffsetData). same_labels q.suffix suffix) ps))) is

pub found_front : (p : OffsetData) (ps : List OffsetData) (suffix : List (List ℕ)) → same_labels p.suffix suffix ≡ true → earliest (p ∷ ps) suffix ≡ Some p.at
found_front p ps suffix same = front_is p ps suffix true same

pub passed_front : (p : OffsetData) (ps : List OffsetData) (suffix : List (List ℕ)) → same_labels p.suffix suffix ≡ false → earliest (p ∷ ps) suffix ≡ earliest ps suffix
unfolding earliest
passed_front p ps suffix other = front_is p ps suffix false other

pub found_here : (ps : List Stored) (i : ℕ) (d : Stored) (suffix : List (List ℕ)) → i < length ps → same_labels (labels_of (get_or ps i d).0.now) suffix ≡ true
    → earliest (map offset_of (drop i ps)) suffix ≡ Some (get_or ps i d).1
found_here ps i d suffix inside same =
    ap (λ (qs : List Stored). earliest (map offset_of qs) suffix) (drop_more ps i d inside) ∙ found_front (offset_of (get_or ps i d)) (map offset_of (drop (i + 1) ps)) suffix same

pub passed_here : (ps : List Stored) (i : ℕ) (d : Stored) (suffix : List (List ℕ)) → i < length ps → same_labels (labels_of (get_or ps i d).0.now) suffix ≡ false
    → earliest (map offset_of (drop i ps)) suffix ≡ earliest (map offset_of (drop (i + 1) ps)) suffix
passed_here ps i d suffix inside other =
    ap (λ (qs : List Stored). earliest (map offset_of qs) suffix) (drop_more ps i d inside) ∙ passed_front (offset_of (get_or ps i d)) (map offset_of (drop (i + 1) ps)) suffix other

pub none_left : (suffix : List (List ℕ)) → earliest [] suffix ≡ None
unfolding earliest
none_left suffix = refl

-- the earliest of two lists
pub earliest-append : (ps qs : List OffsetData) (suffix : List (List ℕ)) → earliest (ps ++ qs) suffix ≡ option_or (earliest ps suffix) (earliest qs suffix)
unfolding earliest
earliest-append [] qs suffix = refl
earliest-append (p ∷ ps) qs suffix =
    elim (same_labels p.suffix suffix) as (λ (b : Bool). option_map (λ (q : OffsetData). q.at) (cond b (Some p) (find (λ (q : OffsetData). same_labels q.suffix suffix) (ps ++ qs)))
    ≡ option_or (option_map (λ (q : OffsetData). q.at) (cond b (Some p) (find (λ (q : OffsetData). same_labels q.suffix suffix) ps))) (option_map (λ (q : OffsetData). q.at) (find (λ (q : OffsetData). same_labels q.suffix suffix) qs))) [
      | true ↦ refl
      | false ↦ earliest-append ps qs suffix
    ]

-- the earliest of those of the first name, those that stand near and those far
pub earliest_of_all : (first : List OffsetData) (near far : List Stored) (suffix : List (List ℕ)) {in_first in_near in_far : Option ℕ}
    → in_first ≡ earliest first suffix → in_near ≡ earliest (map offset_of near) suffix → in_far ≡ earliest (map offset_of far) suffix
    → option_or in_first (option_or in_near in_far) ≡ earliest (first ++ map offset_of (near ++ far)) suffix
earliest_of_all first near far suffix p q r =
    let behind : earliest (map offset_of (near ++ far)) suffix ≡ option_or (earliest (map offset_of near) suffix) (earliest (map offset_of far) suffix) =
    ap (λ (ps : List OffsetData). earliest ps suffix) (map-append offset_of near far) ∙ earliest-append (map offset_of near) (map offset_of far) suffix in
    (λ i. option_or (p i) (option_or (q i) (r i))) ∙ sym (ap (option_or (earliest first suffix)) behind) ∙ sym (earliest-append first (map offset_of (near ++ far)) suffix)

-- of the first ones the first
pub take_less : {X : Type 0} (n m : ℕ) (ps : List X) → n ≤ m → take n (take m ps) ≡ take n ps
take_less zero m ps order = refl
take_less (suc n) zero ps order = absurd (omega arith)
take_less (suc n) (suc m) [] order = refl
take_less {X} (suc n) (suc m) (p ∷ ps) order = ap (λ (qs : List X). p ∷ qs) (take_less n m ps (omega arith))

-- where the first are as many as count, some of those behind them
pub truncated_behind : (front : List OffsetData) (behind : List OffsetData) (count kept more : ℕ) → kept ≤ length front → more ≡ count - min kept count
    → take (min kept count) front ++ take more behind ≡ take count (take kept front ++ behind)
truncated_behind front behind count kept more inside is =
    elim (cases_lt count kept) [
      | inl less ↦ let fewer : min kept count ≡ count = omega (arith, less) in
          let nothing : more ≡ 0 = omega (arith, is, fewer) in
          let long : count ≤ length (take kept front) = omega (arith, less, length-take-le kept front inside) in
          (λ i. take (fewer i) front ++ take (nothing i) behind) ∙ append-nil (take count front)
          ∙ sym (take_less count kept front (omega (arith, less))) ∙ sym (take-append-le count (take kept front) behind long)
      | inr past ↦ let all : min kept count ≡ kept = omega (arith, past) in
          let long : length (take kept front) + more ≡ count = omega (arith, is, all, past, length-take-le kept front inside) in
          (λ i. take (all i) front ++ take more behind) ∙ sym (take-append-add (take kept front) behind more) ∙ ap (λ (k : ℕ). take k (take kept front ++ behind)) long
    ]

-- fewer than stand near
pub truncated_near : (count near : ℕ) (ps far : List Stored) → count ≤ near → near ≤ length ps → map offset_of (take count ps ++ []) ≡ take count (map offset_of (take near ps ++ far))
truncated_near count near ps far order inside =
    ap (map offset_of) (append-nil (take count ps) ∙ sym (take_less count near ps order) ∙ sym (take-append-le count (take near ps) far (omega (arith, length-take-le near ps inside))))
    ∙ sym (take-map offset_of count (take near ps ++ far))

-- all that stand near, and some behind
pub truncated_far : (count near : ℕ) (ps far : List Stored) → near ≤ count → near ≤ length ps → map offset_of (take near ps ++ take (count - near) far) ≡ take count (map offset_of (take near ps ++ far))
truncated_far count near ps far order inside =
    let long : length (take near ps) + (count - near) ≡ count = omega (arith, length-take-le near ps inside) in
    ap (map offset_of) (sym (take-append-add (take near ps) far (count - near)) ∙ ap (λ (k : ℕ). take k (take near ps ++ far)) long)
    ∙ sym (take-map offset_of count (take near ps ++ far))

-- the first offset is the earliest one, where it has the suffix
pub first_of_all : (kept : ℕ) (first : List OffsetData) (behind : List OffsetData) (suffix : List (List ℕ)) (at : ℕ) → earliest (take kept first) suffix ≡ Some at → earliest (take kept first ++ behind) suffix ≡ Some at
first_of_all kept first behind suffix at found = earliest-append (take kept first) behind suffix ∙ ap (λ (o : Option ℕ). option_or o (earliest behind suffix)) found

-- nothing stands behind nothing
pub nothing_behind : {X : Type 0} (xs ys : List X) → xs ++ ys ≡ [] → ys ≡ []
nothing_behind xs ys none = nil_from_length ys (omega (arith, ap length none, length-append xs ys))

-- offsets of longer suffixes aren't offsets of this one
pub other_labels : (a b : List (List ℕ)) → (a ≡ b → ⊥) → same_labels a b ≡ false
other_labels a b other =
    elim (same_labels a b) as (λ (t : Bool). same_labels a b ≡ t → t ≡ false) [
      | true ↦ λ same. absurd (other ((slice_eq-Decides (λ a b. slice_eq-Decides Decides-eqb a b _ refl) a b _ refl).0 same))
      | false ↦ λ rest. refl
    ] refl

differs : (a b : List (List ℕ)) → length b < length a → same_labels a b ≡ false
differs a b longer = other_labels a b (λ same. let e : length a ≡ length b = ap length same in omega arith)

pub none_longer : (suffix : List (List ℕ)) (offsets : List OffsetData) → AllByRecursion (λ p. length suffix < length p.suffix) offsets → earliest offsets suffix ≡ None
unfolding earliest
none_longer suffix [] all = refl
none_longer suffix (p ∷ offsets) all =
    ap (λ (t : Bool). option_map (λ (q : OffsetData). q.at) (cond t (Some p) (find (λ (q : OffsetData). same_labels q.suffix suffix) offsets))) (differs p.suffix suffix all.0)
    ∙ none_longer suffix offsets all.1

-- with an offset for a suffix all are longer than what stands behind its first label
pub kept_longer : (d : Draft) (label : List ℕ) (labels : List (List ℕ)) → AllByRecursion (λ p. length (label ∷ labels) < length p.suffix) d.offsets → AllByRecursion (λ p. length labels < length p.suffix) (keep d (label ∷ labels)).offsets
kept_longer d label labels all =
    let before : AllByRecursion (λ p. length labels < length p.suffix) d.offsets = all_map (λ p h. omega (arith, h)) d.offsets all in
    all_keep (λ p. length labels < length p.suffix) d (label ∷ labels) before (omega arith)
