-- Names are compressed: each pointer leads to the first offset of the longest suffix that was written out before.
use Rattle.std.proofs.Common.{◌≡◌, ◌<◌, ℕ, zero, suc, ◌+◌, ◌/◌, ◌%◌, true, false, List, [], ◌∷◌, ◌++◌, length, drop, Some, None, refl, sym, ap, ◌∙◌, append_assoc, length-append, arith}
use Rattle.std.proofs.lemmas.List.{append-nil}
use Rattle.std.proofs.lemmas.Bool.Decides.{Decides-eqb}
use Rattle.std.proofs.lemmas.Slice.Eq.{slice_eq-Decides}
use Rattle.std.specs.Prelude.{cond, nat_lt, if◌then◌else◌, option_map, find}
use Rattle.std.specs.List.{AllByRecursion}
use Rattle.dns_names.specs.Name.{same_labels, spelled}
use Rattle.dns_write.specs.Written.{Draft, OffsetData, size, put_label, put_name, keep, earliest}
use Rattle.dns_write.specs.Compression.{IsNowhere, IsFirst, EndsBy, written_out, AllAreCompressed}
use Rattle.dns_write.proofs.Respelt.{all_map}
use Rattle.dns_write.proofs.Searching.{none_longer}
use Rattle.dns_write.proofs.Writing.{at_offset, no_offset, at_root}

-- offsets of suffixes that are longer than this one
abbrev AreLonger : List (List ℕ) → List OffsetData → Type 0
AreLonger suffix offsets = AllByRecursion (λ o. length suffix < length o.suffix) offsets

same : (a b : List (List ℕ)) → same_labels a b ≡ true → a ≡ b
same a b is = (slice_eq-Decides (λ a b. slice_eq-Decides Decides-eqb a b _ refl) a b _ refl).0 is

not_same : (a b : List (List ℕ)) → same_labels a b ≡ false → a ≡ b → ⊥
not_same a b other is = let equal_is = (slice_eq-Decides (λ a b. slice_eq-Decides Decides-eqb a b _ refl) a b _ refl).1 is in absurd (let clash = sym equal_is ∙ other in cc)

found_first : (old longer : List OffsetData) (suffix : List (List ℕ)) (at : ℕ) → AreLonger suffix longer → earliest (old ++ longer) suffix ≡ Some at → IsFirst old suffix at
unfolding earliest
found_first [] longer suffix at all is = absurd (let clash = sym (none_longer suffix longer all) ∙ is in cc)
found_first (o ∷ old) longer suffix at all is =
    elim (same_labels o.suffix suffix) as (λ b. same_labels o.suffix suffix ≡ b → option_map (λ (q : OffsetData). q.at) (cond b (Some o) (find (λ (q : OffsetData). same_labels q.suffix suffix) (old ++ longer))) ≡ Some at → IsFirst (o ∷ old) suffix at) [
      | true ↦ λ equal here.
          let text : o.suffix ≡ suffix = same o.suffix suffix equal in
          let place : o.at ≡ at = cc in
          record { before = []; behind = old; split = λ i. record { suffix = text i; at = place i } ∷ old; nowhere = tt }
      | false ↦ λ other more.
          let r = found_first old longer suffix at all more in
          record { before = o ∷ r.before; behind = r.behind; split = ap (λ (t : List OffsetData). o ∷ t) r.split; nowhere = (not_same o.suffix suffix other, r.nowhere) }
    ] refl is

found_nowhere : (old longer : List OffsetData) (suffix : List (List ℕ)) → earliest (old ++ longer) suffix ≡ None → IsNowhere old suffix
unfolding earliest
found_nowhere [] longer suffix is = tt
found_nowhere (o ∷ old) longer suffix is =
    elim (same_labels o.suffix suffix) as (λ b. same_labels o.suffix suffix ≡ b → option_map (λ (q : OffsetData). q.at) (cond b (Some o) (find (λ (q : OffsetData). same_labels q.suffix suffix) (old ++ longer))) ≡ None → IsNowhere (o ∷ old) suffix) [
      | true ↦ λ equal here. absurd cc
      | false ↦ λ other more. (not_same o.suffix suffix other, found_nowhere old longer suffix more)
    ] refl is

-- an offset that may be kept
abbrev kept_at : ℕ → List (List ℕ) → List OffsetData
kept_at at suffix = if nat_lt at 16384 then record { suffix = suffix; at = at } ∷ [] else []

keeps : (d : Draft) (suffix : List (List ℕ)) → (keep d suffix).offsets ≡ d.offsets ++ kept_at (size d) suffix
keeps d suffix =
    elim (nat_lt (12 + length d.bytes) 16384) as (λ b. (if b then d.offsets ++ record { suffix = suffix; at = 12 + length d.bytes } ∷ [] else d.offsets) ≡ d.offsets ++ (if b then record { suffix = suffix; at = 12 + length d.bytes } ∷ [] else [])) [
      | true ↦ refl
      | false ↦ sym (append-nil d.offsets)
    ]

longer_append : (suffix : List (List ℕ)) (a b : List OffsetData) → AreLonger suffix a → AreLonger suffix b → AreLonger suffix (a ++ b)
longer_append suffix [] b p q = q
longer_append suffix (o ∷ a) b p q = (p.0, longer_append suffix a b p.1 q)

kept_longer : (at : ℕ) (label : List ℕ) (labels : List (List ℕ)) → AreLonger labels (kept_at at (label ∷ labels))
kept_longer at label labels =
    elim (nat_lt at 16384) as (λ b. AreLonger labels (if b then record { suffix = label ∷ labels; at = at } ∷ [] else [])) [
      | true ↦ (omega arith, tt)
      | false ↦ tt
    ]

-- a name goes on behind offsets of its own longer suffixes
record GoesOn (old : List OffsetData) (before : Draft) (name : List (List ℕ)) (after : Draft) : Type 0 where
  front : List (List ℕ)
  suffix : List (List ℕ)
  name_is : name ≡ front ++ suffix
  longest : (count : ℕ) → count < length front → IsNowhere old (drop count name)
  end : List ℕ
  ends : EndsBy old suffix end
  bytes : after.bytes ≡ before.bytes ++ (spelled front ++ end)
  offsets : after.offsets ≡ before.offsets ++ written_out (size before) front suffix

length_put : (bytes l : List ℕ) → length (bytes ++ (length l ∷ l)) ≡ length bytes + length l + 1
length_put bytes l = omega (arith, length-append bytes (length l ∷ l))

next_nowhere : (old : List OffsetData) (l : List ℕ) (ls front : List (List ℕ)) (count : ℕ) → IsNowhere old (l ∷ ls) → ((count : ℕ) → count < length front → IsNowhere old (drop count ls)) → count < length (l ∷ front)
    → IsNowhere old (drop count (l ∷ ls))
next_nowhere old l ls front zero here rest less = here
next_nowhere old l ls front (suc count) here rest less = rest count (omega arith)

goes_on : (old longer : List OffsetData) (d : Draft) (name : List (List ℕ)) → d.offsets ≡ old ++ longer → AreLonger name longer → GoesOn old d name (put_name d name)
goes_on old longer d [] is all =
    let put_is = at_root d in
    record {
      front = [];
      suffix = [];
      name_is = refl;
      longest = λ count less. absurd (omega arith);
      end = 0 ∷ [];
      ends = refl;
      bytes = ap (λ (e : Draft). e.bytes) put_is;
      offsets = ap (λ (e : Draft). e.offsets) put_is ∙ sym (append-nil d.offsets);
    }
goes_on old longer d (l ∷ ls) is all =
    elim (earliest d.offsets (l ∷ ls)) as (λ o. earliest d.offsets (l ∷ ls) ≡ o → GoesOn old d (l ∷ ls) (put_name d (l ∷ ls))) [
      | Some at ↦ λ found.
          let put_is = at_offset d l ls at found in
          let there : earliest (old ++ longer) (l ∷ ls) ≡ Some at = ap (λ (os : List OffsetData). earliest os (l ∷ ls)) (sym is) ∙ found in
          record {
            front = [];
            suffix = l ∷ ls;
            name_is = refl;
            longest = λ count less. absurd (omega arith);
            end = (192 + at / 256) ∷ (at % 256) ∷ [];
            ends = (at, found_first old longer (l ∷ ls) at all there, refl);
            bytes = ap (λ (e : Draft). e.bytes) put_is;
            offsets = ap (λ (e : Draft). e.offsets) put_is ∙ sym (append-nil d.offsets);
          }
      | None ↦ λ none.
          let put_is = no_offset d l ls none in
          let after = put_label (keep d (l ∷ ls)) l in
          let new = kept_at (size d) (l ∷ ls) in
          let offsets_are : after.offsets ≡ d.offsets ++ new = keeps d (l ∷ ls) in
          let known : after.offsets ≡ old ++ (longer ++ new) = offsets_are ∙ ap (λ (os : List OffsetData). os ++ new) is ∙ append_assoc old longer new in
          let longer_before : AreLonger ls longer = all_map (λ o h. omega (arith, h)) longer all in
          let rest = goes_on old (longer ++ new) after ls known (longer_append ls longer new longer_before (kept_longer (size d) l ls)) in
          let there : earliest (old ++ longer) (l ∷ ls) ≡ None = ap (λ (os : List OffsetData). earliest os (l ∷ ls)) (sym is) ∙ none in
          let nowhere = found_nowhere old longer (l ∷ ls) there in
          let name_is : l ∷ ls ≡ (l ∷ rest.front) ++ rest.suffix = ap (λ (t : List (List ℕ)). l ∷ t) rest.name_is in
          let wide : size after ≡ size d + length l + 1 = omega (arith, length_put d.bytes l) in
          record {
            front = l ∷ rest.front;
            suffix = rest.suffix;
            name_is = name_is;
            longest = λ count less. next_nowhere old l ls rest.front count nowhere rest.longest less;
            end = rest.end;
            ends = rest.ends;
            bytes = ap (λ (e : Draft). e.bytes) put_is ∙ rest.bytes ∙ append_assoc d.bytes (length l ∷ l) (spelled rest.front ++ rest.end)
                ∙ ap (λ (t : List ℕ). d.bytes ++ (length l ∷ t)) (sym (append_assoc l (spelled rest.front) rest.end));
            offsets = ap (λ (e : Draft). e.offsets) put_is ∙ rest.offsets ∙ ap (λ (os : List OffsetData). os ++ written_out (size after) rest.front rest.suffix) offsets_are
                ∙ append_assoc d.offsets new (written_out (size after) rest.front rest.suffix)
                ∙ (λ i. d.offsets ++ (kept_at (size d) (name_is i) ++ written_out (wide i) rest.front rest.suffix));
          }
    ] refl

pub all_compressed : AllAreCompressed
all_compressed d name =
    let r = goes_on d.offsets [] d name (sym (append-nil d.offsets)) tt in
    record { front = r.front; suffix = r.suffix; name_is = r.name_is; longest = r.longest; end = r.end; ends = r.ends; bytes = r.bytes; offsets = r.offsets }
