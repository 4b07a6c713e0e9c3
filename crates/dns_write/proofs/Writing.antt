-- Writing a name up to the first suffix that was written out before.
use Rattle.std.proofs.Common.{◌≡◌, ◌↔◌, ◌≤◌, ◌<◌, ℕ, ◌+◌, ◌-◌, Bool, IsTrue, List, [], ◌∷◌, ◌++◌, length, take, drop, Option, Some, None, refl, sym, ap, ◌∙◌, append_assoc, arith, length-append, length-drop}
use Rattle.std.proofs.lemmas.List.{take_all, take_at, drop_at, drop-drop}
use Rattle.std.proofs.Math.Seq.{take-add}
use Rattle.std.proofs.lemmas.Bool.Decides.{same_from_decides, Decides-eqb}
use Rattle.std.proofs.lemmas.Slice.Eq.{slice_eq-Decides}
use Rattle.dns_names.specs.Name.{IsName, IsWire, spelled, labels_of, same_labels}
use Rattle.dns_names.specs.NameLaws.{IsName-drop, is_wire, view_of}
use Rattle.dns_write.specs.Written.{Draft, put, earliest, keep, put_label, put_name, put_pointer, pointer_or}

-- what equal bytes say of two spellings
pub same_suffix : (r : Bool) (a b : List ℕ) → IsWire a → IsWire b → (IsTrue r ↔ (a ≡ b)) → r ≡ same_labels (labels_of a) (labels_of b)
same_suffix r a b v w both =
    same_from_decides _ _ (λ t. ap labels_of (both.0 t), λ h. both.1 (sym v.spells ∙ ap spelled h ∙ w.spells))
    (slice_eq-Decides (λ a b. slice_eq-Decides Decides-eqb a b _ refl) (labels_of a) (labels_of b) _ refl)

-- the equations of `put_name`
pub at_offset : (d : Draft) (label : List ℕ) (labels : List (List ℕ)) (at : ℕ) → earliest d.offsets (label ∷ labels) ≡ Some at → put_name d (label ∷ labels) ≡ put_pointer d at
unfolding put_name
at_offset d label labels at found = ap (λ (o : Option ℕ). pointer_or d o (put_name (put_label (keep d (label ∷ labels)) label) labels)) found

pub no_offset : (d : Draft) (label : List ℕ) (labels : List (List ℕ)) → earliest d.offsets (label ∷ labels) ≡ None → put_name d (label ∷ labels) ≡ put_name (put_label (keep d (label ∷ labels)) label) labels
unfolding put_name
no_offset d label labels none = ap (λ (o : Option ℕ). pointer_or d o (put_name (put_label (keep d (label ∷ labels)) label) labels)) none

pub at_root : (d : Draft) → put_name d [] ≡ put d (0 ∷ [])
unfolding put_name
at_root d = refl

-- the offsets know the name up to an offset in its spelling, and its labels up to there are still to be put
pub record WrittenTo (start draft : Draft) (name labels : List (List ℕ)) (at : ℕ) : Type 0 where
  pub inside : at ≤ length (spelled name)
  pub left : drop at (spelled name) ≡ spelled labels
  pub proper : IsName labels
  pub rest : put_name (put draft (take at (spelled name))) labels ≡ put_name start name

-- the suffix that begins there, as a slice to the end
pub record Suffix (suffix : List ℕ) (labels : List (List ℕ)) : Type 0 where
  pub right : IsWire suffix
  pub view : labels_of suffix ≡ labels

pub suffix_of : {start draft : Draft} {name labels : List (List ℕ)} {at : ℕ} → (wire : List ℕ) → wire ≡ spelled name → WrittenTo start draft name labels at
    → Suffix (take (length wire - at) (drop at wire)) labels
suffix_of {labels} {at} wire e w =
    let all = take_all (length wire - at) (drop at wire) (omega (arith, length-drop at wire)) in
    let is = all ∙ ap (drop at) e ∙ w.left in
    record { right = is_wire (take (length wire - at) (drop at wire)) labels is w.proper; view = view_of (take (length wire - at) (drop at wire)) labels is }

-- a pointer ends the name
pub points : {start draft : Draft} {name labels : List (List ℕ)} {label : List ℕ} {at : ℕ} → (offset : ℕ) → WrittenTo start draft name (label ∷ labels) at → earliest draft.offsets (label ∷ labels) ≡ Some offset
    → put_pointer (put draft (take at (spelled name))) offset ≡ put_name start name
points {draft} {name} {labels} {label} {at} offset w found = sym (at_offset (put draft (take at (spelled name))) label labels offset found) ∙ w.rest

-- a label is passed, and its offset is kept
pub passes : {start draft : Draft} {name labels : List (List ℕ)} {label : List ℕ} {at : ℕ} → (new : Draft) → WrittenTo start draft name (label ∷ labels) at → earliest draft.offsets (label ∷ labels) ≡ None
    → new ≡ record { bytes = draft.bytes; offsets = (keep (put draft (take at (spelled name))) (label ∷ labels)).offsets } → WrittenTo start new name labels (at + (length label + 1))
passes {start} {draft} {name} {labels} {label} {at} new w none is =
    let wire = spelled name in
    let here = put draft (take at wire) in
    let size : length (length label ∷ label) ≡ length label + 1 = omega arith in
    let text : take (length label + 1) (drop at wire) ≡ length label ∷ label = ap (take (length label + 1)) w.left ∙ take_at (length label ∷ label) (spelled labels) (length label + 1) size in
    let more : take (at + (length label + 1)) wire ≡ take at wire ++ (length label ∷ label) = take-add at (length label + 1) wire ∙ ap (λ (t : List ℕ). take at wire ++ t) text in
    let bytes : draft.bytes ++ take (at + (length label + 1)) wire ≡ here.bytes ++ (length label ∷ label) =
    ap (λ (t : List ℕ). draft.bytes ++ t) more ∙ sym (append_assoc draft.bytes (take at wire) (length label ∷ label)) in
    let same : put new (take (at + (length label + 1)) wire) ≡ put_label (keep here (label ∷ labels)) label =
    ap (λ (d : Draft). put d (take (at + (length label + 1)) wire)) is ∙ ap (λ (b : List ℕ). record { bytes = b; offsets = (keep here (label ∷ labels)).offsets }) bytes in
    record {
      inside = omega (arith, ap length w.left, length-drop at wire, length-append label (spelled labels));
      left = sym (drop-drop (length label + 1) at wire) ∙ ap (drop (length label + 1)) w.left ∙ drop_at (length label ∷ label) (spelled labels) (length label + 1) size;
      proper = IsName-drop 1 (label ∷ labels) w.proper;
      rest = ap (λ (d : Draft). put_name d labels) same ∙ sym (no_offset here label labels none) ∙ w.rest;
    }

-- behind its last label a name has a zero byte
pub ends : {start draft : Draft} {name : List (List ℕ)} {at : ℕ} → WrittenTo start draft name [] at → put (put draft (spelled name)) (0 ∷ []) ≡ put_name start name
ends {start} {draft} {name} {at} w =
    let all : take at (spelled name) ≡ spelled name = take_all at (spelled name) (omega (arith, ap length w.left, length-drop at (spelled name))) in
    ap (λ (t : List ℕ). put (put draft t) (0 ∷ [])) (sym all) ∙ sym (at_root (put draft (take at (spelled name)))) ∙ w.rest

-- a pointer in place of the whole name
pub points_at_once : (d : Draft) (name : List (List ℕ)) (at : ℕ) → 0 < length (spelled name) → earliest d.offsets name ≡ Some at → put_pointer d at ≡ put_name d name
points_at_once d [] at more found = absurd (omega arith)
points_at_once d (l ∷ ls) at more found = sym (at_offset d l ls at found)
