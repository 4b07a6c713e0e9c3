-- The suffixes of the name right behind the header: searching them, and writing that name out.
use Rattle.std.proofs.Common.{◌≡◌, ◌≤◌, ◌<◌, ℕ, zero, suc, ◌+◌, ◌-◌, Bool, true, false, List, [], ◌∷◌, ◌++◌, length, take, drop, get_or, Some, None, refl, sym, ap, ◌∙◌, append_assoc, arith, length-append, length-drop}
use Rattle.std.proofs.lemmas.List.{take_all, drop_at, append-nil}
use Rattle.std.proofs.lemmas.Bool.{lt-ltb}
use Rattle.std.specs.Prelude.{nat_lt, if◌then◌else◌}
use Rattle.std.specs.List.{AllByRecursion}
use Rattle.dns_names.specs.Name.{IsName, IsWire, spelled, labels_of, same_labels}
use Rattle.dns_names.specs.NameLaws.{IsName-drop, is_wire, view_of, few, length-spelled}
use Rattle.dns_write.specs.Written.{Draft, OffsetData, put, earliest, keep, put_label, put_name, empty}
use Rattle.dns_write.specs.Offsets.{suffixes_at}
use Rattle.dns_write.proofs.Searching.{other_labels, found_front, passed_front, none_left, none_longer, kept_longer}
use Rattle.dns_write.proofs.Writing.{no_offset, at_root}

pub length-suffixes : (at : ℕ) (ls : List (List ℕ)) → length (suffixes_at at ls) ≡ length ls
unfolding suffixes_at
length-suffixes at [] = refl
length-suffixes at (l ∷ ls) = omega (arith, length-suffixes (at + length l + 1) ls)

-- all of them
pub all_suffixes : (kept at : ℕ) (ls : List (List ℕ)) → kept ≡ length ls → take kept (suffixes_at at ls) ≡ suffixes_at at ls
all_suffixes kept at ls is = take_all kept (suffixes_at at ls) (omega (arith, is, length-suffixes at ls))

-- the first of them has the suffix, or is passed over
found_suffix : (n at : ℕ) (l : List ℕ) (ls s : List (List ℕ)) → same_labels (l ∷ ls) s ≡ true → earliest (take (suc n) (suffixes_at at (l ∷ ls))) s ≡ Some at
unfolding suffixes_at
found_suffix n at l ls s same =
    let p : OffsetData = record { suffix = l ∷ ls; at = at } in
    found_front p (take n (suffixes_at (at + length l + 1) ls)) s same

passed_suffix : (n at : ℕ) (l : List ℕ) (ls s : List (List ℕ)) → same_labels (l ∷ ls) s ≡ false → earliest (take (suc n) (suffixes_at at (l ∷ ls))) s ≡ earliest (take n (suffixes_at (at + length l + 1) ls)) s
unfolding suffixes_at
passed_suffix n at l ls s other =
    let p : OffsetData = record { suffix = l ∷ ls; at = at } in
    passed_front p (take n (suffixes_at (at + length l + 1) ls)) s other

none_of_root : (n at : ℕ) (s : List (List ℕ)) → earliest (take n (suffixes_at at [])) s ≡ None
unfolding suffixes_at
none_of_root zero at s = none_left s
none_of_root (suc n) at s = none_left s

-- shorter ones are others
none_shorter : (n at : ℕ) (ls s : List (List ℕ)) → length (spelled ls) < length (spelled s) → earliest (take n (suffixes_at at ls)) s ≡ None
none_shorter zero at ls s less = none_left s
none_shorter (suc n) at [] s less = none_of_root (suc n) at s
none_shorter (suc n) at (l ∷ ls) s less =
    let other : same_labels (l ∷ ls) s ≡ false = other_labels (l ∷ ls) s (λ e. let size : length (spelled (l ∷ ls)) ≡ length (spelled s) = ap (λ (t : List (List ℕ)). length (spelled t)) e in omega arith) in
    passed_suffix n at l ls s other ∙ none_shorter n (at + length l + 1) ls s (omega (arith, length-append l (spelled ls)))

-- what stands at the head of a name that isn't the root
pub record Opens (wire : List ℕ) : Type 0 where
  pub label : List ℕ
  pub labels : List (List ℕ)
  pub is : labels_of wire ≡ label ∷ labels
  pub size : get_or wire 0 0 ≡ length label
  pub rest : drop (length label + 1) wire ≡ spelled labels
  pub long : length wire ≡ length label + 1 + length (spelled labels)
  pub name : IsName (label ∷ labels)

opens_at : (wire : List ℕ) (ls : List (List ℕ)) → labels_of wire ≡ ls → IsWire wire → 0 < length ls → Opens wire
opens_at wire [] e w more = absurd (omega arith)
opens_at wire (l ∷ ls) e w more =
    let is : spelled (l ∷ ls) ≡ wire = sym (ap spelled e) ∙ w.spells in
    record {
      label = l;
      labels = ls;
      is = e;
      size = ap (λ (t : List ℕ). get_or t 0 0) (sym is);
      rest = ap (drop (length l + 1)) (sym is) ∙ drop_at (length l ∷ l) (spelled ls) (length l + 1) (omega arith);
      long = omega (arith, ap length is, length-append l (spelled ls));
      name = rw e at w.proper;
    }

some_label : (ls : List (List ℕ)) → 0 < length (spelled ls) → 0 < length ls
some_label [] more = absurd (omega arith)
some_label (l ∷ ls) more = omega arith

pub opens : (wire : List ℕ) → IsWire wire → 0 < length wire → Opens wire
opens wire w more = opens_at wire (labels_of wire) refl w (some_label (labels_of wire) (omega (arith, ap length w.spells)))

-- a search among the first suffixes of a name has come to the last so many of them, behind others
pub record Walk (first suffix : List ℕ) (kept : ℕ) (rest : List ℕ) (left : ℕ) : Type 0 where
  pub wire : IsWire rest
  pub few : left ≤ length (labels_of rest)
  pub inside : length rest ≤ length first
  pub same : earliest (take left (suffixes_at (12 + (length first - length rest)) (labels_of rest))) (labels_of suffix)
      ≡ earliest (take kept (suffixes_at 12 (labels_of first))) (labels_of suffix)

pub begins : (first suffix : List ℕ) (kept : ℕ) → IsWire first → kept ≤ length (labels_of first) → Walk first suffix kept first kept
begins first suffix kept w few =
    let at : 12 + (length first - length first) ≡ 12 = omega arith in
    record {
      wire = w;
      few = few;
      inside = omega arith;
      same = ap (λ (k : ℕ). earliest (take kept (suffixes_at k (labels_of first))) (labels_of suffix)) at;
    }

-- a label stands at the head
pub has_room : {first suffix : List ℕ} {kept : ℕ} {rest : List ℕ} {left : ℕ} → Walk first suffix kept rest left → length suffix < length rest → get_or rest 0 0 + 1 ≤ length rest
has_room {rest} w longer =
    let o = opens rest w.wire (omega (arith, longer)) in
    omega (arith, o.size, o.long)

-- one step further
pub goes_on : {first suffix : List ℕ} {kept : ℕ} {rest : List ℕ} {left : ℕ} → Walk first suffix kept rest left → IsWire suffix → length suffix < length rest → 0 < left
    → Walk first suffix kept (take (length rest - (get_or rest 0 0 + 1)) (drop (get_or rest 0 0 + 1) rest)) (left - 1)
goes_on {first} {suffix} {kept} {rest} {left} w s longer more =
    let size = get_or rest 0 0 + 1 in
    let new = take (length rest - size) (drop size rest) in
    let n = left - 1 in
    let some : left ≡ suc n = omega (arith, more) in
    let is : new ≡ drop size rest = take_all (length rest - size) (drop size rest) (omega (arith, length-drop size rest)) in
    let o = opens rest w.wire (omega (arith, longer)) in
    let here : new ≡ spelled o.labels = is ∙ ap (λ (k : ℕ). drop (k + 1) rest) o.size ∙ o.rest in
    let view : labels_of new ≡ o.labels = view_of new o.labels here in
    let from = 12 + (length first - length rest) in
    let at : 12 + (length first - length new) ≡ from + length o.label + 1 = omega (arith, o.long, ap length here, w.inside) in
    let other : same_labels (o.label ∷ o.labels) (labels_of suffix) ≡ false =
    other_labels (o.label ∷ o.labels) (labels_of suffix) (λ e. let size : length rest ≡ length suffix = ap length (sym w.wire.spells ∙ ap spelled (o.is ∙ e) ∙ s.spells) in omega (arith, longer)) in
    let wider : earliest (take left (suffixes_at from (labels_of rest))) (labels_of suffix) ≡ earliest (take (suc n) (suffixes_at from (o.label ∷ o.labels))) (labels_of suffix) =
    (λ i. earliest (take (some i) (suffixes_at from (o.is i))) (labels_of suffix)) in
    record {
      wire = is_wire new o.labels here (IsName-drop 1 (o.label ∷ o.labels) o.name);
      few = omega (arith, w.few, some, ap length o.is, ap length view);
      inside = omega (arith, w.inside, o.long, ap length here);
      same = (λ i. earliest (take n (suffixes_at (at i) (view i))) (labels_of suffix)) ∙ sym (passed_suffix n from o.label o.labels (labels_of suffix) other) ∙ sym wider ∙ w.same;
    }

-- none is left
pub all_passed : {first suffix : List ℕ} {kept : ℕ} {rest : List ℕ} {left : ℕ} → Walk first suffix kept rest left → left ≡ 0 → None ≡ earliest (take kept (suffixes_at 12 (labels_of first))) (labels_of suffix)
all_passed {first} {suffix} {kept} {rest} w none =
    sym (none_left (labels_of suffix)) ∙ sym (ap (λ (k : ℕ). earliest (take k (suffixes_at (12 + (length first - length rest)) (labels_of rest))) (labels_of suffix)) none) ∙ w.same

-- what is left is the suffix
pub found_first : {first suffix : List ℕ} {kept : ℕ} {rest : List ℕ} {left : ℕ} → (n : ℕ) → Walk first suffix kept rest left → left ≡ suc n → same_labels (labels_of rest) (labels_of suffix) ≡ true
    → Some (12 + (length first - length rest)) ≡ earliest (take kept (suffixes_at 12 (labels_of first))) (labels_of suffix)
found_first {first} {suffix} {kept} {rest} {left} n w some same =
    let from = 12 + (length first - length rest) in
    let o = opens_at rest (labels_of rest) refl w.wire (omega (arith, w.few, some)) in
    let here : same_labels (o.label ∷ o.labels) (labels_of suffix) ≡ true = ap (λ (t : List (List ℕ)). same_labels t (labels_of suffix)) (sym o.is) ∙ same in
    sym (found_suffix n from o.label o.labels (labels_of suffix) here) ∙ sym (λ i. earliest (take (some i) (suffixes_at from (o.is i))) (labels_of suffix)) ∙ w.same

-- what is left is another, and shorter ones stand behind it
pub none_first : {first suffix : List ℕ} {kept : ℕ} {rest : List ℕ} {left : ℕ} → (n : ℕ) → Walk first suffix kept rest left → IsWire suffix → left ≡ suc n → length rest ≤ length suffix
    → same_labels (labels_of rest) (labels_of suffix) ≡ false → None ≡ earliest (take kept (suffixes_at 12 (labels_of first))) (labels_of suffix)
none_first {first} {suffix} {kept} {rest} {left} n w s some shorter other =
    let from = 12 + (length first - length rest) in
    let o = opens_at rest (labels_of rest) refl w.wire (omega (arith, w.few, some)) in
    let here : same_labels (o.label ∷ o.labels) (labels_of suffix) ≡ false = ap (λ (t : List (List ℕ)). same_labels t (labels_of suffix)) (sym o.is) ∙ other in
    let less : length (spelled o.labels) < length (spelled (labels_of suffix)) = omega (arith, o.long, shorter, ap length s.spells) in
    sym (passed_suffix n from o.label o.labels (labels_of suffix) here ∙ none_shorter n (from + length o.label + 1) o.labels (labels_of suffix) less)
    ∙ sym (λ i. earliest (take (some i) (suffixes_at from (o.is i))) (labels_of suffix)) ∙ w.same

-- a name is short
pub short_wire : (wire : List ℕ) → IsWire wire → length wire ≤ 254
short_wire wire w = omega (arith, w.proper.short, length-spelled (labels_of wire), ap length w.spells)

pub few_labels : (wire : List ℕ) → IsWire wire → length (labels_of wire) ≤ 254
few_labels wire w = omega (arith, w.proper.short, length-spelled (labels_of wire), few (labels_of wire))

-- no labels
pub wire_of_none : IsWire []
wire_of_none = is_wire [] [] refl (record { each = tt; short = omega arith })

-- the draft in which a name is written out, though its zero byte isn't there yet
with_suffixes : Draft → List (List ℕ) → Draft
with_suffixes d name = record { bytes = d.bytes; offsets = d.offsets ++ suffixes_at (12 + length d.bytes) name }

-- a name of which no suffix stood before
written_out : (d : Draft) (name : List (List ℕ)) → AllByRecursion (λ p. length name < length p.suffix) d.offsets → 12 + length d.bytes + length (spelled name) ≤ 16384
    → put_name d name ≡ put (put (with_suffixes d name) (spelled name)) (0 ∷ [])
unfolding suffixes_at with_suffixes
written_out d [] longer small =
    at_root d ∙ (λ i. put (record { bytes = sym (append-nil d.bytes) i; offsets = sym (append-nil d.offsets) i }) (0 ∷ []))
written_out d (l ∷ ls) longer small =
    let at = 12 + length d.bytes in
    let all = l ∷ ls in
    let p : OffsetData = record { suffix = all; at = at } in
    let kept = keep d all in
    let next = put_label kept l in
    let low : nat_lt at 16384 ≡ true = lt-ltb at 16384 (omega (arith, small, length-append (length l ∷ l) (spelled ls))) in
    let more : next.offsets ≡ d.offsets ++ p ∷ [] = ap (λ (b : Bool). if b then d.offsets ++ p ∷ [] else d.offsets) low in
    let size : 12 + length next.bytes ≡ at + length l + 1 = omega (arith, length-append d.bytes (length l ∷ l)) in
    let rest = written_out next ls (kept_longer d l ls longer) (omega (arith, small, size, length-append l (spelled ls))) in
    let bytes : next.bytes ++ spelled ls ≡ d.bytes ++ spelled all = append_assoc d.bytes (length l ∷ l) (spelled ls) in
    let offsets : next.offsets ++ suffixes_at (12 + length next.bytes) ls ≡ d.offsets ++ p ∷ suffixes_at (at + length l + 1) ls =
    (λ i. more i ++ suffixes_at (size i) ls) ∙ append_assoc d.offsets (p ∷ []) (suffixes_at (at + length l + 1) ls) in
    no_offset d l ls (none_longer all d.offsets longer) ∙ rest ∙ (λ i. put (record { bytes = bytes i; offsets = offsets i }) (0 ∷ []))

-- the name right behind the header
pub first_written : (name : List (List ℕ)) → IsName name → put_name empty name ≡ put (put (record { bytes = []; offsets = suffixes_at 12 name }) (spelled name)) (0 ∷ [])
unfolding with_suffixes
first_written name n = written_out empty name tt (omega (arith, n.short, length-spelled name))
