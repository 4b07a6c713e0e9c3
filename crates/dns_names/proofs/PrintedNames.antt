-- Printing a name label by label.
use Rattle.std.proofs.Common.{◌≡◌, ℕ, ◌+◌, ◌<◌, ◌≤◌, true, eqb, ltb, List, [], ◌∷◌, ◌++◌, length, take, drop, get_or, set, map, refl, sym, ap, ◌∙◌, append_assoc, arith, length-append}
use Rattle.std.proofs.lemmas.Bool.{agree_below_at, ltb-true}
use Rattle.std.proofs.lemmas.Bool.Decides.{Decides-eqb}
use Rattle.std.proofs.lemmas.Slice.Eq.{slice_eq-Decides}
use Rattle.std.proofs.lemmas.List.{append-nil, map-append, length-map, length-take-le, length-drop, length_push, take_at, drop_at, drop_more, set_at, take-append-drop, nil_from_length}
use Rattle.std.proofs.lemmas.Str.{IsUtf8-from_ascii}
use Rattle.std.specs.Char.{to_ascii_lowercase}
use Rattle.std.specs.Cmp.Lexicographic.{pointwise}
use Rattle.std.specs.List.{AllByRecursion, flat_map}
use Rattle.std.specs.Str.{IsUtf8}
use Rattle.dns_names.specs.Name.{spelled, lowered}
use Rattle.dns_names.specs.NameLaws.{few}
use Rattle.dns_names.specs.NameText.{byte_text, label_text, name_text}
use Rattle.dns_names.specs.NameTextLaws.{AreBytes, labels_are_ascii}

-- a name that has a label is printed by its labels
pub by_labels : (wire before text : List ℕ) (name left : List (List ℕ)) → wire ≡ spelled name → (length wire ≡ 0 → ⊥) → left ≡ []
    → text ++ flat_map label_text left ≡ before ++ flat_map label_text name → text ≡ before ++ name_text name
by_labels wire before text [] left e some none is = absurd (some (ap length e))
by_labels wire before text (label ∷ name) left e some none is =
    sym (append-nil text) ∙ ap (λ (l : List (List ℕ)). text ++ flat_map label_text l) (sym none) ∙ is

-- the root has no bytes, and is printed as a dot
pub no_labels : (wire before text : List ℕ) (name : List (List ℕ)) → wire ≡ spelled name → length wire ≡ 0 → text ≡ before ++ 46 ∷ [] → text ≡ before ++ name_text name
no_labels wire before text name e none is =
    let root : name ≡ [] = nil_from_length name (omega (arith, few name, none, ap length e)) in
    is ∙ ap (λ (n : List (List ℕ)). before ++ name_text n) (sym root)

-- a printed name is UTF-8
pub utf8_text : (name : List (List ℕ)) → AreBytes name → IsUtf8 (name_text name)
utf8_text [] h = IsUtf8-from_ascii (46 ∷ []) (labels_are_ascii ([] ∷ []) (tt, tt))
utf8_text (label ∷ name) h = IsUtf8-from_ascii (flat_map label_text (label ∷ name)) (labels_are_ascii (label ∷ name) h)

-- what a byte prints in lower case is what its lower case prints
lower_byte : (b : ℕ) → b < 256 → map to_ascii_lowercase (byte_text b) ≡ byte_text (to_ascii_lowercase b)
lower_byte b h =
    let table = agree_below_at (λ b. pointwise eqb (map to_ascii_lowercase (byte_text b)) (byte_text (to_ascii_lowercase b))) (λ _. true) 256 b refl h in
    (slice_eq-Decides Decides-eqb (map to_ascii_lowercase (byte_text b)) (byte_text (to_ascii_lowercase b)) true (sym table)).0 refl

lower_bytes : (l : List ℕ) → AllByRecursion (λ b. b < 256) l → map to_ascii_lowercase (flat_map byte_text l) ≡ flat_map byte_text (map to_ascii_lowercase l)
lower_bytes [] h = refl
lower_bytes (b ∷ l) h = map-append to_ascii_lowercase (byte_text b) (flat_map byte_text l) ∙ (λ i. lower_byte b h.0 i ++ lower_bytes l h.1 i)

lower_labels : (ls : List (List ℕ)) → AreBytes ls → map to_ascii_lowercase (flat_map label_text ls) ≡ flat_map label_text (lowered ls)
lower_labels [] h = refl
lower_labels (l ∷ ls) h =
    let here : map to_ascii_lowercase (label_text l) ≡ label_text (map to_ascii_lowercase l) =
    map-append to_ascii_lowercase (flat_map byte_text l) (46 ∷ []) ∙ ap (λ (t : List ℕ). t ++ 46 ∷ []) (lower_bytes l h.0) in
    map-append to_ascii_lowercase (label_text l) (flat_map label_text ls) ∙ (λ i. here i ++ lower_labels ls h.1 i)

-- a name printed in lower case is the name in lower case, printed
pub lower_text : (name : List (List ℕ)) → AreBytes name → map to_ascii_lowercase (name_text name) ≡ name_text (lowered name)
lower_text [] h = refl
lower_text (l ∷ ls) h = lower_labels (l ∷ ls) h

-- the same where it is written over the printed name
pub lower_over : (name : List (List ℕ)) (text borrowed lower : List ℕ) (len : ℕ) → AreBytes name → text ≡ name_text name → borrowed ≡ text → length borrowed ≡ len → lower ≡ map to_ascii_lowercase borrowed
    → take len (lower ++ drop (length lower) text) ≡ name_text (lowered name)
lower_over name text borrowed lower len bytes printed b size is =
    let long : length lower ≡ len = ap length is ∙ length-map borrowed to_ascii_lowercase ∙ size in
    take_at lower (drop (length lower) text) len long ∙ is ∙ ap (map to_ascii_lowercase) (b ∙ printed) ∙ lower_text name bytes

low : (b : ℕ) → b < 256 → to_ascii_lowercase b < 256
low b h = ltb-true (to_ascii_lowercase b) 256 (agree_below_at (λ b. ltb (to_ascii_lowercase b) 256) (λ _. true) 256 b refl h)

each_low : (l : List ℕ) → AllByRecursion (λ b. b < 256) l → AllByRecursion (λ b. b < 256) (map to_ascii_lowercase l)
each_low [] h = tt
each_low (b ∷ l) h = (low b h.0, each_low l h.1)

pub lowered_bytes : (ls : List (List ℕ)) → AreBytes ls → AreBytes (lowered ls)
lowered_bytes [] h = tt
lowered_bytes (l ∷ ls) h = (each_low l h.0, lowered_bytes ls h.1)

-- a copy of the spelling, of which the first labels are printed, and in which the others stand with the length bytes
-- behind them
pub record Dotted (before text : List ℕ) (at : ℕ) (left name : List (List ℕ)) : Type 0 where
  pub inside : at ≤ length text
  pub behind : drop at text ≡ drop 1 (spelled left ++ 46 ∷ [])
  pub front : take at text ++ flat_map label_text left ≡ before ++ flat_map label_text name

pub dotted_none : (before text wire : List ℕ) (at : ℕ) (name left : List (List ℕ)) → wire ≡ spelled name → (length wire ≡ 0 → ⊥) → left ≡ name → at ≡ length before
    → text ≡ (before ++ drop 1 wire) ++ 46 ∷ [] → Dotted before text at left name
dotted_none before text wire at [] left e some l a is = absurd (some (ap length e))
dotted_none before text wire at (label ∷ name) left e some l a is =
    let t : text ≡ before ++ (drop 1 wire ++ 46 ∷ []) = is ∙ append_assoc before (drop 1 wire) (46 ∷ []) in
    let front : take at text ≡ before = ap (take at) t ∙ take_at before (drop 1 wire ++ 46 ∷ []) at (sym a) in
    record {
      inside = omega (arith, a, ap length t, length-append before (drop 1 wire ++ 46 ∷ []));
      behind = ap (drop at) t ∙ drop_at before (drop 1 wire ++ 46 ∷ []) at (sym a) ∙ ap (λ (w : List ℕ). drop 1 w ++ 46 ∷ []) e ∙ ap (λ (n : List (List ℕ)). drop 1 (spelled n ++ 46 ∷ [])) (sym l);
      front = λ i. front i ++ flat_map label_text (l i);
    }

-- the label that comes next, and what stands behind it
next_is : (before text label : List ℕ) (at : ℕ) (left others name : List (List ℕ)) → Dotted before text at left name → left ≡ label ∷ others → drop at text ≡ label ++ (spelled others ++ 46 ∷ [])
next_is before text label at left others name d e =
    d.behind ∙ ap (λ (l : List (List ℕ)). drop 1 (spelled l ++ 46 ∷ [])) e ∙ append_assoc label (spelled others) (46 ∷ [])

pub dot_inside : (before text label : List ℕ) (at : ℕ) (left others name : List (List ℕ)) → Dotted before text at left name → left ≡ label ∷ others → at + length label < length text
dot_inside before text label at left others name d e =
    omega (arith, d.inside, length-drop at text, ap length (next_is before text label at left others name d e), length-append label (spelled others ++ 46 ∷ []), length-append (spelled others) (46 ∷ []))

-- a dot in the place of the length byte behind a label that is printed as it is
pub dotted_on : (before text new label : List ℕ) (at : ℕ) (left others name : List (List ℕ)) → Dotted before text at left name → left ≡ label ∷ others → flat_map byte_text label ≡ label
    → new ≡ set text (at + length label) 46 → Dotted before new (at + (length label + 1)) others name
dotted_on before text new label at left others name d e plain is =
    let pre : List ℕ = take at text in
    let tail : List ℕ = spelled others ++ 46 ∷ [] in
    let first : tail ≡ get_or tail 0 0 ∷ drop 1 tail = drop_more tail 0 0 (omega (arith, length-append (spelled others) (46 ∷ []))) in
    let text_is : text ≡ (pre ++ label) ++ get_or tail 0 0 ∷ drop 1 tail =
    sym (take-append-drop at text) ∙ ap (λ (t : List ℕ). pre ++ t) (next_is before text label at left others name d e ∙ ap (λ (t : List ℕ). label ++ t) first)
    ∙ sym (append_assoc pre label (get_or tail 0 0 ∷ drop 1 tail)) in
    let size : length (pre ++ label) ≡ at + length label = omega (arith, length-append pre label, length-take-le at text d.inside) in
    let front : List ℕ = (pre ++ label) ++ 46 ∷ [] in
    let new_is : new ≡ front ++ drop 1 tail =
    is ∙ ap (λ (t : List ℕ). set t (at + length label) 46) text_is ∙ set_at (pre ++ label) (get_or tail 0 0) (drop 1 tail) 46 (at + length label) size
    ∙ sym (append_assoc (pre ++ label) (46 ∷ []) (drop 1 tail)) in
    let long : length front ≡ at + (length label + 1) = omega (arith, length_push (pre ++ label) 46, size) in
    let more : List ℕ = flat_map label_text others in
    let cut : take (at + (length label + 1)) new ≡ front = ap (take (at + (length label + 1))) new_is ∙ take_at front (drop 1 tail) (at + (length label + 1)) long in
    record {
      inside = omega (arith, ap length new_is, length-append front (drop 1 tail), long);
      behind = ap (drop (at + (length label + 1))) new_is ∙ drop_at front (drop 1 tail) (at + (length label + 1)) long;
      front = ap (λ (t : List ℕ). t ++ more) (cut ∙ append_assoc pre label (46 ∷ [])) ∙ append_assoc pre (label ++ 46 ∷ []) more
          ∙ ap (λ (l : List ℕ). pre ++ ((l ++ 46 ∷ []) ++ more)) (sym plain) ∙ ap (λ (l : List (List ℕ)). pre ++ flat_map label_text l) (sym e) ∙ d.front;
    }

-- a label without capitals, where those behind it have none
pub small_on : (label : List ℕ) (left others name : List (List ℕ)) → left ≡ label ∷ others → map to_ascii_lowercase label ≡ label → (lowered left ≡ left → lowered name ≡ name) → lowered others ≡ others
    → lowered name ≡ name
small_on label left others name e small on o = on (ap lowered e ∙ (λ i. small i ∷ o i) ∙ sym e)

-- no label is left
pub dotted_all : (before text wire : List ℕ) (at : ℕ) (left name : List (List ℕ)) → Dotted before text at left name → left ≡ [] → wire ≡ spelled name → (length wire ≡ 0 → ⊥)
    → text ≡ before ++ name_text name
dotted_all before text wire at left name d none e some =
    let nothing : drop at text ≡ [] = d.behind ∙ ap (λ (l : List (List ℕ)). drop 1 (spelled l ++ 46 ∷ [])) none in
    let whole : take at text ≡ text = sym (append-nil (take at text)) ∙ ap (λ (t : List ℕ). take at text ++ t) (sym nothing) ∙ take-append-drop at text in
    by_labels wire before text name left e some none (ap (λ (t : List ℕ). t ++ flat_map label_text left) (sym whole) ∙ d.front)

-- the labels from one on are printed behind the text in which no others are left
pub dotted_rest : (before text cut one new wire label : List ℕ) (at : ℕ) (left others name : List (List ℕ)) → Dotted before text at left name → left ≡ label ∷ others → cut ≡ take at text
    → one ≡ cut ++ label_text label → new ≡ one ++ flat_map label_text others → wire ≡ spelled name → (length wire ≡ 0 → ⊥) → new ≡ before ++ name_text name
dotted_rest before text cut one new wire label at left others name d e c o n w some =
    let more : List ℕ = flat_map label_text others in
    by_labels wire before new name [] w some refl (
    append-nil new ∙ n ∙ ap (λ (t : List ℕ). t ++ more) o ∙ append_assoc cut (label_text label) more
    ∙ ap (λ (t : List ℕ). t ++ (label_text label ++ more)) c ∙ ap (λ (l : List (List ℕ)). take at text ++ flat_map label_text l) (sym e) ∙ d.front
    )
