-- Laws of names and of their spelling in one buffer. They are cited by crates that read and write
-- names.
use Rattle.std.proofs.Common.{◌≡◌, ℕ, zero, suc, ◌+◌, ◌≤◌, ◌↔◌, List, [], ◌∷◌, ◌++◌, length, drop, map, refl, sym, ap, subst, ◌∙◌, append_assoc, arith, length-append}
use Rattle.std.proofs.lemmas.List.{take_at, drop_at, map-append, length-map, append-nil}
use Rattle.std.proofs.lemmas.Grind.{common_steps}
use Rattle.std.specs.List.{AllByRecursion}
use Rattle.std.specs.Char.{to_ascii_lowercase}
use Rattle.dns_names.specs.declared.limit.TheConstants as limits
use Rattle.dns_names.specs.Name.{IsLabel, IsName, IsWire, wire_length, spelled, first_labels, labels_of, lowered}

-- the labels of a spelling, where there is fuel enough
split : (n : ℕ) (ls : List (List ℕ)) → length (spelled ls) ≤ n → first_labels n (spelled ls) ≡ ls
split zero [] h = refl
split zero (l ∷ ls) h = absurd (omega arith)
split (suc n) [] h = refl
split (suc n) (l ∷ ls) h =
    let fits : length (spelled ls) ≤ n = omega (arith, length-append l (spelled ls)) in
    rw (take_at l (spelled ls) (length l) refl, drop_at l (spelled ls) (length l) refl) (ap (λ (t : List (List ℕ)). l ∷ t) (split n ls fits))

-- the labels that a spelling spells
pub labels_of-spelled : (ls : List (List ℕ)) → labels_of (spelled ls) ≡ ls
unfolding labels_of
labels_of-spelled ls = split (length (spelled ls)) ls (omega arith)

-- labels behind labels
pub spelled-append : (a b : List (List ℕ)) → spelled (a ++ b) ≡ spelled a ++ spelled b
spelled-append [] b = refl
spelled-append (l ∷ a) b = ap (λ (t : List ℕ). length l ∷ t) (ap (λ (t : List ℕ). l ++ t) (spelled-append a b) ∙ sym (append_assoc l (spelled a) (spelled b)))

-- the wire format has one more byte, the zero
pub length-spelled : (ls : List (List ℕ)) → length (spelled ls) + 1 ≡ wire_length ls
length-spelled [] = omega arith
length-spelled (l ∷ ls) = omega (arith, length-append l (spelled ls), length-spelled ls)

-- the spelling of a name is a wire, and its view is the name
pub is_wire : (wire : List ℕ) (ls : List (List ℕ)) → wire ≡ spelled ls → IsName ls → IsWire wire
is_wire wire ls e name =
    let view : labels_of wire ≡ ls = ap labels_of e ∙ labels_of-spelled ls in
    record { spells = rw view (sym e); proper = rw view name }

pub view_of : (wire : List ℕ) (ls : List (List ℕ)) → wire ≡ spelled ls → labels_of wire ≡ ls
view_of wire ls e = ap labels_of e ∙ labels_of-spelled ls

-- a size stays, in lowered_wire case
low : (n : ℕ) → n ≤ limits.LABEL_BYTES → to_ascii_lowercase n ≡ n
low n h = grind (arith, common_steps)

pub spelled-lowered : (ls : List (List ℕ)) → AllByRecursion IsLabel ls → map to_ascii_lowercase (spelled ls) ≡ spelled (lowered ls)
spelled-lowered [] each = refl
spelled-lowered (l ∷ ls) each =
    let size : to_ascii_lowercase (length l) ≡ length (map to_ascii_lowercase l) = low (length l) each.0.1 ∙ sym (length-map l to_ascii_lowercase) in
    let rest : map to_ascii_lowercase (l ++ spelled ls) ≡ map to_ascii_lowercase l ++ spelled (lowered ls) =
    map-append to_ascii_lowercase l (spelled ls) ∙ ap (λ (t : List ℕ). map to_ascii_lowercase l ++ t) (spelled-lowered ls each.1) in
    λ i. size i ∷ rest i

-- what is known of a wire, by its view
pub spelling : (wire : List ℕ) (name : List (List ℕ)) → IsWire wire → labels_of wire ≡ name → wire ≡ spelled name
spelling wire name w e = sym w.spells ∙ ap spelled e

pub proper : (wire : List ℕ) (name : List (List ℕ)) → IsWire wire → labels_of wire ≡ name → IsName name
proper wire name w e = subst IsName e w.proper

-- two spellings are of the same labels
pub same_spelling : (a b : List (List ℕ)) → spelled a ≡ spelled b → a ≡ b
same_spelling a b e = sym (labels_of-spelled a) ∙ ap labels_of e ∙ labels_of-spelled b

pub wire_length-push : (ls : List (List ℕ)) (l : List ℕ) → wire_length (ls ++ l ∷ []) ≡ wire_length ls + length l + 1
wire_length-push [] l = omega arith
wire_length-push (x ∷ ls) l = omega (arith, wire_length-push ls l)

labels-push : (ls : List (List ℕ)) (l : List ℕ) → AllByRecursion IsLabel ls → IsLabel l → AllByRecursion IsLabel (ls ++ l ∷ [])
labels-push [] l each here = (here, tt)
labels-push (x ∷ ls) l each here = (each.0, labels-push ls l each.1 here)

pub IsName-push : (ls : List (List ℕ)) (l : List ℕ) → IsName ls → IsLabel l → wire_length ls + length l + 1 ≤ limits.NAME_BYTES → IsName (ls ++ l ∷ [])
IsName-push ls l name here room = record {
  each = labels-push ls l name.each here;
  short = omega (arith, wire_length-push ls l);
}

-- a wire, and the name that it spells
pub record SpellsName (wire : List ℕ) (name : List (List ℕ)) : Type 0 where
  pub right : IsWire wire
  pub view : labels_of wire ≡ name

pub spells_name : (wire : List ℕ) (name : List (List ℕ)) → wire ≡ spelled name → IsName name → SpellsName wire name
spells_name wire name e n = record { right = is_wire wire name e n; view = view_of wire name e }

-- after a push
pub pushed : (wire new label : List ℕ) (name : List (List ℕ)) → IsWire wire → labels_of wire ≡ name → IsLabel label → wire_length name + length label + 1 ≤ limits.NAME_BYTES
    → new ≡ (wire ++ length label ∷ []) ++ label → SpellsName new (name ++ label ∷ [])
pushed wire new label name w e here room is =
    let s = spelling wire name w e in
    let joined : spelled (name ++ label ∷ []) ≡ (spelled name ++ length label ∷ []) ++ label =
    spelled-append name (label ∷ []) ∙ ap (λ (t : List ℕ). spelled name ++ (length label ∷ t)) (append-nil label) ∙ sym (append_assoc (spelled name) (length label ∷ []) label) in
    spells_name new (name ++ label ∷ []) (is ∙ ap (λ (t : List ℕ). (t ++ length label ∷ []) ++ label) s ∙ sym joined) (IsName-push name label (proper wire name w e) here room)

-- with a label in front
pub put_below : (wire new label : List ℕ) (name : List (List ℕ)) → IsWire wire → labels_of wire ≡ name → IsLabel label → wire_length name + length label + 1 ≤ limits.NAME_BYTES
    → new ≡ (length label ∷ label) ++ wire → SpellsName new (label ∷ name)
put_below wire new label name w e here room is =
    let s = spelling wire name w e in
    let n = proper wire name w e in
    spells_name new (label ∷ name) (is ∙ ap (λ (t : List ℕ). (length label ∷ label) ++ t) s) (record { each = (here, n.each); short = omega (arith, n.short) })

lowered_labels : (ls : List (List ℕ)) → AllByRecursion IsLabel ls → AllByRecursion IsLabel (lowered ls)
lowered_labels [] each = tt
lowered_labels (l ∷ ls) each =
    let same = length-map l to_ascii_lowercase in
    ((omega (arith, each.0.0, same), omega (arith, each.0.1, same)), lowered_labels ls each.1)

wire_length-lowered : (ls : List (List ℕ)) → wire_length (lowered ls) ≡ wire_length ls
wire_length-lowered [] = refl
wire_length-lowered (l ∷ ls) = omega (arith, wire_length-lowered ls, length-map l to_ascii_lowercase)

pub lowered_name : (ls : List (List ℕ)) → IsName ls → IsName (lowered ls)
lowered_name ls n = record { each = lowered_labels ls n.each; short = omega (arith, n.short, wire_length-lowered ls) }

-- in lowered_wire case
pub lowered_wire : (wire new : List ℕ) (name : List (List ℕ)) → IsWire wire → labels_of wire ≡ name → new ≡ map to_ascii_lowercase wire → SpellsName new (lowered name)
lowered_wire wire new name w e is =
    let n = proper wire name w e in
    spells_name new (lowered name) (is ∙ ap (map to_ascii_lowercase) (spelling wire name w e) ∙ spelled-lowered name n.each) (lowered_name name n)

-- without case, two spellings are the same where their labels are
pub same_case : (a b : List (List ℕ)) → AllByRecursion IsLabel a → AllByRecursion IsLabel b → (map to_ascii_lowercase (spelled a) ≡ map to_ascii_lowercase (spelled b)) ↔ (lowered a ≡ lowered b)
same_case a b p q = (
  λ e. same_spelling (lowered a) (lowered b) (sym (spelled-lowered a p) ∙ e ∙ spelled-lowered b q),
  λ e. spelled-lowered a p ∙ ap spelled e ∙ sym (spelled-lowered b q),
)

-- behind the first labels a name is a name
pub labels-drop : (n : ℕ) (ls : List (List ℕ)) → AllByRecursion IsLabel ls → AllByRecursion IsLabel (drop n ls)
labels-drop zero ls each = each
labels-drop (suc n) [] each = tt
labels-drop (suc n) (l ∷ ls) each = labels-drop n ls each.1

wire_length-drop : (n : ℕ) (ls : List (List ℕ)) → wire_length (drop n ls) ≤ wire_length ls
wire_length-drop zero ls = omega arith
wire_length-drop (suc n) [] = omega arith
wire_length-drop (suc n) (l ∷ ls) = omega (arith, wire_length-drop n ls)

pub IsName-drop : (n : ℕ) (ls : List (List ℕ)) → IsName ls → IsName (drop n ls)
IsName-drop n ls name = record {
  each = labels-drop n ls name.each;
  short = omega (arith, name.short, wire_length-drop n ls);
}

-- a name has few labels
pub few : (ls : List (List ℕ)) → length ls ≤ length (spelled ls)
few [] = omega arith
few (l ∷ ls) = omega (arith, few ls, length-append l (spelled ls))

labels-append : (a b : List (List ℕ)) → AllByRecursion IsLabel a → AllByRecursion IsLabel b → AllByRecursion IsLabel (a ++ b)
labels-append [] b p q = q
labels-append (l ∷ a) b p q = (p.0, labels-append a b p.1 q)

-- after labels are added at the end
pub appended : (wire new more : List ℕ) (name : List (List ℕ)) → IsWire wire → labels_of wire ≡ name → IsWire more → wire_length name + length more ≤ limits.NAME_BYTES
    → new ≡ wire ++ more → SpellsName new (name ++ labels_of more)
appended wire new more name w e m room is =
    let s = spelling wire name w e in
    let joined : spelled (name ++ labels_of more) ≡ wire ++ more = spelled-append name (labels_of more) ∙ (λ i. sym s i ++ m.spells i) in
    spells_name new (name ++ labels_of more) (is ∙ sym joined) (record {
      each = labels-append name (labels_of more) (proper wire name w e).each m.proper.each;
      short = omega (arith, room, ap length joined, ap length s, length-append wire more, length-spelled name, length-spelled (name ++ labels_of more));
    })
