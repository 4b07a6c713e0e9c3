-- A name behind the labels of another, and names that are known.
use Rattle.std.proofs.Common.{◌≡◌, ◌≤◌, ◌<◌, ℕ, zero, suc, ◌+◌, List, [], ◌∷◌, ◌++◌, length, slice_range, Option, Some, unwrap_or, sym, ap, subst, ◌∙◌, arith}
use Rattle.std.proofs.lemmas.List.{append-nil}
use Rattle.dns_names.specs.Name.{IsName, IsWire, wire_length, spelled, labels_of}
use Rattle.dns_names.specs.NameLaws.{labels_of-spelled, length-spelled, spells_name}
use Rattle.dns_data.specs.Record.{Field}
use Rattle.dns_wire.specs.Wire.{NameAt, PointerAt, WholeNameAt}
use Rattle.dns_wire.specs.Sequences.{ReadSoFar, SequenceAt}
use Rattle.dns_wire.specs.Known.{AreKnown, IsAmong, IsKnown}
use Rattle.dns_wire.specs.Cursor.{CursorData, HasRead}
use Rattle.dns_wire.proofs.Names.{one_name, jumps, wire_length-append}

-- the spelling of a name is in wire format
pub spelled_wire : (wire : List ℕ) (name : List (List ℕ)) → wire ≡ spelled name → IsName name → IsWire wire
spelled_wire wire name is proper = (spells_name wire name is proper).right

-- what two names come to is no longer than a name
pub both_fit : (front rest : List (List ℕ)) → IsName (front ++ rest) → wire_length front + wire_length rest ≤ 256
both_fit front rest proper = omega (arith, proper.short, wire_length-append front rest)

-- the spelling is one byte shorter
pub spelled_room : (front rest : List (List ℕ)) (wire : List ℕ) → wire ≡ spelled rest → wire_length front + wire_length rest ≤ 256 → wire_length front + length wire ≤ 255
spelled_room front rest wire is room = omega (arith, ap length is, length-spelled rest)

pub labels_again : (wire : List ℕ) (name : List (List ℕ)) → wire ≡ spelled name → labels_of wire ≡ name
labels_again wire name is = ap labels_of is ∙ labels_of-spelled name

-- a name that is kept stands at its offset
pub is_known : {bytes : List ℕ} {at : ℕ} {name : List (List ℕ)} (known : List (ℕ × List (List ℕ))) → AreKnown bytes known → IsAmong known at name → IsKnown bytes (at, name)
is_known {bytes} {at} {name} [] all among = absurd (let e = among.1 in cc)
is_known {bytes} {at} {name} (pair ∷ known) all (zero, is) =
    let same : pair ≡ (at, name) = ap (λ (o : Option (ℕ × List (List ℕ))). unwrap_or o pair) is in
    subst (IsKnown bytes) same all.0
is_known {bytes} {at} {name} (pair ∷ known) all (suc index, is) = is_known known all.1 (index, is)

-- the whole name is what was read and the name that stands at the target
pub whole_is : {bytes : List ℕ} {origin target : ℕ} {front : List (List ℕ)} {passed : Option ℕ} {rest : List (List ℕ)} {other : ℕ} → ReadSoFar bytes origin target target front passed → WholeNameAt bytes target rest other
    → (whole : List (List ℕ)) (behind : ℕ) → WholeNameAt bytes origin whole behind → (whole ≡ front ++ rest) × IsName whole
whole_is {bytes} {origin} {target} {front} {passed} {rest} {other} so_far here whole behind h =
    let a = so_far.complete whole behind h.spelt in
    let same = one_name bytes target target a.1 other a.0 rest a.3 here.spelt in
    (a.2 ∙ ap (λ (l : List (List ℕ)). front ++ l) same.0, h.proper)

-- and it stands there
pub joins : {bytes : List ℕ} {origin target after : ℕ} {front : List (List ℕ)} {rest whole : List (List ℕ)} {other : ℕ} → ReadSoFar bytes origin target target front (Some after) → WholeNameAt bytes target rest other
    → (whole ≡ front ++ rest) × IsName whole → WholeNameAt bytes origin whole after
joins {bytes} {origin} {target} {after} {front} {rest} {whole} {other} so_far here is = record {
  proper = is.1;
  spelt = subst (λ (l : List (List ℕ)). NameAt bytes origin origin l after) (sym is.0) (so_far.sound rest other here.spelt);
}

-- a sequence of labels, and the name at the target of the pointer behind it
pub known_above : {bytes : List ℕ} {start end target below : ℕ} {rest whole : List (List ℕ)} → start ≤ length bytes → SequenceAt bytes start end → PointerAt bytes end target → 12 ≤ target → target < start → target ≡ below
    → IsKnown bytes (below, rest) → (whole ≡ labels_of (slice_range bytes start end) ++ rest) × IsName whole → IsKnown bytes (start, whole)
known_above {bytes} {start} {end} {target} {below} {rest} {whole} inside sequence here low less same known is =
    let there : IsKnown bytes (target, rest) = subst (λ (n : ℕ). IsKnown bytes (n, rest)) (sym same) known in
    (end + 2, joins (jumps sequence.so_far here low less inside) there.1 is)

-- names that are known of the bytes of a cursor
pub known_in : {bytes : List ℕ} {start limit : ℕ} {fields : List Field} {c : CursorData} → HasRead bytes start limit fields c → (known : List (ℕ × List (List ℕ))) → AreKnown bytes known → AreKnown c.bytes known
known_in h known are = subst (λ (b : List ℕ). AreKnown b known) (sym h.same_bytes) are

pub known_of : {bytes : List ℕ} {start limit : ℕ} {fields : List Field} {c : CursorData} → HasRead bytes start limit fields c → (known : List (ℕ × List (List ℕ))) → AreKnown c.bytes known → AreKnown bytes known
known_of h known are = subst (λ (b : List ℕ). AreKnown b known) h.same_bytes are

-- no labels in front of a name
pub behind_none : (labels : List ℕ) (name : List (List ℕ)) → length labels ≡ 0 → name ≡ labels_of labels ++ name
behind_none [] name e = ap (λ (l : List (List ℕ)). l ++ name) (sym (labels_of-spelled []))
behind_none (b ∷ bs) name e = absurd cc

-- nor behind it
pub none_behind : (labels : List ℕ) (name : List (List ℕ)) → length labels ≡ 0 → name ≡ name ++ labels_of labels
none_behind [] name e = sym (ap (λ (l : List (List ℕ)). name ++ l) (labels_of-spelled []) ∙ append-nil name)
none_behind (b ∷ bs) name e = absurd cc
