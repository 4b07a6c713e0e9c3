-- The pointers of a tail are filled in.
use Rattle.std.proofs.Common.{◌≡◌, ◌≤◌, ◌<◌, ℕ, zero, suc, ◌+◌, List, [], ◌∷◌, ◌++◌, length, take, drop, get_or, refl, sym, ap, ◌∙◌, append_assoc, arith, length-append, length-drop}
use Rattle.std.proofs.lemmas.List.{drop_more, drop_at, take_at, length-take-le, drop-append-le}
use Rattle.std.specs.List.{AllByRecursion}
use Rattle.dns_write.specs.Written.{Draft, size}
use Rattle.dns_write.specs.declared.layout.Spot.{Spot}
use Rattle.dns_write.specs.Tails.{Place, InAnchor, InTail, place_at, pointer_bytes, Piece, Plain, Pointer, pieces_bytes, text_of, spot_of, spots_of, leads_to, patched, IsInside, Fills}

pub spot_inside : (size : ℕ) (spots : List Spot) (i : ℕ) (d : Spot) → AllByRecursion (IsInside size) spots → i < length spots → IsInside size (get_or spots i d)
spot_inside size [] i d all inside = absurd (omega arith)
spot_inside size (s ∷ spots) zero d all inside = all.0
spot_inside size (s ∷ spots) (suc i) d all inside = spot_inside size spots i d all.1 (omega arith)

-- one spot more
pub patch_next : (anchor tail : ℕ) (spots : List Spot) (i : ℕ) (d : Spot) (out : List ℕ) → i < length spots
    → let s = get_or spots i d in
    patched anchor tail (drop (i + 1) spots) (take (tail + s.at) out ++ (pointer_bytes (leads_to anchor tail s) ++ drop (tail + s.at + 2) out)) ≡ patched anchor tail (drop i spots) out
patch_next anchor tail spots i d out inside = sym (ap (λ (ss : List Spot). patched anchor tail ss out) (drop_more spots i d inside))

-- where a spot leads
leads_there : (anchor tail at : ℕ) (place : Place) → leads_to anchor tail (spot_of at place) ≡ place_at anchor tail place
leads_there anchor tail at (InAnchor behind) = refl
leads_there anchor tail at (InTail behind) = refl

spot_at : (at : ℕ) (place : Place) → (spot_of at place).at ≡ at
spot_at at (InAnchor behind) = refl
spot_at at (InTail behind) = refl

-- with all pointers filled in the text is what the pieces are
pub patched_pieces : (anchor tail k : ℕ) (pieces : List Piece) (front behind : List ℕ) → length front ≡ tail + k
    → patched anchor tail (spots_of k pieces) (front ++ (text_of pieces ++ behind)) ≡ front ++ (pieces_bytes anchor tail pieces ++ behind)
patched_pieces anchor tail k [] front behind is = refl
patched_pieces anchor tail k (Plain bytes ∷ pieces) front behind is =
    let next = front ++ bytes in
    let opened : front ++ ((bytes ++ text_of pieces) ++ behind) ≡ next ++ (text_of pieces ++ behind) =
    ap (λ (t : List ℕ). front ++ t) (append_assoc bytes (text_of pieces) behind) ∙ sym (append_assoc front bytes (text_of pieces ++ behind)) in
    let closed : next ++ (pieces_bytes anchor tail pieces ++ behind) ≡ front ++ ((bytes ++ pieces_bytes anchor tail pieces) ++ behind) =
    append_assoc front bytes (pieces_bytes anchor tail pieces ++ behind) ∙ ap (λ (t : List ℕ). front ++ t) (sym (append_assoc bytes (pieces_bytes anchor tail pieces) behind)) in
    ap (patched anchor tail (spots_of (k + length bytes) pieces)) opened
    ∙ patched_pieces anchor tail (k + length bytes) pieces next behind (omega (arith, is, length-append front bytes)) ∙ closed
patched_pieces anchor tail k (Pointer place ∷ pieces) front behind is =
    let s = spot_of k place in
    let rest = text_of pieces ++ behind in
    let out = front ++ (0 ∷ 0 ∷ rest) in
    let ptr = pointer_bytes (place_at anchor tail place) in
    let here : length front ≡ tail + s.at = omega (arith, is, spot_at k place) in
    let ahead : take (tail + s.at) out ≡ front = take_at front (0 ∷ 0 ∷ rest) (tail + s.at) here in
    let whole : out ≡ (front ++ 0 ∷ 0 ∷ []) ++ rest = sym (append_assoc front (0 ∷ 0 ∷ []) rest) in
    let after : drop (tail + s.at + 2) out ≡ rest = ap (drop (tail + s.at + 2)) whole ∙ drop_at (front ++ 0 ∷ 0 ∷ []) rest (tail + s.at + 2) (omega (arith, here, length-append front (0 ∷ 0 ∷ []))) in
    let step : take (tail + s.at) out ++ (pointer_bytes (leads_to anchor tail s) ++ drop (tail + s.at + 2) out) ≡ (front ++ ptr) ++ rest =
    (λ i. ahead i ++ (pointer_bytes (leads_there anchor tail k place i) ++ after i)) ∙ sym (append_assoc front ptr rest) in
    let closed : (front ++ ptr) ++ (pieces_bytes anchor tail pieces ++ behind) ≡ front ++ ((ptr ++ pieces_bytes anchor tail pieces) ++ behind) =
    append_assoc front ptr (pieces_bytes anchor tail pieces ++ behind) ∙ ap (λ (t : List ℕ). front ++ t) (sym (append_assoc ptr (pieces_bytes anchor tail pieces) behind)) in
    ap (patched anchor tail (spots_of (k + 2) pieces)) step
    ∙ patched_pieces anchor tail (k + 2) pieces (front ++ ptr) behind (omega (arith, is, length-append front ptr)) ∙ closed

-- filling in changes no length
pub patched_long : (anchor tail size : ℕ) (spots : List Spot) (out : List ℕ) → AllByRecursion (IsInside size) spots → tail + size ≤ length out → length (patched anchor tail spots out) ≡ length out
patched_long anchor tail size [] out all inside = refl
patched_long anchor tail size (s ∷ spots) out all inside =
    let at = tail + s.at in
    let ptr = pointer_bytes (leads_to anchor tail s) in
    let next = take at out ++ (ptr ++ drop (at + 2) out) in
    let room : at + 2 ≤ length out = omega (arith, all.0.at, inside) in
    let long : length next ≡ length out =
    omega (arith, room, length-take-le at out (omega (arith, room)), length-append (take at out) (ptr ++ drop (at + 2) out), length-append ptr (drop (at + 2) out), length-drop (at + 2) out) in
    patched_long anchor tail size spots next all.1 (omega (arith, long, inside)) ∙ long

-- pieces are as long as their text
pub pieces_long : (anchor tail : ℕ) (pieces : List Piece) → length (pieces_bytes anchor tail pieces) ≡ length (text_of pieces)
pieces_long anchor tail [] = refl
pieces_long anchor tail (Plain bytes ∷ pieces) = omega (arith, pieces_long anchor tail pieces, length-append bytes (pieces_bytes anchor tail pieces), length-append bytes (text_of pieces))
pieces_long anchor tail (Pointer place ∷ pieces) = omega (arith, pieces_long anchor tail pieces, length-append (pointer_bytes (place_at anchor tail place)) (pieces_bytes anchor tail pieces))

-- what stands behind a draft then
pub fills_pieces : (anchor : ℕ) (pieces : List Piece) (old new : Draft) → Fills (text_of pieces) (spots_of 0 pieces) anchor old new → new.bytes ≡ old.bytes ++ pieces_bytes anchor (size old) pieces
fills_pieces anchor pieces old new f =
    let pb = pieces_bytes anchor (size old) pieces in
    let whole : patched anchor (size old) (spots_of 0 pieces) (f.front ++ (text_of pieces ++ f.behind)) ≡ (f.front ++ pb) ++ f.behind =
    patched_pieces anchor (size old) 0 pieces f.front f.behind (omega (arith, f.begins)) ∙ sym (append_assoc f.front pb f.behind) in
    let long : length (f.front ++ pb) ≡ size old + length (text_of pieces) = omega (arith, f.begins, length-append f.front pb, pieces_long anchor (size old) pieces) in
    f.filled ∙ ap (λ (t : List ℕ). drop 12 (take (size old + length (text_of pieces)) t)) whole ∙ ap (drop 12) (take_at (f.front ++ pb) f.behind (size old + length (text_of pieces)) long)
    ∙ drop-append-le 12 f.front pb (omega (arith, f.begins)) ∙ ap (λ (t : List ℕ). t ++ pb) (sym f.bytes)
