-- The pieces of a text, cut by cut.
use Rattle.std.proofs.Common.{◌≡◌, ℕ, zero, suc, ◌+◌, ◌<◌, ◌≤◌, Bool, true, false, List, [], ◌∷◌, ◌++◌, length, drop, get_or, Option, Some, None, option_map, refl, sym, ap, ◌∙◌, arith, append_assoc}
use Rattle.std.proofs.lemmas.List.{drop_more, length-drop}
use Rattle.std.specs.Prelude.{option_and_then, if◌then◌else◌}
use Rattle.template_plugin.specs.declared.piece.Piece.{Piece}
use Rattle.template_plugin.specs.declared.piece.Piece.TheVariants as piece
use Rattle.template_plugin.specs.declared.piece.Place.{Place}
use Rattle.template_plugin.specs.Pieces.{begins_twice, cut_at, cut_twice, pieces_behind, pieces_cut, pieces_of, pieces_opened, pieces_within, place_in, twice_at}

-- a cut leaves less
abbrev LeavesLess : List ℕ → Option (List ℕ × List ℕ) → Type 0
LeavesLess text None = Unit {0}
LeavesLess text (Some cut) = length cut.1 + 2 ≤ length text

-- two bytes stand where they are found
abbrev IsInside : List ℕ → Option ℕ → Type 0
IsInside text None = Unit {0}
IsInside text (Some at) = at + 2 ≤ length text

inside_more : (first : ℕ) (text : List ℕ) (o : Option ℕ) → IsInside text o → IsInside (first ∷ text) (option_map (λ at. at + 1) o)
inside_more first text None h = tt
inside_more first text (Some at) h = omega (arith, h)

inside_by : (byte first : ℕ) (text : List ℕ) (here : Bool) → begins_twice byte (first ∷ text) ≡ here → IsInside text (twice_at byte text)
    → IsInside (first ∷ text) (if here then Some 0 else option_map (λ at. at + 1) (twice_at byte text))
inside_by byte first [] true e h = absurd cc
inside_by byte first (second ∷ text) true e h = omega arith
inside_by byte first text false e h = inside_more first text (twice_at byte text) h

is_inside : (byte : ℕ) (text : List ℕ) → IsInside text (twice_at byte text)
is_inside byte [] = tt
is_inside byte (first ∷ text) = inside_by byte first text (begins_twice byte (first ∷ text)) refl (is_inside byte text)

less_by : (text : List ℕ) (o : Option ℕ) → IsInside text o → LeavesLess text (option_map (cut_at text) o)
less_by text None h = tt
less_by text (Some at) h = omega (arith, h, length-drop (at + 2) text)

leaves_less : (byte : ℕ) (text : List ℕ) → LeavesLess text (cut_twice byte text)
leaves_less byte text = less_by text (twice_at byte text) (is_inside byte text)

-- past a place at which it doesn't stand twice
further : (o : Option ℕ) (at : ℕ) → option_map (λ n. at + n) (option_map (λ n. n + 1) o) ≡ option_map (λ n. (at + 1) + n) o
further None at = refl
further (Some n) at = ap Some (omega arith)

pub not_here : (byte : ℕ) (text : List ℕ) (at : ℕ) → at < length text → begins_twice byte (drop at text) ≡ false
    → option_map (λ n. at + n) (twice_at byte (drop at text)) ≡ option_map (λ n. (at + 1) + n) (twice_at byte (drop (at + 1) text))
not_here byte text at inside e =
    let here = drop_more text at 0 inside in
    let none : begins_twice byte (get_or text at 0 ∷ drop (at + 1) text) ≡ false = ap (begins_twice byte) (sym here) ∙ e in
    let step : twice_at byte (drop at text) ≡ option_map (λ n. n + 1) (twice_at byte (drop (at + 1) text)) = ap (twice_at byte) here ∙ rw none refl in
    ap (option_map (λ n. at + n)) step ∙ further (twice_at byte (drop (at + 1) text)) at

-- it takes no more steps than bytes
same_opened : (n m : ℕ) (front behind : List ℕ) (o : Option (List ℕ × List ℕ)) → length behind ≤ suc n → length behind ≤ suc m → LeavesLess behind o
    → ((text : List ℕ) → length text ≤ n → length text ≤ m → pieces_within n text ≡ pieces_within m text)
    → pieces_opened (pieces_within n) front o ≡ pieces_opened (pieces_within m) front o
same_opened n m front behind None low high less again = refl
same_opened n m front behind (Some cut) low high less again =
    ap (option_and_then (λ pieces. option_map (pieces_behind front pieces) (place_in cut.0))) (again cut.1 (omega (arith, less, low)) (omega (arith, less, high)))

same_cut : (n m : ℕ) (text : List ℕ) (o : Option (List ℕ × List ℕ)) → length text ≤ suc n → length text ≤ suc m → LeavesLess text o
    → ((text : List ℕ) → length text ≤ n → length text ≤ m → pieces_within n text ≡ pieces_within m text)
    → pieces_cut (pieces_within n) text o ≡ pieces_cut (pieces_within m) text o
same_cut n m text None low high less again = refl
same_cut n m text (Some cut) low high less again =
    same_opened n m cut.0 cut.1 (cut_twice 125 cut.1) (omega (arith, less, low)) (omega (arith, less, high)) (leaves_less 125 cut.1) again

no_step : (m : ℕ) (text : List ℕ) → length text ≤ 0 → pieces_within m text ≡ Some (piece.Bytes text ∷ [])
no_step zero text h = refl
no_step (suc m) [] h = refl
no_step (suc m) (b ∷ bs) h = absurd (omega (arith, h))

enough : (n m : ℕ) (text : List ℕ) → length text ≤ n → length text ≤ m → pieces_within n text ≡ pieces_within m text
enough zero m text low high = sym (no_step m text low)
enough (suc n) zero text low high = no_step (suc n) text high
enough (suc n) (suc m) text low high = same_cut n m text (cut_twice 123 text) low high (leaves_less 123 text) (enough n m)

one_more : (text : List ℕ) → pieces_of text ≡ pieces_cut (pieces_within (length text)) text (cut_twice 123 text)
unfolding pieces_of
one_more text = enough (length text) (suc (length text)) text (omega arith) (omega arith)

-- a text without a place
pub pieces-end : (text : List ℕ) → cut_twice 123 text ≡ None → pieces_of text ≡ Some (piece.Bytes text ∷ [])
pieces-end text e = one_more text ∙ ap (pieces_cut (pieces_within (length text)) text) e

-- one with a `{{` and no `}}`
pub pieces-open : (text front behind : List ℕ) → cut_twice 123 text ≡ Some (front, behind) → cut_twice 125 behind ≡ None → pieces_of text ≡ None
pieces-open text front behind e f =
    one_more text ∙ ap (pieces_cut (pieces_within (length text)) text) e ∙ ap (pieces_opened (pieces_within (length text)) front) f

-- one with a place
pub pieces-place : (text front behind inside rest : List ℕ) → cut_twice 123 text ≡ Some (front, behind) → cut_twice 125 behind ≡ Some (inside, rest)
    → length rest ≤ length text → pieces_of text ≡ option_and_then (λ pieces. option_map (pieces_behind front pieces) (place_in inside)) (pieces_of rest)
unfolding pieces_of
pieces-place text front behind inside rest e f less =
    one_more text ∙ ap (pieces_cut (pieces_within (length text)) text) e ∙ ap (pieces_opened (pieces_within (length text)) front) f
    ∙ ap (option_and_then (λ pieces. option_map (pieces_behind front pieces) (place_in inside))) (enough (length text) (length rest) rest less (omega arith))

-- pieces behind others
abbrev pub joined : List Piece → Option (List Piece) → Option (List Piece)
joined before pieces = option_map (λ more. before ++ more) pieces

join_by : (before : List Piece) (front : List ℕ) (place : Place) (o : Option (List Piece))
    → joined ((before ++ piece.Bytes front ∷ []) ++ piece.Place place ∷ []) o ≡ joined before (option_and_then (λ pieces. option_map (pieces_behind front pieces) (Some place)) o)
join_by before front place None = refl
join_by before front place (Some pieces) =
    ap Some (append_assoc (before ++ piece.Bytes front ∷ []) (piece.Place place ∷ []) pieces ∙ append_assoc before (piece.Bytes front ∷ []) (piece.Place place ∷ pieces))

none_by : (front : List ℕ) (o : Option (List Piece)) → option_and_then (λ pieces. option_map (pieces_behind front pieces) None) o ≡ None
none_by front None = refl
none_by front (Some pieces) = refl

-- with a place more
pub joined-place : (before : List Piece) (text front behind inside rest : List ℕ) (place : Place) → cut_twice 123 text ≡ Some (front, behind) → cut_twice 125 behind ≡ Some (inside, rest)
    → length rest ≤ length text → place_in inside ≡ Some place
    → joined ((before ++ piece.Bytes front ∷ []) ++ piece.Place place ∷ []) (pieces_of rest) ≡ joined before (pieces_of text)
joined-place before text front behind inside rest place e f less is =
    join_by before front place (pieces_of rest)
    ∙ ap (λ p. joined before (option_and_then (λ pieces. option_map (pieces_behind front pieces) p) (pieces_of rest))) (sym is)
    ∙ ap (joined before) (sym (pieces-place text front behind inside rest e f less))

-- what stands there is no place
pub joined-none : (before : List Piece) (text front behind inside rest : List ℕ) → cut_twice 123 text ≡ Some (front, behind) → cut_twice 125 behind ≡ Some (inside, rest)
    → length rest ≤ length text → place_in inside ≡ None → joined before (pieces_of text) ≡ None
joined-none before text front behind inside rest e f less is =
    ap (joined before) (pieces-place text front behind inside rest e f less
    ∙ ap (λ p. option_and_then (λ pieces. option_map (pieces_behind front pieces) p) (pieces_of rest)) is ∙ none_by front (pieces_of rest))
