-- The pieces of a header, and where a key is cut.
use Rattle.std.proofs.Common.{◌≡◌, ◌≢◌, ℕ, ◌+◌, ◌<◌, ◌≤◌, Bool, true, false, eqb, cond, List, [], ◌∷◌, ◌++◌, Option, Some, None, option_map, length, take, drop, get_or, refl, sym, ap, ◌∙◌, arith}
use Rattle.std.proofs.lemmas.List.{append-nil, drop_all, drop_more, take_all, take_more}
use Rattle.std.proofs.lemmas.Bool.{eq-eqb, ne_eqb}
use Rattle.std.specs.List.{flat_map}
use Rattle.std.specs.Prelude.{codes}
use Rattle.corefile_words.specs.declared.word.Word.{Word}
use Rattle.corefile_blocks.specs.Keys.{HeaderData, add_key, add_keys, all_pieces, begins_with, cut_at_commas, has_mark, pieces_of, port_at, scheme_at, unless_empty, with_first}

-- bytes in front of the first piece
abbrev pub front_first : List ℕ → List (List ℕ) → List (List ℕ)
front_first [] pieces = pieces
front_first (byte ∷ bytes) pieces = with_first byte (front_first bytes pieces)

front-push : (bytes : List ℕ) (byte : ℕ) (pieces : List (List ℕ)) → front_first (bytes ++ byte ∷ []) pieces ≡ front_first bytes (with_first byte pieces)
front-push [] byte pieces = refl
front-push (first ∷ bytes) byte pieces = ap (with_first first) (front-push bytes byte pieces)

front-cons : (bytes piece : List ℕ) (pieces : List (List ℕ)) → front_first bytes (piece ∷ pieces) ≡ (bytes ++ piece) ∷ pieces
front-cons [] piece pieces = refl
front-cons (first ∷ bytes) piece pieces = ap (with_first first) (front-cons bytes piece pieces)

-- behind a byte that is no comma
pub no_comma : (text : List ℕ) (at : ℕ) → at < length text → get_or text at 0 ≢ 44
    → front_first (take at text) (cut_at_commas (drop at text)) ≡ front_first (take (at + 1) text) (cut_at_commas (drop (at + 1) text))
no_comma text at inside h =
    let none : eqb (get_or text at 0) 44 ≡ false = ne_eqb (get_or text at 0) 44 h in
    let here : cut_at_commas (drop at text) ≡ with_first (get_or text at 0) (cut_at_commas (drop (at + 1) text)) = ap cut_at_commas (drop_more text at 0 inside) ∙ rw none refl in
    ap (front_first (take at text)) here ∙ sym (front-push (take at text) (get_or text at 0) (cut_at_commas (drop (at + 1) text)))
    ∙ ap (λ bytes. front_first bytes (cut_at_commas (drop (at + 1) text))) (sym (take_more text at 0 inside))

-- at a comma
pub at_comma : (text behind : List ℕ) (at : ℕ) → at < length text → get_or text at 0 ≡ 44 → behind ≡ drop (at + 1) text
    → cut_at_commas text ≡ front_first (take at text) (cut_at_commas (drop at text)) → pieces_of text ≡ unless_empty (take at text) ++ pieces_of behind
unfolding pieces_of
at_comma text behind at inside h rest is =
    let comma : eqb (get_or text at 0) 44 ≡ true = eq-eqb (get_or text at 0) 44 h in
    let here : cut_at_commas (drop at text) ≡ [] ∷ cut_at_commas (drop (at + 1) text) = ap cut_at_commas (drop_more text at 0 inside) ∙ rw comma refl in
    let cuts : cut_at_commas text ≡ (take at text ++ []) ∷ cut_at_commas (drop (at + 1) text) = is ∙ ap (front_first (take at text)) here ∙ front-cons (take at text) [] (cut_at_commas (drop (at + 1) text)) in
    ap (flat_map unless_empty) cuts
    ∙ ap (λ bytes. unless_empty bytes ++ flat_map unless_empty (cut_at_commas (drop (at + 1) text))) (append-nil (take at text))
    ∙ ap (λ bytes. unless_empty (take at text) ++ flat_map unless_empty (cut_at_commas bytes)) (sym rest)

-- no comma at all
pub one_piece : (text behind : List ℕ) (at : ℕ) → length text ≤ at → cut_at_commas text ≡ front_first (take at text) (cut_at_commas (drop at text))
    → behind ≡ drop (length text) text → pieces_of text ≡ unless_empty text ++ pieces_of behind
unfolding pieces_of
one_piece text behind at past is rest =
    let none : behind ≡ [] = rest ∙ drop_all (length text) text (omega arith) in
    let here : cut_at_commas text ≡ front_first text ([] ∷ []) = is ∙ (λ i. front_first (take_all at text past i) (cut_at_commas (drop_all at text past i))) in
    let cuts : cut_at_commas text ≡ text ∷ [] = here ∙ front-cons text [] [] ∙ ap (λ bytes. bytes ∷ []) (append-nil text) in
    ap (flat_map unless_empty) cuts ∙ ap (λ bytes. unless_empty text ++ flat_map unless_empty (cut_at_commas bytes)) (sym none)

-- a text without bytes has no pieces
pub no_pieces : (text : List ℕ) → length text ≤ 0 → pieces_of text ≡ []
unfolding pieces_of
no_pieces [] h = refl
no_pieces (byte ∷ text) h = absurd (omega arith)

pub add_keys-append : (port line : ℕ) (header : HeaderData) (xs ys : List (List ℕ)) → add_keys port line header (xs ++ ys) ≡ add_keys port line (add_keys port line header xs) ys
add_keys-append port line header [] ys = refl
add_keys-append port line header (x ∷ xs) ys = add_keys-append port line (add_key port line header x) xs ys

past : (at : ℕ) (found : Option ℕ) → option_map (λ n. at + n) (option_map (λ n. n + 1) found) ≡ option_map (λ n. (at + 1) + n) found
past at None = refl
past at (Some n) = ap Some (omega arith)

-- behind a byte at which no `://` begins
pub no_scheme : (text : List ℕ) (at : ℕ) → at < length text → begins_with (codes "://") (drop at text) ≡ false
    → option_map (λ n. at + n) (scheme_at (drop at text)) ≡ option_map (λ n. (at + 1) + n) (scheme_at (drop (at + 1) text))
no_scheme text at inside e =
    let here = drop_more text at 0 inside in
    let none : begins_with (codes "://") (get_or text at 0 ∷ drop (at + 1) text) ≡ false = ap (begins_with (codes "://")) (sym here) ∙ e in
    let step : scheme_at (drop at text) ≡ option_map (λ n. n + 1) (scheme_at (drop (at + 1) text)) = ap scheme_at here ∙ rw none refl in
    ap (option_map (λ n. at + n)) step ∙ past at (scheme_at (drop (at + 1) text))

-- where the rest of a key says where its port begins, and where the front does
abbrev pub port_behind : ℕ → List ℕ → Option ℕ → Option ℕ
port_behind at rest found = cond (has_mark rest) (option_map (λ n. at + n) (port_at rest)) found

pub port_start : (text : List ℕ) → port_at text ≡ port_behind 0 text None
port_start [] = refl
port_start (byte ∷ text) = marked (has_mark (byte ∷ text)) refl
  where
    same : (found : Option ℕ) → found ≡ option_map (λ n. 0 + n) found
    same None = refl
    same (Some n) = ap Some (omega arith)

    no_port : has_mark (byte ∷ text) ≡ false → port_at (byte ∷ text) ≡ None
    no_port h = grind arith

    marked : (b : Bool) → has_mark (byte ∷ text) ≡ b → port_at (byte ∷ text) ≡ cond b (option_map (λ n. 0 + n) (port_at (byte ∷ text))) None
    marked true h = same (port_at (byte ∷ text))
    marked false h = no_port h

pub port_end : (at : ℕ) (found : Option ℕ) → port_behind at [] found ≡ found
port_end at found = refl

-- the pieces of a word were read
pub word_read : (port line : ℕ) (header after : HeaderData) (words rest : List Word) (word : Word) → words ≡ word ∷ rest
    → after ≡ add_keys port line header (pieces_of word.text) → add_keys port line after (all_pieces rest) ≡ add_keys port line header (all_pieces words)
word_read port line header after words rest word is read =
    ap (λ h. add_keys port line h (all_pieces rest)) read
    ∙ sym (add_keys-append port line header (pieces_of word.text) (all_pieces rest))
    ∙ ap (λ w. add_keys port line header (all_pieces w)) (sym is)
