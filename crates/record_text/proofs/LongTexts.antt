-- Character-strings that take more than a record's data may have, and those that fit.
use Rattle.std.proofs.Common.{◌≡◌, ◌<◌, ◌+◌, ℕ, List, [], ◌∷◌, ◌++◌, length, drop, Option, Some, None, option_map, option_and_then, true, refl, sym, ap, arith, ◌∙◌}
use Rattle.std.proofs.Math.Dec.{ltb}
use Rattle.std.proofs.Math.ListN.{get_or}
use Rattle.std.proofs.lemmas.Bool.{lt-ltb}
use Rattle.std.proofs.lemmas.List.{drop_more}
use Rattle.std.specs.List.{AllByRecursion}
use Rattle.dns_data.specs.declared.limit.TheConstants as limits
use Rattle.dns_data.specs.Record.{IsCharacterString, strings_length}
use Rattle.record_text.proofs.Steps.{map_push}
use Rattle.record_text.specs.Fields.{string_in}
use Rattle.record_text.specs.Rows.{if_short, strings_of, txt_row}
use Rattle.record_text.specs.Words.{WordData}

-- the words from a place on
pub words_at : (words : List WordData) (at : ℕ) (word : WordData) → at < length words → word ≡ get_or words at word → drop at words ≡ word ∷ drop (at + 1) words
words_at words at word h is = drop_more words at word h ∙ ap (λ (w : WordData). w ∷ drop (at + 1) words) (sym is)

pub length-push : (strings : List (List ℕ)) (string : List ℕ) → strings_length (strings ++ string ∷ []) ≡ strings_length strings + (length string + 1)
length-push [] string = omega arith
length-push (s ∷ strings) string = let h = length-push strings string in omega (arith, h)

pub each_push : (strings : List (List ℕ)) (string : List ℕ) → AllByRecursion IsCharacterString strings → IsCharacterString string
    → AllByRecursion IsCharacterString (strings ++ string ∷ [])
each_push [] string all h = (h, tt)
each_push (s ∷ strings) string all h = (all.0, each_push strings string all.1 h)

strings_rest : (rest others : List WordData) (word : WordData) (string : List ℕ) → rest ≡ word ∷ others → string_in word ≡ Some string
    → strings_of rest ≡ option_map (λ o. string ∷ o) (strings_of others)
strings_rest rest others word string is value =
    ap strings_of is ∙ ap (option_and_then (λ s. option_map (λ o. s ∷ o) (strings_of others))) value

pub txt_step : (words rest others : List WordData) (found new : List (List ℕ)) (word : WordData) (string : List ℕ) → option_map (λ o. found ++ o) (strings_of rest) ≡ strings_of words
    → rest ≡ word ∷ others → string_in word ≡ Some string → new ≡ found ++ string ∷ [] → option_map (λ o. new ++ o) (strings_of others) ≡ strings_of words
txt_step words rest others found new word string says is value push =
    map_push found new string (strings_of others) push ∙ ap (option_map (λ o. found ++ o)) (sym (strings_rest rest others word string is value)) ∙ says

no_text : (words : List WordData) → option_and_then if_short (strings_of words) ≡ None → txt_row words ≡ None
no_text [] h = refl
no_text (word ∷ words) h = h

length-append : (a b : List (List ℕ)) → strings_length (a ++ b) ≡ strings_length a + strings_length b
length-append [] b = omega arith
length-append (s ∷ a) b = let h = length-append a b in omega (arith, h)

long : (found : List (List ℕ)) (others : Option (List (List ℕ))) → limits.RDATA_BYTES < strings_length found → option_and_then if_short (option_map (λ o. found ++ o) others) ≡ None
long found None h = refl
long found (Some others) h =
    let size = length-append found others in
    let test : ltb limits.RDATA_BYTES (strings_length (found ++ others)) ≡ true = lt-ltb limits.RDATA_BYTES (strings_length (found ++ others)) (omega (arith, size)) in
    rw test refl

pub txt_long : (words rest others : List WordData) (found : List (List ℕ)) (word : WordData) (string : List ℕ) → option_map (λ o. found ++ o) (strings_of rest) ≡ strings_of words
    → rest ≡ word ∷ others → string_in word ≡ Some string → limits.RDATA_BYTES < strings_length found + (length string + 1) → txt_row words ≡ None
txt_long words rest others found word string says is value h =
    let size = length-push found string in
    no_text words
    (ap (option_and_then if_short) (sym (txt_step words rest others found (found ++ string ∷ []) word string says is value refl))
    ∙ long (found ++ string ∷ []) (strings_of others) (omega (arith, size)))
