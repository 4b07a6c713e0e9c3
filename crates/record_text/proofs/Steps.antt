-- What a text says, step by step.
use Rattle.std.proofs.Common.{◌≡◌, ℕ, zero, suc, List, [], ◌∷◌, ◌++◌, drop, Option, Some, None, option_map, false, refl, sym, ap, append_assoc, ◌∙◌}
use Rattle.dns_names.specs.NameText.{byte_at}
use Rattle.record_text.specs.declared.form.Form.TheVariants.{Alone}
use Rattle.record_text.specs.Strings.{byte_then, bytes_from, hex_byte, hex_of}
use Rattle.record_text.specs.HeadLaws.{words-skip}
use Rattle.record_text.specs.Words.{WordData, is_blank, word_in, word_then, words_from}

-- an item more in front of what follows
pub map_push : {A : Type 0} (found new : List A) (x : A) (others : Option (List A)) → new ≡ found ++ x ∷ []
    → option_map (λ o. new ++ o) others ≡ option_map (λ o. found ++ o) (option_map (λ o. x ∷ o) others)
map_push found new x None is = refl
map_push found new x (Some others) is = ap (λ l. Some (l ++ others)) is ∙ ap Some (append_assoc found (x ∷ []) others)

pub bytes-skip : (skip : ℕ) (text : List ℕ) → bytes_from skip text ≡ bytes_from 0 (drop skip text)
bytes-skip zero text = refl
bytes-skip (suc skip) [] = refl
bytes-skip (suc skip) (x ∷ text) = bytes-skip skip text

-- one more byte of hexadecimal digits
pub hex_step : (digits found new rest behind others : List ℕ) (high low byte : ℕ) → option_map (λ o. found ++ o) (hex_of rest) ≡ hex_of digits
    → rest ≡ high ∷ behind → behind ≡ low ∷ others → hex_byte high low ≡ Some byte → new ≡ found ++ byte ∷ [] → option_map (λ o. new ++ o) (hex_of others) ≡ hex_of digits
hex_step digits found new rest behind others high low byte says is next value push =
    let text : rest ≡ high ∷ low ∷ others = is ∙ ap (λ (l : List ℕ). high ∷ l) next in
    let step : hex_of rest ≡ option_map (λ o. byte ∷ o) (hex_of others) = ap hex_of text ∙ rw value refl in
    map_push found new byte (hex_of others) push ∙ ap (option_map (λ o. found ++ o)) (sym step) ∙ says

-- one more byte of a string
pub bytes_step : (text found new rest behind after : List ℕ) (first byte size : ℕ) → option_map (λ o. found ++ o) (bytes_from 0 rest) ≡ bytes_from 0 text
    → rest ≡ first ∷ behind → byte_at first behind ≡ Some (byte, size) → new ≡ found ++ byte ∷ [] → after ≡ drop size behind
    → option_map (λ o. new ++ o) (bytes_from 0 after) ≡ bytes_from 0 text
bytes_step text found new rest behind after first byte size says is value push left =
    let step : bytes_from 0 rest ≡ option_map (λ o. byte ∷ o) (bytes_from 0 after) =
    ap (bytes_from 0) is ∙ ap (λ o. byte_then o (λ skip. bytes_from skip behind)) value
    ∙ ap (option_map (λ o. byte ∷ o)) (bytes-skip size behind ∙ ap (bytes_from 0) (sym left)) in
    map_push found new byte (bytes_from 0 after) push ∙ ap (option_map (λ o. found ++ o)) (sym step) ∙ says

pub word_step : (text rest behind after : List ℕ) (found new : List WordData) (first : ℕ) (word : WordData) (size : ℕ)
    → option_map (λ o. found ++ o) (words_from 0 rest) ≡ words_from 0 text
    → rest ≡ first ∷ behind → is_blank first ≡ false → word_in Alone rest ≡ Some (word, size) → new ≡ found ++ word ∷ [] → after ≡ drop size behind
    → option_map (λ o. new ++ o) (words_from 0 after) ≡ words_from 0 text
word_step text rest behind after found new first word size says is b value push left =
    let at : word_in Alone (first ∷ behind) ≡ Some (word, size) = ap (word_in Alone) (sym is) ∙ value in
    let step : words_from 0 rest ≡ option_map (λ o. word ∷ o) (words_from 0 after) =
    ap (words_from 0) is ∙ rw b refl ∙ ap (λ o. word_then o (λ skip. words_from skip behind)) at
    ∙ ap (option_map (λ o. word ∷ o)) (words-skip size behind ∙ ap (words_from 0) (sym left)) in
    map_push found new word (words_from 0 after) push ∙ ap (option_map (λ o. found ++ o)) (sym step) ∙ says
