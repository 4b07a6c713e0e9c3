-- The words of a line, step by step.
use Rattle.std.proofs.Common.{◌≡◌, ◌≢◌, ℕ, zero, suc, List, [], ◌∷◌, ◌++◌, drop, Option, Some, None, option_map, false, eqb, refl, sym, ap, append_assoc, ◌∙◌}
use Rattle.std.proofs.lemmas.Bool.{ne_eqb}
use Rattle.record_text.specs.declared.form.Form.TheVariants.{ZoneFile}
use Rattle.record_text.specs.Words.{WordData, is_blank, word_in}
use Rattle.zone_file.specs.Entries.{ScannedData, behind, scan, scanned_data, with_word, word_then}

scan-skip : (depth skip : ℕ) (bytes : List ℕ) → scan depth skip bytes ≡ scan depth 0 (drop skip bytes)
scan-skip depth zero bytes = refl
scan-skip depth (suc skip) [] = refl
scan-skip depth (suc skip) (byte ∷ bytes) = scan-skip depth skip bytes

pub behind_push : (found new : List WordData) (word : WordData) (others : Option ScannedData) → new ≡ found ++ word ∷ []
    → option_map (behind new) others ≡ option_map (behind found) (option_map (with_word word) others)
behind_push found new word None is = refl
behind_push found new word (Some s) is =
    ap (λ (l : List WordData). Some (scanned_data (l ++ s.words) s.depth)) is
    ∙ ap (λ (l : List WordData). Some (scanned_data l s.depth)) (append_assoc found (word ∷ []) s.words)

pub scan_word : (depth first size : ℕ) (rest others after : List ℕ) (word : WordData) → rest ≡ first ∷ others → is_blank first ≡ false → first ≢ 59 → first ≢ 40 → first ≢ 41
    → word_in ZoneFile rest ≡ Some (word, size) → after ≡ drop size others → scan depth 0 rest ≡ option_map (with_word word) (scan depth 0 after)
scan_word depth first size rest others after word is b c o p value left =
    let at : word_in ZoneFile (first ∷ others) ≡ Some (word, size) = ap (word_in ZoneFile) (sym is) ∙ value in
    let semicolon : eqb first 59 ≡ false = ne_eqb first 59 c in
    let opening : eqb first 40 ≡ false = ne_eqb first 40 o in
    let closing : eqb first 41 ≡ false = ne_eqb first 41 p in
    ap (scan depth 0) is ∙ rw (b, semicolon, opening, closing) refl ∙ ap (λ f. word_then f (λ skip. scan depth skip others)) at
    ∙ ap (option_map (with_word word)) (scan-skip depth size others ∙ ap (scan depth 0) (sym left))

pub scan_step : (depth first size : ℕ) (rest others after : List ℕ) (found new : List WordData) (word : WordData) (whole : Option ScannedData) → option_map (behind found) (scan depth 0 rest) ≡ whole
    → rest ≡ first ∷ others → is_blank first ≡ false → first ≢ 59 → first ≢ 40 → first ≢ 41
    → word_in ZoneFile rest ≡ Some (word, size) → new ≡ found ++ word ∷ [] → after ≡ drop size others → option_map (behind new) (scan depth 0 after) ≡ whole
scan_step depth first size rest others after found new word whole says is b c o p value push left =
    behind_push found new word (scan depth 0 after) push
    ∙ ap (option_map (behind found)) (sym (scan_word depth first size rest others after word is b c o p value left)) ∙ says
