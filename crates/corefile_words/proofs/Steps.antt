-- What a line says, step by step.
use Rattle.std.proofs.Common.{◌≡◌, ℕ, zero, suc, ◌+◌, ◌≢◌, true, false, eqb, List, [], ◌∷◌, ◌++◌, length, take, drop, Some, None, Result, Ok, Err, refl, sym, ap, ◌∙◌, append_assoc, add-one}
use Rattle.std.proofs.lemmas.List.{append-nil}
use Rattle.std.proofs.lemmas.Bool.{false_from_ne_true, eq-eqb, ne_eqb}
use Rattle.std.proofs.lemmas.Str.{IsUtf8-from_is_utf8, is_utf8-from_IsUtf8}
use Rattle.std.specs.Str.{IsUtf8, is_utf8}
use Rattle.corefile_words.specs.declared.word.Pair.{Pair}
use Rattle.corefile_words.specs.declared.word.Word.{Word}
use Rattle.corefile_words.specs.declared.fault.WordsFault.{WordsFault}
use Rattle.corefile_words.specs.declared.fault.WordsFault.TheVariants.{NotText, OpenQuote, QuoteTail}
use Rattle.corefile_words.specs.Lines.{before}
use Rattle.corefile_words.specs.LinesLaws.{take_before}
use Rattle.corefile_words.specs.Words.{is_blank, ends_word, closing_quote, plain_word, quoted_word, quoted_then, join, words_from, line_words}

-- a line that isn't UTF-8
pub not_text : (env : List Pair) (number : ℕ) (line : List ℕ) → (IsUtf8 line → ⊥) → line_words env number line ≡ Err (NotText number)
unfolding line_words
not_text env number line h =
    let no : is_utf8 line ≡ false = false_from_ne_true (is_utf8 line) (λ e. h (IsUtf8-from_is_utf8 line e)) in rw no refl

-- a line that is
pub text_line : (env : List Pair) (number : ℕ) (line : List ℕ) → IsUtf8 line → line_words env number line ≡ words_from env number 0 line
unfolding line_words
text_line env number line h = let yes : is_utf8 line ≡ true = is_utf8-from_IsUtf8 line h in rw yes refl

pub join-join : (a b : List Word) (others : Result (List Word) WordsFault) → join (a ++ b) others ≡ join a (join b others)
join-join a b (Ok others) = ap Ok (append_assoc a b others)
join-join a b (Err fault) = refl

words-skip : (env : List Pair) (number skip : ℕ) (bytes : List ℕ) → words_from env number skip bytes ≡ words_from env number 0 (drop skip bytes)
words-skip env number zero bytes = refl
words-skip env number (suc skip) [] = refl
words-skip env number (suc skip) (byte ∷ bytes) = words-skip env number skip bytes

-- a space or a tab
pub after_blank : (env : List Pair) (number byte : ℕ) (rest bytes : List ℕ) → rest ≡ byte ∷ bytes → is_blank byte ≡ true
    → words_from env number 0 rest ≡ words_from env number 0 bytes
after_blank env number byte rest bytes is b = ap (words_from env number 0) is ∙ rw b refl

-- a comment
pub at_comment : (env : List Pair) (number byte : ℕ) (rest bytes : List ℕ) → rest ≡ byte ∷ bytes → is_blank byte ≡ false → byte ≡ 35
    → words_from env number 0 rest ≡ Ok []
at_comment env number byte rest bytes is b e =
    let hash : eqb byte 35 ≡ true = eq-eqb byte 35 e in ap (words_from env number 0) is ∙ rw (b, hash) refl

-- a word within quotes
at_quote : (env : List Pair) (number byte : ℕ) (rest bytes : List ℕ) → rest ≡ byte ∷ bytes → is_blank byte ≡ false → byte ≢ 35 → byte ≡ 34
    → words_from env number 0 rest ≡ quoted_then env number bytes (closing_quote 34 bytes) (λ skip. words_from env number skip bytes)
at_quote env number byte rest bytes is b c e =
    let hash : eqb byte 35 ≡ false = ne_eqb byte 35 c in
    let quote : eqb byte 34 ≡ true = eq-eqb byte 34 e in
    ap (words_from env number 0) is ∙ rw (b, hash, quote) refl

pub at_open : (env : List Pair) (number byte : ℕ) (rest bytes : List ℕ) → rest ≡ byte ∷ bytes → is_blank byte ≡ false → byte ≢ 35 → byte ≡ 34
    → closing_quote 34 bytes ≡ None → words_from env number 0 rest ≡ Err (OpenQuote number)
at_open env number byte rest bytes is b c e none = at_quote env number byte rest bytes is b c e ∙ rw none refl

pub at_tail : (env : List Pair) (number byte : ℕ) (rest bytes : List ℕ) (size : ℕ) → rest ≡ byte ∷ bytes → is_blank byte ≡ false → byte ≢ 35 → byte ≡ 34
    → closing_quote 34 bytes ≡ Some size → ends_word (drop (size + 1) bytes) ≡ false → words_from env number 0 rest ≡ Err (QuoteTail number)
at_tail env number byte rest bytes size is b c e some tail = at_quote env number byte rest bytes is b c e ∙ rw (some, tail) refl

pub after_quoted : (env : List Pair) (number byte : ℕ) (rest bytes : List ℕ) (size : ℕ) → rest ≡ byte ∷ bytes → is_blank byte ≡ false → byte ≢ 35 → byte ≡ 34
    → closing_quote 34 bytes ≡ Some size → ends_word (drop (size + 1) bytes) ≡ true
    → words_from env number 0 rest ≡ join (quoted_word env (take size bytes)) (words_from env number 0 (drop (size + 1) bytes))
after_quoted env number byte rest bytes size is b c e some tail =
    at_quote env number byte rest bytes is b c e ∙ rw (some, tail) (ap (join (quoted_word env (take size bytes))) (words-skip env number (size + 1) bytes))

-- a word without quotes
pub after_plain : (env : List Pair) (number byte : ℕ) (rest bytes : List ℕ) (size : ℕ) → rest ≡ byte ∷ bytes → is_blank byte ≡ false → byte ≢ 35 → byte ≢ 34
    → size ≡ length (before is_blank bytes)
    → words_from env number 0 rest ≡ join (plain_word env (take (size + 1) rest)) (words_from env number 0 (drop size bytes))
after_plain env number byte rest bytes size is b c e h =
    let hash : eqb byte 35 ≡ false = ne_eqb byte 35 c in
    let quote : eqb byte 34 ≡ false = ne_eqb byte 34 e in
    let word : byte ∷ before is_blank bytes ≡ take (size + 1) rest =
    ap (λ (l : List ℕ). byte ∷ l) (sym (take_before is_blank bytes) ∙ ap (λ (n : ℕ). take n bytes) (sym h))
    ∙ ap (λ (n : ℕ). take n (byte ∷ bytes)) (sym (add-one size)) ∙ ap (take (size + 1)) (sym is) in
    ap (words_from env number 0) is
    ∙ rw (b, hash, quote) (λ i. join (plain_word env (word i)) (words_from env number (sym h i) bytes))
    ∙ ap (join (plain_word env (take (size + 1) rest))) (words-skip env number size bytes)

-- what the line says, where it said so much and now says more
pub goes_on : (env : List Pair) (number : ℕ) (line rest after : List ℕ) (words new more : List Word) → join words (words_from env number 0 rest) ≡ words_from env number 0 line
    → new ≡ words ++ more → words_from env number 0 rest ≡ join more (words_from env number 0 after) → join new (words_from env number 0 after) ≡ words_from env number 0 line
goes_on env number line rest after words new more says is step =
    ap (λ (w : List Word). join w (words_from env number 0 after)) is ∙ join-join words more (words_from env number 0 after)
    ∙ ap (join words) (sym step) ∙ says

pub no_more : (env : List Pair) (number : ℕ) (line rest : List ℕ) (words : List Word) → IsUtf8 line → join words (words_from env number 0 rest) ≡ words_from env number 0 line
    → words_from env number 0 rest ≡ Ok [] → line_words env number line ≡ Ok words
no_more env number line rest words text says step = text_line env number line text ∙ sym says ∙ ap (join words) step ∙ ap Ok (append-nil words)

pub at_fault : (env : List Pair) (number : ℕ) (line rest : List ℕ) (words : List Word) (fault : WordsFault) → IsUtf8 line
    → join words (words_from env number 0 rest) ≡ words_from env number 0 line → words_from env number 0 rest ≡ Err fault → line_words env number line ≡ Err fault
at_fault env number line rest words fault text says step = text_line env number line text ∙ sym says ∙ ap (join words) step
