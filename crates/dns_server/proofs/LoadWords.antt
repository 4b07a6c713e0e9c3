-- The words of both forms of a load's Corefile.
use Rattle.std.proofs.Common.{◌≡◌, refl, ℕ, List, [], ◌∷◌, codes, true, false, ap, ◌∙◌, if◌then◌else◌, arith, Bool, ◌+◌, zero, suc}
use Rattle.std.specs.Prelude.{Result, Ok, Err, nat_lt, ◌&&◌}
use Rattle.corefile_words.specs.Words.{words_of}
use Rattle.corefile_words.specs.Words.{line_words, numbered, put_line, words_from}
use Rattle.corefile_words.specs.declared.fault.WordsFault.TheVariants.{NotText}
use Rattle.corefile_words.specs.declared.word.Pair.{Pair}
use Rattle.load_maker.specs.Texts.{conf_text, second_text}
use Rattle.std.specs.Str.{IsAscii, is_utf8}
use Rattle.std.proofs.lemmas.Bool.{and_parts, ltb-true}
use Rattle.std.proofs.lemmas.Str.{IsUtf8-from_ascii, is_utf8-from_IsUtf8}
use Rattle.corefile_words.specs.Lines.{lines_of}
use Rattle.corefile_words.specs.Variables.{filled}
use Rattle.corefile_words.specs.declared.word.Word.{Word}
use Rattle.corefile_words.specs.declared.word.WordLine.{WordLine}
use Rattle.corefile_words.specs.declared.fault.WordsFault.{WordsFault}

abbrev pub plain : List ℕ → Word
plain text = record { text = text; brace = false }

abbrev pub brace : List ℕ → Word
brace text = record { text = text; brace = true }

abbrev pub line : ℕ → List Word → WordLine
line number words = record { words = words; number = number }

ascii_line : (env : List Pair) (number : ℕ) (bytes : List ℕ) (words : Result (List Word) WordsFault) → is_utf8 bytes ≡ true → words_from env number 0 bytes ≡ words → line_words env number bytes ≡ words
unfolding line_words
ascii_line env number bytes words ascii is = ap (λ t. if t then words_from env number 0 bytes else Err (NotText number)) ascii ∙ is

abbrev all_low : List ℕ → Bool
all_low [] = true
all_low (b ∷ bs) = nat_lt b 128 && all_low bs

low_ascii : (bs : List ℕ) → all_low bs ≡ true → IsAscii bs
low_ascii [] e i = omega arith
low_ascii (b ∷ bs) e zero = ltb-true b 128 (and_parts (nat_lt b 128) (all_low bs) e).0
low_ascii (b ∷ bs) e (suc i) = low_ascii bs (and_parts (nat_lt b 128) (all_low bs) e).1 i

text_of : (bytes : List ℕ) → all_low bytes ≡ true → is_utf8 bytes ≡ true
text_of bytes low = is_utf8-from_IsUtf8 bytes (IsUtf8-from_ascii bytes (low_ascii bytes low))

head_words : (n : ℕ) → ◌≡◌ {A = Result (List Word) WordsFault} (line_words [] n (codes "load.test:53 {")) (Ok (plain (codes "load.test:53") ∷ brace (codes "{") ∷ []))
unfolding filled
head_words n = ascii_line [] n (codes "load.test:53 {") _ (text_of _ refl) refl

reload_words : (n : ℕ) → ◌≡◌ {A = Result (List Word) WordsFault} (line_words [] n (codes "    reload")) (Ok (plain (codes "reload") ∷ []))
unfolding filled
reload_words n = ascii_line [] n (codes "    reload") _ (text_of _ refl) refl

cache_words : (n : ℕ) → ◌≡◌ {A = Result (List Word) WordsFault} (line_words [] n (codes "    cache")) (Ok (plain (codes "cache") ∷ []))
unfolding filled
cache_words n = ascii_line [] n (codes "    cache") _ (text_of _ refl) refl

file_words : (n : ℕ) → ◌≡◌ {A = Result (List Word) WordsFault} (line_words [] n (codes "    file /db.load")) (Ok (plain (codes "file") ∷ plain (codes "/db.load") ∷ []))
unfolding filled
file_words n = ascii_line [] n (codes "    file /db.load") _ (text_of _ refl) refl

end_words : (n : ℕ) → ◌≡◌ {A = Result (List Word) WordsFault} (line_words [] n (codes "}")) (Ok (brace (codes "}") ∷ []))
unfolding filled
end_words n = ascii_line [] n (codes "}") _ (text_of _ refl) refl

second_words : (n : ℕ) → ◌≡◌ {A = Result (List Word) WordsFault} (line_words [] n (codes "# second")) (Ok [])
unfolding filled
second_words n = ascii_line [] n (codes "# second") _ (text_of _ refl) refl

abbrev pub lines_at : ℕ → List WordLine
lines_at n =
    line n (plain (codes "load.test:53") ∷ brace (codes "{") ∷ [])
    ∷ line (n + 1) (plain (codes "reload") ∷ [])
    ∷ line (n + 1 + 1) (plain (codes "cache") ∷ [])
    ∷ line (n + 1 + 1 + 1) (plain (codes "file") ∷ plain (codes "/db.load") ∷ [])
    ∷ line (n + 1 + 1 + 1 + 1) (brace (codes "}") ∷ []) ∷ []

abbrev pub Lines : Type 0
Lines = Result (List WordLine) WordsFault

abbrev five : List (List ℕ)
five = codes "load.test:53 {" ∷ codes "    reload" ∷ codes "    cache" ∷ codes "    file /db.load" ∷ codes "}" ∷ []

five_are : (n : ℕ) → ◌≡◌ {A = Lines} (numbered [] n five) (Ok (lines_at n))
five_are n = λ i. put_line n (head_words n i) (put_line (n + 1) (reload_words (n + 1) i) (put_line (n + 1 + 1) (cache_words (n + 1 + 1) i) (put_line (n + 1 + 1 + 1) (file_words (n + 1 + 1 + 1) i) (put_line (n + 1 + 1 + 1 + 1) (end_words (n + 1 + 1 + 1 + 1) i) (Ok [])))))

pub words_are : ◌≡◌ {A = Lines} (words_of [] conf_text) (Ok (lines_at 1))
unfolding words_of lines_of
words_are = five_are 1

pub second_are : ◌≡◌ {A = Lines} (words_of [] second_text) (Ok (lines_at 2))
unfolding words_of lines_of
second_are = (λ i. put_line 1 (second_words 1 i) (numbered [] 2 five)) ∙ five_are 2
