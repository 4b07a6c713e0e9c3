-- Lines of words in front of others.
use Rattle.std.proofs.Common.{◌≡◌, ℕ, List, [], ◌∷◌, ◌++◌, Result, Ok, Err, length, ◌+◌, ◌<◌, refl, sym, ap, subst, ◌∙◌, arith}
use Rattle.std.proofs.lemmas.List.{append-nil, nil_from_length}
use Rattle.std.proofs.lemmas.List.Elements.{All-from_recursion}
use Rattle.std.specs.List.{All, AllByRecursion}
use Rattle.corefile_words.specs.declared.word.Pair.{Pair}
use Rattle.corefile_words.specs.declared.word.Word.{Word}
use Rattle.corefile_words.specs.declared.word.WordLine.{WordLine}
use Rattle.corefile_words.specs.declared.fault.WordsFault.{WordsFault}
use Rattle.corefile_words.specs.Lines.{lines_of}
use Rattle.corefile_words.specs.Words.{line_words, put_line, numbered, words_of}

abbrev pub front : List WordLine → Result (List WordLine) WordsFault → Result (List WordLine) WordsFault
front lines (Ok others) = Ok (lines ++ others)
front lines (Err fault) = Err fault

front-nil : (others : Result (List WordLine) WordsFault) → front [] others ≡ others
front-nil (Ok lines) = refl
front-nil (Err fault) = refl

pub at_start : (env : List Pair) (bytes : List ℕ) (lines : List WordLine) → lines ≡ [] → front lines (numbered env 1 (lines_of bytes)) ≡ words_of env bytes
unfolding words_of
at_start env bytes lines e = ap (λ (l : List WordLine). front l (numbered env 1 (lines_of bytes))) e ∙ front-nil (numbered env 1 (lines_of bytes))

pub at_end : (env : List Pair) (number : ℕ) (bytes rest : List ℕ) (lines : List WordLine) → front lines (numbered env number (lines_of rest)) ≡ words_of env bytes
    → length rest ≡ 0 → words_of env bytes ≡ Ok lines
unfolding lines_of
at_end env number bytes rest lines says none =
    sym says ∙ ap (λ (l : List ℕ). front lines (numbered env number (lines_of l))) (nil_from_length rest none) ∙ ap Ok (append-nil lines)

-- each line has a word
worded : (number : ℕ) (found : List WordLine) (words : Result (List Word) WordsFault) (others : Result (List WordLine) WordsFault) → put_line number words others ≡ Ok found
    → ((more : List WordLine) → others ≡ Ok more → AllByRecursion (λ (line : WordLine). 0 < length line.words) more)
    → AllByRecursion (λ (line : WordLine). 0 < length line.words) found
worded number found (Err fault) others e h = absurd cc
worded number found (Ok []) others e h = h found e
worded number found (Ok (word ∷ words)) (Err fault) e h = absurd cc
worded number [] (Ok (word ∷ words)) (Ok lines) e h = absurd cc
worded number (line ∷ found) (Ok (word ∷ words)) (Ok lines) e h =
    let is : record { words = word ∷ words; number = number } ≡ line = cc in
    (subst (λ (l : WordLine). 0 < length l.words) is (omega arith), h found (ap Ok cc))

all_worded : (env : List Pair) (number : ℕ) (lines : List (List ℕ)) (found : List WordLine) → numbered env number lines ≡ Ok found
    → AllByRecursion (λ (line : WordLine). 0 < length line.words) found
all_worded env number [] [] e = tt
all_worded env number [] (line ∷ found) e = absurd cc
all_worded env number (line ∷ lines) found e =
    worded number found (line_words env number line) (numbered env (number + 1) lines) e (λ more h. all_worded env (number + 1) lines more h)

pub words_are : (env : List Pair) (bytes : List ℕ) (found : List WordLine) → words_of env bytes ≡ Ok found → All (λ (line : WordLine). 0 < length line.words) found
unfolding words_of
words_are env bytes found e = All-from_recursion (λ (line : WordLine). 0 < length line.words) found (all_worded env 1 (lines_of bytes) found e)
