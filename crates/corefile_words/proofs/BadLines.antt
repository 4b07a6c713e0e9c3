-- The first line that isn't UTF-8 is that of the first byte that isn't.
use Rattle.std.proofs.Common.{◌≡◌, ◌⊎◌, ℕ, zero, suc, ◌+◌, ◌-◌, ◌<◌, ◌≤◌, true, false, cond, eqb, List, [], ◌∷◌, ◌++◌, length, get_or, take, drop, Option, Some, None, Result, Ok, Err, refl, sym, ap, subst, ◌∙◌, arith, inl, inr, ⊎_elim, true≢false, eqb-true, length-append, length-drop, take_all}
use Rattle.std.proofs.Math.Seq.{take-append-add}
use Rattle.std.proofs.lemmas.List.{take-append-le}
use Rattle.std.proofs.lemmas.List.Sums.{sum_by-append}
use Rattle.std.proofs.lemmas.Bool.{cases_Bool, cases_lt, cond-true, cond-false}
use Rattle.std.proofs.lemmas.Str.{IsUtf8-nil, IsUtf8-from_ascii, IsUtf8-append, IsUtf8-from_is_utf8, is_utf8-from_IsUtf8}
use Rattle.std.specs.List.{count_by}
use Rattle.std.specs.Str.{IsUtf8, IsValidUpTo, is_utf8}
use Rattle.std.specs.Str.Lossy.{valid_len_up_to}
use Rattle.corefile_words.specs.declared.word.Pair.{Pair}
use Rattle.corefile_words.specs.declared.word.Word.{Word}
use Rattle.corefile_words.specs.declared.word.WordLine.{WordLine}
use Rattle.corefile_words.specs.declared.fault.WordsFault.{WordsFault}
use Rattle.corefile_words.specs.declared.fault.WordsFault.TheVariants.{NotText, OpenQuote, QuoteTail, NoMemory}
use Rattle.corefile_words.specs.BadBytes.{BreaksIn}
use Rattle.corefile_words.specs.Lines.{is_line_end, before, lines_of}
use Rattle.corefile_words.specs.Words.{is_blank, ends_word, closing_quote, plain_word, quoted_word, quoted_then, join, words_from, line_words, put_line, numbered, words_of, ReadsWords}
use Rattle.corefile_words.specs.LinesLaws.{before-le}
use Rattle.corefile_words.proofs.Cuts.{NoEnd, stripped, no_end_before, all_before, split, first_of, one_line}
use Rattle.corefile_words.proofs.Texts.{utf8_behind, utf8_left, utf8_right}

-- a line without its CR is UTF-8 where the line is
strip_cases : (line : List ℕ) → (stripped line ≡ line) ⊎ (line ≡ stripped line ++ (13 ∷ []))
strip_cases [] = inl refl
strip_cases (byte ∷ []) =
    elim (eqb byte 13) as (λ b. eqb byte 13 ≡ b → (cond b [] (byte ∷ []) ≡ byte ∷ []) ⊎ (byte ∷ [] ≡ cond b [] (byte ∷ []) ++ (13 ∷ [])))
    [ true ↦ λ e. inr (ap (λ (x : ℕ). x ∷ []) (eqb-true byte 13 e)) | false ↦ λ _. inl refl ] refl
strip_cases (byte ∷ second ∷ bytes) =
    ⊎_elim (λ same. inl (ap (λ (l : List ℕ). byte ∷ l) same)) (λ cr. inr (ap (λ (l : List ℕ). byte ∷ l) cr)) (strip_cases (second ∷ bytes))

ascii_byte : (byte : ℕ) → byte < 128 → (i : ℕ) → get_or (byte ∷ []) i 0 < 128
ascii_byte byte h zero = h
ascii_byte byte h (suc i) = omega arith

one_byte : (byte : ℕ) → byte < 128 → IsUtf8 (byte ∷ [])
one_byte byte h = IsUtf8-from_ascii (byte ∷ []) (ascii_byte byte h)

with_cr : (line : List ℕ) → IsUtf8 (stripped line) → IsUtf8 line
with_cr line u =
    ⊎_elim (λ same. subst IsUtf8 same u)
    (λ cr. subst IsUtf8 (sym cr) (IsUtf8-append (stripped line) (13 ∷ []) u (one_byte 13 (omega arith)))) (strip_cases line)

without_cr : (line : List ℕ) → IsUtf8 line → IsUtf8 (stripped line)
without_cr line u =
    ⊎_elim (λ same. subst IsUtf8 (sym same) u) (λ cr. utf8_left (stripped line) (13 ∷ []) (subst IsUtf8 cr u) (omega arith)) (strip_cases line)

-- the words of a text have no NotText among their faults
abbrev NotBad : Result (List Word) WordsFault → Type 0
NotBad (Ok words) = Unit {0}
NotBad (Err (NotText line)) = ⊥
NotBad (Err (OpenQuote line)) = Unit {0}
NotBad (Err (QuoteTail line)) = Unit {0}
NotBad (Err NoMemory) = Unit {0}

NotBad-join : (words : List Word) (others : Result (List Word) WordsFault) → NotBad others → NotBad (join words others)
NotBad-join words (Ok others) h = tt
NotBad-join words (Err fault) h = h

NotBad-quoted : (env : List Pair) (number : ℕ) (bytes : List ℕ) (size : Option ℕ) (behind : ℕ → Result (List Word) WordsFault) → ((skip : ℕ) → NotBad (behind skip))
    → NotBad (quoted_then env number bytes size behind)
NotBad-quoted env number bytes None behind h = tt
NotBad-quoted env number bytes (Some size) behind h =
    elim (ends_word (drop (size + 1) bytes)) as (λ b. NotBad (cond b (join (quoted_word env (take size bytes)) (behind (size + 1))) (Err (QuoteTail number))))
    [ true ↦ NotBad-join (quoted_word env (take size bytes)) (behind (size + 1)) (h (size + 1)) | false ↦ tt ]

NotBad-words : (env : List Pair) (number skip : ℕ) (bytes : List ℕ) → NotBad (words_from env number skip bytes)
NotBad-words env number skip [] = tt
NotBad-words env number (suc skip) (byte ∷ bytes) = NotBad-words env number skip bytes
NotBad-words env number zero (byte ∷ bytes) =
    elim (is_blank byte) as (λ b. NotBad (cond b (words_from env number 0 bytes)
    (cond (eqb byte 35) (Ok []) (cond (eqb byte 34) (quoted_then env number bytes (closing_quote 34 bytes) (λ skip. words_from env number skip bytes))
    (join (plain_word env (byte ∷ before is_blank bytes)) (words_from env number (length (before is_blank bytes)) bytes)))))) [
      | true ↦ NotBad-words env number 0 bytes
      | false ↦ elim (eqb byte 35) as (λ b. NotBad (cond b (Ok [])
          (cond (eqb byte 34) (quoted_then env number bytes (closing_quote 34 bytes) (λ skip. words_from env number skip bytes))
          (join (plain_word env (byte ∷ before is_blank bytes)) (words_from env number (length (before is_blank bytes)) bytes))))) [
            | true ↦ tt
            | false ↦ elim (eqb byte 34) as (λ b. NotBad (cond b (quoted_then env number bytes (closing_quote 34 bytes) (λ skip. words_from env number skip bytes))
                (join (plain_word env (byte ∷ before is_blank bytes)) (words_from env number (length (before is_blank bytes)) bytes)))) [
                  | true ↦ NotBad-quoted env number bytes (closing_quote 34 bytes) (λ skip. words_from env number skip bytes) (λ skip. NotBad-words env number skip bytes)
                  | false ↦ NotBad-join (plain_word env (byte ∷ before is_blank bytes)) (words_from env number (length (before is_blank bytes)) bytes)
                      (NotBad-words env number (length (before is_blank bytes)) bytes)
                ]
          ]
    ]

-- which lines are UTF-8
bad_line : (env : List Pair) (number line : ℕ) (bytes : List ℕ) → line_words env number bytes ≡ Err (NotText line) → (line ≡ number) × (IsUtf8 bytes → ⊥)
unfolding line_words
bad_line env number line bytes h =
    elim (is_utf8 bytes) as (λ b. is_utf8 bytes ≡ b → cond b (words_from env number 0 bytes) (Err (NotText number)) ≡ Err (NotText line) → (line ≡ number) × (IsUtf8 bytes → ⊥)) [
      | true ↦ λ _ e. absurd (subst NotBad e (NotBad-words env number 0 bytes))
      | false ↦ λ no e. (cc, λ u. true≢false (sym (is_utf8-from_IsUtf8 bytes u) ∙ no))
    ] refl h

good_line : (env : List Pair) (number : ℕ) (bytes : List ℕ) (words : List Word) → line_words env number bytes ≡ Ok words → IsUtf8 bytes
unfolding line_words
good_line env number bytes words h =
    elim (is_utf8 bytes) as (λ b. is_utf8 bytes ≡ b → cond b (words_from env number 0 bytes) (Err (NotText number)) ≡ Ok words → IsUtf8 bytes)
    [ true ↦ λ yes _. IsUtf8-from_is_utf8 bytes yes | false ↦ λ _ e. absurd cc ] refl h

put_bad : (number line : ℕ) (words : Result (List Word) WordsFault) (others : Result (List WordLine) WordsFault) → put_line number words others ≡ Err (NotText line)
    → (words ≡ Err (NotText line)) ⊎ (((found : List Word) × (words ≡ Ok found)) × (others ≡ Err (NotText line)))
put_bad number line (Err fault) others e = inl cc
put_bad number line (Ok []) others e = inr (([], refl), e)
put_bad number line (Ok (word ∷ words)) (Err fault) e = inr ((word ∷ words, refl), e)
put_bad number line (Ok (word ∷ words)) (Ok lines) e = absurd cc

put_good : (number : ℕ) (lines : List WordLine) (words : Result (List Word) WordsFault) (others : Result (List WordLine) WordsFault) → put_line number words others ≡ Ok lines
    → ((found : List Word) × (words ≡ Ok found)) × ((more : List WordLine) × (others ≡ Ok more))
put_good number lines (Err fault) others e = absurd cc
put_good number lines (Ok []) others e = (([], refl), (lines, e))
put_good number lines (Ok (word ∷ words)) (Err fault) e = absurd cc
put_good number lines (Ok (word ∷ words)) (Ok others) e = ((word ∷ words, refl), (others, refl))

-- the longest front that is UTF-8
longest_front : (bs : List ℕ) (m : ℕ) → IsUtf8 (take (valid_len_up_to bs m) bs) × ((k : ℕ) → valid_len_up_to bs m < k → k ≤ m → ¬ (IsUtf8 (take k bs)))
longest_front bs zero = (IsUtf8-nil, λ k above within. absurd (omega arith))
longest_front bs (suc m) =
    let rest = longest_front bs m in
    ⊎_elim
    (λ yes.
    let is : valid_len_up_to bs (suc m) ≡ suc m = cond-true _ _ _ yes in
    (subst (λ n. IsUtf8 (take n bs)) (sym is) (IsUtf8-from_is_utf8 _ yes), λ k above within. absurd (omega arith)))
    (λ no.
    let is : valid_len_up_to bs (suc m) ≡ valid_len_up_to bs m = cond-false _ _ _ no in (
      subst (λ n. IsUtf8 (take n bs)) (sym is) rest.0,
      λ k above within u. ⊎_elim
          (λ (top : m < k).
          let same : k ≡ suc m = omega arith in
          true≢false (sym (is_utf8-from_IsUtf8 _ (subst (λ n. IsUtf8 (take n bs)) same u)) ∙ no))
          (λ (low : k ≤ m). rest.1 k (omega arith) low u)
          (cases_lt m k),
    ))
    (cases_Bool (is_utf8 (take (suc m) bs)))

breaks : (bs : List ℕ) → (IsUtf8 bs → ⊥) → (n : ℕ) × IsValidUpTo bs n
breaks bs bad =
    let front = longest_front bs (length bs) in
    ⊎_elim
    (λ (short : valid_len_up_to bs (length bs) < length bs). (
      valid_len_up_to bs (length bs),
      record {
        short = short;
        front = front.0;
        longest = λ m above u. ⊎_elim
            (λ (past : length bs < m).
            front.1 (length bs) short (omega arith) (subst IsUtf8 (take_all m bs (omega arith) ∙ sym (take_all (length bs) bs (omega arith))) u))
            (λ (within : m ≤ length bs). front.1 m above within u)
            (cases_lt (length bs) m);
      },
    ))
    (λ (whole : length bs ≤ valid_len_up_to bs (length bs)). absurd (bad (subst IsUtf8 (take_all (valid_len_up_to bs (length bs)) bs whole) front.0)))
    (cases_lt (valid_len_up_to bs (length bs)) (length bs))

-- before, at and behind a LF
no_ends : (line : List ℕ) (n : ℕ) → NoEnd line → count_by is_line_end (take n line) ≡ 0
no_ends line zero h = refl
no_ends [] (suc n) h = refl
no_ends (byte ∷ bytes) (suc n) h =
    let here : count_by is_line_end (byte ∷ []) ≡ 0 = rw h.0 refl in
    let parts : count_by is_line_end (byte ∷ take n bytes) ≡ count_by is_line_end (byte ∷ []) + count_by is_line_end (take n bytes) =
    sum_by-append _ (byte ∷ []) (take n bytes) in
    omega (arith, here, parts, no_ends bytes n h.1)

counted : (line rest : List ℕ) (n : ℕ) → NoEnd line → count_by is_line_end (line ++ (10 ∷ take n rest)) ≡ 1 + count_by is_line_end (take n rest)
counted line rest n h =
    let none = no_ends line (length line) h in
    let whole = take_all (length line) line (omega arith) in
    let parts : count_by is_line_end (line ++ (10 ∷ take n rest)) ≡ count_by is_line_end line + count_by is_line_end (10 ∷ take n rest) =
    sum_by-append _ line (10 ∷ take n rest) in
    let here : count_by is_line_end (10 ∷ []) ≡ 1 = refl in
    let lead : count_by is_line_end (10 ∷ take n rest) ≡ count_by is_line_end (10 ∷ []) + count_by is_line_end (take n rest) = sum_by-append _ (10 ∷ []) (take n rest) in
    omega (arith, parts, here, lead, none, ap (count_by is_line_end) whole)

front_of_more : (line tail : List ℕ) (m : ℕ) → length line < m → take m (line ++ tail) ≡ line ++ take (m - length line) tail
front_of_more line tail m h =
    let same : m ≡ length line + (m - length line) = omega arith in
    ap (λ (n : ℕ). take n (line ++ tail)) same ∙ take-append-add line tail (m - length line)

ascii_front : (byte : ℕ) (bytes : List ℕ) (m : ℕ) → byte < 128 → get_or (take m (byte ∷ bytes)) 0 0 < 128
ascii_front byte bytes zero h = omega arith
ascii_front byte bytes (suc m) h = h

-- a line that isn't UTF-8
breaks_here : (number : ℕ) (line : List ℕ) (byte : ℕ) (bytes : List ℕ) → NoEnd line → (IsUtf8 line → ⊥) → byte < 128 → BreaksIn number (line ++ (byte ∷ bytes)) number
breaks_here number line byte bytes none bad ascii =
    let found = breaks line bad in
    let n = found.0 in
    let valid = found.1 in
    let front : take found.0 (line ++ (byte ∷ bytes)) ≡ take found.0 line = take-append-le found.0 line (byte ∷ bytes) (omega (arith, valid.short)) in
    record {
      place = found.0;
      valid = record {
        short = omega (arith, valid.short, length-append line (byte ∷ bytes));
        front = subst IsUtf8 (sym front) valid.front;
        longest = λ m above u. ⊎_elim
            (λ (past : length line < m). bad
            (utf8_left line (take (m - length line) (byte ∷ bytes)) (subst IsUtf8 (front_of_more line (byte ∷ bytes) m past) u) (ascii_front byte bytes (m - length line) ascii)))
            (λ (within : m ≤ length line). valid.longest m above (subst IsUtf8 (take-append-le m line (byte ∷ bytes) within) u))
            (cases_lt (length line) m);
      };
      counted = omega (arith, ap (count_by is_line_end) front, no_ends line found.0 none);
    }

breaks_at_end : (number : ℕ) (line : List ℕ) → NoEnd line → (IsUtf8 line → ⊥) → BreaksIn number line number
breaks_at_end number line none bad =
    let found = breaks line bad in
    record { place = found.0; valid = found.1; counted = omega (arith, no_ends line found.0 none) }

-- a line that is
front_behind : (line rest : List ℕ) (m : ℕ) → length line + 1 < m → take m (line ++ (10 ∷ rest)) ≡ line ++ (10 ∷ take (m - length line - 1) rest)
front_behind line rest m h =
    let some : m - length line ≡ suc (m - length line - 1) = omega arith in
    front_of_more line (10 ∷ rest) m (omega arith) ∙ ap (λ (n : ℕ). line ++ take n (10 ∷ rest)) some

breaks_behind : (number : ℕ) (line rest : List ℕ) (found : ℕ) → NoEnd line → IsUtf8 line → BreaksIn (number + 1) rest found → BreaksIn number (line ++ (10 ∷ rest)) found
breaks_behind number line rest found none good b =
    let place = length line + suc b.place in
    let front : take (length line + suc b.place) (line ++ (10 ∷ rest)) ≡ line ++ (10 ∷ take b.place rest) = take-append-add line (10 ∷ rest) (suc b.place) in
    record {
      place = length line + suc b.place;
      valid = record {
        short = omega (arith, b.valid.short, length-append line (10 ∷ rest));
        front = subst IsUtf8 (sym front)
            (IsUtf8-append line (10 ∷ take b.place rest) good (IsUtf8-append (10 ∷ []) (take b.place rest) (one_byte 10 (omega arith)) b.valid.front));
        longest = λ m above u.
            b.valid.longest (m - length line - 1) (omega arith)
            (utf8_behind 10 (take (m - length line - 1) rest)
            (utf8_right line (10 ∷ take (m - length line - 1) rest) (subst IsUtf8 (front_behind line rest m (omega arith)) u) (omega arith)) (omega arith));
      };
      counted = omega (arith, b.counted, ap (count_by is_line_end) front, counted line rest b.place none);
    }

lines_of-nil : lines_of [] ≡ []
unfolding lines_of
lines_of-nil = refl

last_line : (text : List ℕ) → length text ≤ length (before is_line_end text) → 0 < length text → lines_of text ≡ text ∷ []
last_line text h some =
    let all : length (before is_line_end text) ≡ length text = omega (arith, before-le is_line_end text) in
    one_line text (length (before is_line_end text)) [] refl all some refl ∙ ap (λ (l : List (List ℕ)). text ∷ l) lines_of-nil

bad_cut : (env : List Pair) (number line : ℕ) (text first rest : List ℕ) → text ≡ first ++ (10 ∷ rest) → NoEnd first → lines_of text ≡ stripped first ∷ lines_of rest
    → numbered env number (lines_of text) ≡ Err (NotText line) → (numbered env (number + 1) (lines_of rest) ≡ Err (NotText line) → BreaksIn (number + 1) rest line)
    → BreaksIn number text line
bad_cut env number line text first rest is none lines e later =
    subst (λ (t : List ℕ). BreaksIn number t line) (sym is)
    (⊎_elim
    (λ h.
    let b = bad_line env number line (stripped first) h in
    subst (λ (n : ℕ). BreaksIn number (first ++ (10 ∷ rest)) n) (sym b.0)
    (breaks_here number first 10 rest none (λ u. b.1 (without_cr first u)) (omega arith)))
    (λ h. breaks_behind number first rest line none (with_cr first (good_line env number (stripped first) h.0.0 h.0.1)) (later h.1))
    (put_bad number line (line_words env number (stripped first)) (numbered env (number + 1) (lines_of rest)) (ap (numbered env number) (sym lines) ∙ e)))

bad_last : (env : List Pair) (number line : ℕ) (text : List ℕ) → NoEnd text → lines_of text ≡ text ∷ [] → numbered env number (lines_of text) ≡ Err (NotText line)
    → BreaksIn number text line
bad_last env number line text none lines e =
    ⊎_elim
    (λ h.
    let b = bad_line env number line text h in
    subst (λ (n : ℕ). BreaksIn number text n) (sym b.0) (breaks_at_end number text none b.1))
    (λ h. let other = h.1 in absurd cc)
    (put_bad number line (line_words env number text) (Ok []) (ap (numbered env number) (sym lines) ∙ e))

shorter : (text : List ℕ) (n most : ℕ) → length text ≤ suc most → length (drop (suc n) text) ≤ most
shorter text n most h = simp length-drop (omega arith)

no_end_all : (text : List ℕ) → length text ≤ length (before is_line_end text) → NoEnd text
no_end_all text h = subst NoEnd (all_before text (omega (arith, before-le is_line_end text))) (no_end_before text)

bad_text : (env : List Pair) (most number line : ℕ) (text : List ℕ) → length text ≤ most → numbered env number (lines_of text) ≡ Err (NotText line) → BreaksIn number text line
bad_text env most number line [] h e =
    let none : numbered env number [] ≡ Err (NotText line) = ap (numbered env number) (sym lines_of-nil) ∙ e in absurd cc
bad_text env zero number line (byte ∷ bytes) h e = absurd (omega arith)
bad_text env (suc most) number line (byte ∷ bytes) h e =
    ⊎_elim
    (λ (lf : length (before is_line_end (byte ∷ bytes)) < length (byte ∷ bytes)).
    bad_cut env number line (byte ∷ bytes) (before is_line_end (byte ∷ bytes)) (drop (suc (length (before is_line_end (byte ∷ bytes)))) (byte ∷ bytes))
    (split (byte ∷ bytes) lf) (no_end_before (byte ∷ bytes)) (first_of (byte ∷ bytes) lf) e
    (λ later. bad_text env most (number + 1) line (drop (suc (length (before is_line_end (byte ∷ bytes)))) (byte ∷ bytes))
    (shorter (byte ∷ bytes) (length (before is_line_end (byte ∷ bytes))) most h) later))
    (λ (all : length (byte ∷ bytes) ≤ length (before is_line_end (byte ∷ bytes))).
    bad_last env number line (byte ∷ bytes) (no_end_all (byte ∷ bytes) all) (last_line (byte ∷ bytes) all (omega arith)) e)
    (cases_lt (length (before is_line_end (byte ∷ bytes))) (length (byte ∷ bytes)))

-- a text that has words is UTF-8
good_cut : (env : List Pair) (number : ℕ) (found : List WordLine) (text first rest : List ℕ) → text ≡ first ++ (10 ∷ rest) → lines_of text ≡ stripped first ∷ lines_of rest
    → numbered env number (lines_of text) ≡ Ok found → ((more : List WordLine) → numbered env (number + 1) (lines_of rest) ≡ Ok more → IsUtf8 rest) → IsUtf8 text
good_cut env number found text first rest is lines e later =
    let both = put_good number found (line_words env number (stripped first)) (numbered env (number + 1) (lines_of rest)) (ap (numbered env number) (sym lines) ∙ e) in
    subst IsUtf8 (sym is)
    (IsUtf8-append first (10 ∷ rest) (with_cr first (good_line env number (stripped first) both.0.0 both.0.1))
    (IsUtf8-append (10 ∷ []) rest (one_byte 10 (omega arith)) (later both.1.0 both.1.1)))

good_last : (env : List Pair) (number : ℕ) (found : List WordLine) (text : List ℕ) → lines_of text ≡ text ∷ [] → numbered env number (lines_of text) ≡ Ok found → IsUtf8 text
good_last env number found text lines e =
    let both = put_good number found (line_words env number text) (Ok []) (ap (numbered env number) (sym lines) ∙ e) in
    good_line env number text both.0.0 both.0.1

good_text : (env : List Pair) (most number : ℕ) (found : List WordLine) (text : List ℕ) → length text ≤ most → numbered env number (lines_of text) ≡ Ok found → IsUtf8 text
good_text env most number found [] h e = IsUtf8-nil
good_text env zero number found (byte ∷ bytes) h e = absurd (omega arith)
good_text env (suc most) number found (byte ∷ bytes) h e =
    ⊎_elim
    (λ (lf : length (before is_line_end (byte ∷ bytes)) < length (byte ∷ bytes)).
    good_cut env number found (byte ∷ bytes) (before is_line_end (byte ∷ bytes)) (drop (suc (length (before is_line_end (byte ∷ bytes)))) (byte ∷ bytes))
    (split (byte ∷ bytes) lf) (first_of (byte ∷ bytes) lf) e
    (λ more later. good_text env most (number + 1) more (drop (suc (length (before is_line_end (byte ∷ bytes)))) (byte ∷ bytes))
    (shorter (byte ∷ bytes) (length (before is_line_end (byte ∷ bytes))) most h) later))
    (λ (all : length (byte ∷ bytes) ≤ length (before is_line_end (byte ∷ bytes))).
    good_last env number found (byte ∷ bytes) (last_line (byte ∷ bytes) all (omega arith)) e)
    (cases_lt (length (before is_line_end (byte ∷ bytes))) (length (byte ∷ bytes)))

-- what an answer tells of the text
pub text_of : (env : List Pair) (bytes : List ℕ) (found : List WordLine) → words_of env bytes ≡ Ok found → IsUtf8 bytes
unfolding words_of
text_of env bytes found e = good_text env (length bytes) 1 found bytes (omega arith) e

pub break_of : (env : List Pair) (bytes : List ℕ) (line : ℕ) → words_of env bytes ≡ Err (NotText line) → BreaksIn 1 bytes line
unfolding words_of
break_of env bytes line e = bad_text env (length bytes) 1 line bytes (omega arith) e

pub at_break : (env : List Pair) (bytes : List ℕ) (line : ℕ) (result : Result (List WordLine) WordsFault) → ReadsWords bytes env result → result ≡ Err (NotText line)
    → BreaksIn 1 bytes line
at_break env bytes line result reads e = break_of env bytes line (subst (ReadsWords bytes env) e reads)
