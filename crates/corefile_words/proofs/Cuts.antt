-- A text is cut at its first LF.
use Rattle.std.proofs.Common.{◌≡◌, ℕ, zero, suc, ◌+◌, ◌-◌, ◌<◌, ◌≤◌, ◌≢◌, true, false, cond, ◌&&◌, eqb, List, [], ◌∷◌, ◌++◌, length, get_or, take, drop, refl, sym, ap, subst, ◌∙◌, arith}
use Rattle.std.proofs.lemmas.List.{get_or_append_left, take-append-le}
use Rattle.std.proofs.lemmas.Bool.{eq-eqb, ne_eqb, eqb-true}
use Rattle.corefile_words.specs.Lines.{is_line_end, before, begins_with, without_before, with_first, cut, lines_of}
use Rattle.corefile_words.specs.LinesLaws.{take_before}

abbrev pub NoEnd : List ℕ → Type 0
NoEnd [] = Unit {0}
NoEnd (byte ∷ bytes) = (eqb byte 10 ≡ false) × NoEnd bytes

pub no_end_before : (text : List ℕ) → NoEnd (before is_line_end text)
no_end_before [] = tt
no_end_before (byte ∷ bytes) =
    elim (eqb byte 10) as (λ b. eqb byte 10 ≡ b → NoEnd (cond b [] (byte ∷ before is_line_end bytes)))
    [ true ↦ λ _. tt | false ↦ λ e. (e, no_end_before bytes) ] refl

pub all_before : (text : List ℕ) → length (before is_line_end text) ≡ length text → before is_line_end text ≡ text
all_before [] h = refl
all_before (byte ∷ bytes) h =
    elim (eqb byte 10) as (λ b. length (cond b [] (byte ∷ before is_line_end bytes)) ≡ suc (length bytes) → cond b [] (byte ∷ before is_line_end bytes) ≡ byte ∷ bytes)
    [ true ↦ λ e. absurd (omega arith) | false ↦ λ e. ap (λ (l : List ℕ). byte ∷ l) (all_before bytes (omega arith)) ] h

pub split : (text : List ℕ) → length (before is_line_end text) < length text
    → text ≡ before is_line_end text ++ (10 ∷ drop (suc (length (before is_line_end text))) text)
split [] h = absurd (omega arith)
split (byte ∷ bytes) h =
    elim (eqb byte 10) as (λ b. eqb byte 10 ≡ b → length (cond b [] (byte ∷ before is_line_end bytes)) < suc (length bytes)
    → byte ∷ bytes ≡ cond b [] (byte ∷ before is_line_end bytes) ++ (10 ∷ drop (suc (length (cond b [] (byte ∷ before is_line_end bytes)))) (byte ∷ bytes))) [
      | true ↦ λ e _. ap (λ (x : ℕ). x ∷ bytes) (eqb-true byte 10 e)
      | false ↦ λ _ l. ap (λ (l : List ℕ). byte ∷ l) (split bytes (omega arith))
    ] refl h

abbrev no_cr : List ℕ → List ℕ
no_cr = without_before 13 10

kept : (byte : ℕ) (bytes : List ℕ) → begins_with 10 bytes ≡ false → no_cr (byte ∷ bytes) ≡ byte ∷ no_cr bytes
kept byte bytes h =
    rw h (elim (eqb byte 13) as (λ b. cond (b && false) (no_cr bytes) (byte ∷ no_cr bytes) ≡ byte ∷ no_cr bytes) [ true ↦ refl | false ↦ refl ])

-- without its LF and the CR before it
abbrev pub stripped : List ℕ → List ℕ
stripped [] = []
stripped (byte ∷ []) = cond (eqb byte 13) [] (byte ∷ [])
stripped (byte ∷ second ∷ bytes) = byte ∷ stripped (second ∷ bytes)

all_kept : (line : List ℕ) → NoEnd line → no_cr line ≡ line
all_kept [] h = refl
all_kept (byte ∷ []) h = kept byte [] refl
all_kept (byte ∷ second ∷ bytes) h = kept byte (second ∷ bytes) h.1.0 ∙ ap (λ (l : List ℕ). byte ∷ l) (all_kept (second ∷ bytes) h.1)

no_cr-line : (line rest : List ℕ) → NoEnd line → no_cr (line ++ (10 ∷ rest)) ≡ stripped line ++ (10 ∷ no_cr rest)
no_cr-line [] rest h = refl
no_cr-line (byte ∷ []) rest h =
    elim (eqb byte 13) as (λ b. cond (b && true) (10 ∷ no_cr rest) (byte ∷ 10 ∷ no_cr rest) ≡ cond b [] (byte ∷ []) ++ (10 ∷ no_cr rest)) [ true ↦ refl | false ↦ refl ]
no_cr-line (byte ∷ second ∷ bytes) rest h =
    kept byte (second ∷ (bytes ++ (10 ∷ rest))) h.1.0 ∙ ap (λ (l : List ℕ). byte ∷ l) (no_cr-line (second ∷ bytes) rest h.1)

no_end_stripped : (line : List ℕ) → NoEnd line → NoEnd (stripped line)
no_end_stripped [] h = tt
no_end_stripped (byte ∷ []) h = elim (eqb byte 13) as (λ b. NoEnd (cond b [] (byte ∷ []))) [ true ↦ tt | false ↦ h ]
no_end_stripped (byte ∷ second ∷ bytes) h = (h.0, no_end_stripped (second ∷ bytes) h.1)

cut-line : (line rest : List ℕ) → NoEnd line → cut (line ++ (10 ∷ rest)) ≡ line ∷ cut rest
cut-line [] rest h = refl
cut-line (byte ∷ bytes) rest h = rw h.0 (ap (with_first byte) (cut-line bytes rest h.1))

cut_all : (byte : ℕ) (bytes : List ℕ) → NoEnd (byte ∷ bytes) → cut (byte ∷ bytes) ≡ (byte ∷ bytes) ∷ []
cut_all byte [] h = rw h.0 refl
cut_all byte (second ∷ bytes) h = rw h.0 (ap (with_first byte) (cut_all second bytes h.1))

stripped_cr : (line : List ℕ) (last : ℕ) → length line ≡ suc last → get_or line last 0 ≡ 13 → stripped line ≡ take last line
stripped_cr [] last e h = absurd (omega arith)
stripped_cr (byte ∷ []) zero e h = rw (eq-eqb byte 13 h) refl
stripped_cr (byte ∷ []) (suc last) e h = absurd (omega arith)
stripped_cr (byte ∷ second ∷ bytes) zero e h = absurd (omega arith)
stripped_cr (byte ∷ second ∷ bytes) (suc last) e h = ap (λ (l : List ℕ). byte ∷ l) (stripped_cr (second ∷ bytes) last (omega arith) h)

stripped_same : (line : List ℕ) → (0 < length line → get_or line (length line - 1) 0 ≢ 13) → stripped line ≡ line
stripped_same [] h = refl
stripped_same (byte ∷ []) h = rw (ne_eqb byte 13 (h (omega arith))) refl
stripped_same (byte ∷ second ∷ bytes) h =
    let same : length (byte ∷ second ∷ bytes) - 1 ≡ suc (length (second ∷ bytes) - 1) = omega arith in
    ap (λ (l : List ℕ). byte ∷ l) (stripped_same (second ∷ bytes) (λ l e. h (omega arith) (rw same e)))

-- a text without LF is one line
pub one_line : (text : List ℕ) (size : ℕ) (behind : List ℕ) → size ≡ length (before is_line_end text) → size ≡ length text → 0 < length text → length behind ≡ 0
    → lines_of text ≡ text ∷ lines_of behind
unfolding lines_of
one_line [] size behind e all some none = absurd (omega arith)
one_line (byte ∷ bytes) size [] e all some none =
    let whole = all_before (byte ∷ bytes) (sym e ∙ all) in
    let no_end : NoEnd (byte ∷ bytes) = subst NoEnd whole (no_end_before (byte ∷ bytes)) in
    ap cut (all_kept (byte ∷ bytes) no_end) ∙ cut_all byte bytes no_end
one_line (byte ∷ bytes) size (other ∷ others) e all some none = absurd (omega arith)

pub first_of : (text : List ℕ) → length (before is_line_end text) < length text
    → lines_of text ≡ stripped (before is_line_end text) ∷ lines_of (drop (suc (length (before is_line_end text))) text)
unfolding lines_of
first_of text h =
    let line = before is_line_end text in
    let rest = drop (suc (length (before is_line_end text))) text in
    ap (λ (t : List ℕ). cut (no_cr t)) (split text h) ∙ ap cut (no_cr-line line rest (no_end_before text))
    ∙ cut-line (stripped line) (no_cr rest) (no_end_stripped line (no_end_before text))

-- what stands in a line stands in the text
same_byte : (text : List ℕ) (n : ℕ) → length (before is_line_end text) < length text → n < length (before is_line_end text)
    → get_or (before is_line_end text) n 0 ≡ get_or text n 0
same_byte text n h inside =
    sym (ap (λ (t : List ℕ). get_or t n 0) (split text h) ∙ get_or_append_left (before is_line_end text) (10 ∷ drop (suc (length (before is_line_end text))) text) 0 n inside)

same_front : (text : List ℕ) (n : ℕ) → length (before is_line_end text) < length text → n ≤ length (before is_line_end text)
    → take n (before is_line_end text) ≡ take n text
same_front text n h inside =
    sym (ap (take n) (split text h) ∙ take-append-le n (before is_line_end text) (10 ∷ drop (suc (length (before is_line_end text))) text) inside)

cut_here : (text : List ℕ) (size : ℕ) (line behind : List ℕ) → size ≡ length (before is_line_end text) → size < length text → behind ≡ drop (size + 1) text
    → stripped (before is_line_end text) ≡ line → lines_of text ≡ line ∷ lines_of behind
cut_here text size line behind e inside is kept =
    let there : suc (length (before is_line_end text)) ≡ size + 1 = omega arith in
    first_of text (omega arith)
    ∙ (λ i. kept i ∷ lines_of (drop (there i) text))
    ∙ ap (λ (l : List ℕ). line ∷ lines_of l) (sym is)

-- a line that CR and LF end
pub line_before_cr : (text : List ℕ) (size : ℕ) (behind : List ℕ) → size ≡ length (before is_line_end text) → size < length text → behind ≡ drop (size + 1) text
    → 0 < size → get_or text (size - 1) 0 ≡ 13 → lines_of text ≡ take (size - 1) text ∷ lines_of behind
line_before_cr text size behind e inside is some cr =
    let last = same_byte text (size - 1) (omega arith) (omega arith) in
    cut_here text size (take (size - 1) text) behind e inside is
    (stripped_cr (before is_line_end text) (size - 1) (omega arith) (last ∙ cr) ∙ same_front text (size - 1) (omega arith) (omega arith))

-- a line that LF alone ends
pub line_before_lf : (text : List ℕ) (size : ℕ) (behind : List ℕ) → size ≡ length (before is_line_end text) → size < length text → behind ≡ drop (size + 1) text
    → (0 < size → get_or text (size - 1) 0 ≢ 13) → lines_of text ≡ take size text ∷ lines_of behind
line_before_lf text size behind e inside is no_cr =
    let whole : before is_line_end text ≡ take size text = sym (take_before is_line_end text) ∙ ap (λ (n : ℕ). take n text) (sym e) in
    let at : length (before is_line_end text) - 1 ≡ size - 1 = omega arith in
    cut_here text size (take size text) behind e inside is
    (stripped_same (before is_line_end text) (λ l h. no_cr (omega arith)
    (rw (← at) (sym (same_byte text (length (before is_line_end text) - 1) (omega arith) (omega arith)) ∙ h))) ∙ whole)
