-- Pieces of UTF-8 that are cut at ASCII bytes, and what is made of them.
use Rattle.std.proofs.Common.{◌≡◌, ℕ, ◌+◌, ◌<◌, ◌≤◌, true, List, ◌∷◌, ◌++◌, length, get_or, take, drop, refl, sym, ap, subst, ◌∙◌, add-zero, add-one, arith}
use Rattle.std.proofs.lemmas.List.{take_at, drop_at, length-append, get_or-append-add}
use Rattle.std.proofs.lemmas.Str.{IsUtf8-take, IsUtf8-drop, IsUtf8-append, IsCharBoundary-after_ascii}
use Rattle.std.specs.Str.{IsUtf8}
use Rattle.std.proofs.lemmas.Bool.Decides.{nat_tests}
use Rattle.corefile_words.specs.Lines.{before}
use Rattle.corefile_words.specs.Variables.{IsClosedAt}
use Rattle.corefile_words.specs.Words.{is_blank}
use Rattle.corefile_words.specs.LinesLaws.{before-le, passes_behind}

pub utf8_take : (bytes : List ℕ) (n : ℕ) → IsUtf8 bytes → n ≤ length bytes → (n < length bytes → get_or bytes n 0 < 128) → IsUtf8 (take n bytes)
utf8_take bytes n u h ascii = IsUtf8-take bytes n u (h, λ l g. absurd (omega (arith, ascii l)))

pub utf8_drop : (bytes : List ℕ) (n : ℕ) → IsUtf8 bytes → n ≤ length bytes → (n < length bytes → get_or bytes n 0 < 128) → IsUtf8 (drop n bytes)
utf8_drop bytes n u h ascii = IsUtf8-drop bytes n u (h, λ l g. absurd (omega (arith, ascii l)))

pub utf8_behind : (byte : ℕ) (bytes : List ℕ) → IsUtf8 (byte ∷ bytes) → byte < 128 → IsUtf8 bytes
utf8_behind byte bytes u h = IsUtf8-drop (byte ∷ bytes) 1 u (IsCharBoundary-after_ascii (byte ∷ bytes) 0 u (omega arith) h)

at_seam : (a b : List ℕ) → get_or (a ++ b) (length a) 0 ≡ get_or b 0 0
at_seam a b = ap (λ (n : ℕ). get_or (a ++ b) n 0) (sym (add-zero (length a))) ∙ get_or-append-add a b 0 0

pub utf8_left : (a b : List ℕ) → IsUtf8 (a ++ b) → get_or b 0 0 < 128 → IsUtf8 a
utf8_left a b u h =
    subst IsUtf8 (take_at a b (length a) refl)
    (utf8_take (a ++ b) (length a) u (omega (arith, length-append a b)) (λ _. omega (arith, at_seam a b)))

pub utf8_right : (a b : List ℕ) → IsUtf8 (a ++ b) → get_or b 0 0 < 128 → IsUtf8 b
utf8_right a b u h =
    subst IsUtf8 (drop_at a b (length a) refl)
    (utf8_drop (a ++ b) (length a) u (omega (arith, length-append a b)) (λ _. omega (arith, at_seam a b)))

-- a text without the ASCII byte at the seam
pub utf8_without : (a : List ℕ) (byte : ℕ) (b : List ℕ) → IsUtf8 (a ++ (byte ∷ b)) → byte < 128 → IsUtf8 (a ++ b)
utf8_without a byte b u h = IsUtf8-append a b (utf8_left a (byte ∷ b) u h) (utf8_behind byte b (utf8_right a (byte ∷ b) u h) h)

-- a value in place of a variable
pub utf8_put : (text value : List ℕ) (byte : ℕ) (behind : List ℕ) (size : ℕ) → IsUtf8 (text ++ (byte ∷ behind)) → IsUtf8 value → byte ≡ 123
    → IsClosedAt (byte ∷ behind) (size + 2) → IsUtf8 ((text ++ value) ++ drop (size + 2) behind)
utf8_put text value byte behind size u v opened closed =
    let ascii : byte < 128 = omega arith in
    let rest = utf8_right text (byte ∷ behind) u ascii in
    let after : IsUtf8 (drop ((size + 2) + 1) (byte ∷ behind)) =
    IsUtf8-drop (byte ∷ behind) ((size + 2) + 1) rest (IsCharBoundary-after_ascii (byte ∷ behind) (size + 2) rest closed.inside (omega (arith, closed.brace))) in
    IsUtf8-append (text ++ value) (drop (size + 2) behind) (IsUtf8-append text value (utf8_left text (byte ∷ behind) u ascii) v)
    (rw add-one at after)

blank_is_ascii : (byte : ℕ) → is_blank byte ≡ true → byte < 128
blank_is_ascii byte e = grind (arith, nat_tests)

-- behind a blank
pub utf8_after_blank : (byte : ℕ) (rest bytes : List ℕ) → rest ≡ byte ∷ bytes → IsUtf8 rest → is_blank byte ≡ true → IsUtf8 bytes
utf8_after_blank byte rest bytes is u b = utf8_behind byte bytes (subst IsUtf8 is u) (blank_is_ascii byte b)

-- behind an opening quote
pub utf8_after_quote : (byte : ℕ) (rest bytes : List ℕ) → rest ≡ byte ∷ bytes → IsUtf8 rest → byte ≡ 34 → IsUtf8 bytes
utf8_after_quote byte rest bytes is u q = utf8_behind byte bytes (subst IsUtf8 is u) (omega arith)

pub utf8_quoted : (bytes : List ℕ) (size : ℕ) → IsUtf8 bytes → size < length bytes → get_or bytes size 0 ≡ 34 → IsUtf8 (take size bytes)
utf8_quoted bytes size u inside q = utf8_take bytes size u (omega arith) (λ _. omega arith)

pub utf8_after_quoted : (bytes : List ℕ) (size : ℕ) → IsUtf8 bytes → size < length bytes → get_or bytes size 0 ≡ 34 → IsUtf8 (drop (size + 1) bytes)
utf8_after_quoted bytes size u inside q = IsUtf8-drop bytes (size + 1) u (IsCharBoundary-after_ascii bytes size u inside (omega arith))

-- a word without quotes, and what stands behind it
blank_behind : (byte : ℕ) (bytes : List ℕ) (size : ℕ) → size ≡ length (before is_blank bytes) → size + 1 < length (byte ∷ bytes) → get_or (byte ∷ bytes) (size + 1) 0 < 128
blank_behind byte bytes size h inside =
    let passes = passes_behind is_blank bytes (omega arith) in
    let at : get_or (byte ∷ bytes) (size + 1) 0 ≡ get_or bytes (length (before is_blank bytes)) 0 =
    ap (λ (n : ℕ). get_or (byte ∷ bytes) n 0) (add-one size) ∙ ap (λ (n : ℕ). get_or bytes n 0) h in
    omega (arith, at, blank_is_ascii (get_or bytes (length (before is_blank bytes)) 0) passes)

pub utf8_plain : (byte : ℕ) (rest bytes : List ℕ) (size : ℕ) → rest ≡ byte ∷ bytes → IsUtf8 rest → size ≡ length (before is_blank bytes) → IsUtf8 (take (size + 1) rest)
utf8_plain byte rest bytes size is u h =
    subst (λ (l : List ℕ). IsUtf8 (take (size + 1) l)) (sym is)
    (utf8_take (byte ∷ bytes) (size + 1) (subst IsUtf8 is u) (omega (arith, before-le is_blank bytes)) (blank_behind byte bytes size h))

pub utf8_after_plain : (byte : ℕ) (rest bytes : List ℕ) (size : ℕ) → rest ≡ byte ∷ bytes → IsUtf8 rest → size ≡ length (before is_blank bytes) → IsUtf8 (drop size bytes)
utf8_after_plain byte rest bytes size is u h =
    let after = utf8_drop (byte ∷ bytes) (size + 1) (subst IsUtf8 is u) (omega (arith, before-le is_blank bytes)) (blank_behind byte bytes size h) in
    rw add-one at after
