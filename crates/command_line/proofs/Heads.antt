-- Words begin with one option at most.
use Rattle.std.proofs.Common.{Some, false, nat_eq, ◌≡◌, ◌≢◌, ◌<◌, ℕ, List, [], ◌∷◌, ◌++◌, length, get_or, length-append, append_assoc, sym, ap, ◌∙◌, inl, inr, arith}
use Rattle.std.proofs.lemmas.List.{append_cancel_left, get_or_append_left}
use Rattle.std.proofs.lemmas.Bool.Decides.{Decides-eqb}
use Rattle.std.proofs.lemmas.Slice.Eq.{slice_eq-Decides}
use Rattle.std.specs.Cmp.Lexicographic.{pointwise}
use Rattle.std.specs.Prelude.{codes}
use Rattle.numbers.specs.Number.{number_of}
use Rattle.command_line.specs.Command.{Choice, conf, port, workers, queries, Heads, HasNumber, IsHead}

-- the first word
first_of : List (List ℕ) → List ℕ
first_of [] = []
first_of (word ∷ words) = word

-- the third byte of the first word is that of the option's name
third : {name value : List ℕ} {words behind : List (List ℕ)} → IsHead name value words behind → 2 < length name → get_or (first_of words) 2 0 ≡ get_or name 2 0
unfolding first_of
third (inl e) long = ap (λ (w : List (List ℕ)). get_or (first_of w) 2 0) e
third {name} {value} (inr e) long =
    let joined = length-append name (codes "=") in
    ap (λ (w : List (List ℕ)). get_or (first_of w) 2 0) e ∙ get_or_append_left (name ++ codes "=") value 0 2 (omega (arith, joined, long)) ∙ get_or_append_left name (codes "=") 0 2 long

-- no words begin with two options of other names
pub other_name : {n m v u : List ℕ} {words b c : List (List ℕ)} → IsHead n v words b → IsHead m u words c → 2 < length n → 2 < length m → get_or n 2 0 ≢ get_or m 2 0 → ⊥
other_name one two long longer differ = differ (sym (third one long) ∙ third two longer)

pub record OneHead (v u : List ℕ) (b c : List (List ℕ)) : Type 0 where
  pub value : v ≡ u
  pub behind : b ≡ c

longer : (name value : List ℕ) → name ≡ name ++ codes "=" ++ value → ⊥
longer name value e =
    let l = ap length e in let m = length-append (name ++ codes "=") value in let k = length-append name (codes "=") in omega (arith, l, m, k)

-- an option of one name has one value
pub one_value : {n v u : List ℕ} {words b c : List (List ℕ)} → IsHead n v words b → IsHead n u words c → OneHead v u b c
one_value {n} {v} {u} {words} {b} {c} (inl e) (inl f) = let both : n ∷ v ∷ b ≡ n ∷ u ∷ c = sym e ∙ f in record { value = cc; behind = cc }
one_value {n} {v} {u} {words} {b} {c} (inl e) (inr f) = let both : n ∷ v ∷ b ≡ (n ++ codes "=" ++ u) ∷ c = sym e ∙ f in absurd (longer n u cc)
one_value {n} {v} {u} {words} {b} {c} (inr e) (inl f) = let both : n ∷ u ∷ c ≡ (n ++ codes "=" ++ v) ∷ b = sym f ∙ e in absurd (longer n v cc)
one_value {n} {v} {u} {words} {b} {c} (inr e) (inr f) =
    let both : (n ++ codes "=" ++ v) ∷ b ≡ (n ++ codes "=" ++ u) ∷ c = sym e ∙ f in
    let same : n ++ codes "=" ++ v ≡ n ++ codes "=" ++ u = cc in
    record { value = append_cancel_left (n ++ codes "=") v u same; behind = cc }

-- what `==` says of two texts that differ
pub differs : (a b : List ℕ) → false ≡ pointwise nat_eq a b → a ≢ b
differs a b isnt e = let both = slice_eq-Decides Decides-eqb a b false isnt in absurd (let wrong = both.1 e in cc)

-- a word that is no option's name, with nothing of that name in front, begins none of that name
pub no_name : {name text value : List ℕ} {words behind : List (List ℕ)} → text ≢ name → ((tail : List ℕ) → text ≢ name ++ tail) → IsHead name value (text ∷ words) behind → ⊥
no_name other lacks (inl e) = other cc
no_name {name} {text} {value} other lacks (inr e) = let same : text ≡ name ++ codes "=" ++ value = cc in lacks (codes "=" ++ value) (same ∙ append_assoc name (codes "=") value)

-- nor does one with something else than `=` behind the name
pub no_value : {name text tail value : List ℕ} {words behind : List (List ℕ)} → text ≢ name → text ≡ name ++ tail → ((rest : List ℕ) → tail ≢ codes "=" ++ rest) → IsHead name value (text ∷ words) behind → ⊥
no_value other is lacks (inl e) = other cc
no_value {name} {text} {tail} {value} other is lacks (inr e) =
    let same : text ≡ name ++ codes "=" ++ value = cc in
    lacks value (append_cancel_left name tail (codes "=" ++ value) (sym is ∙ same ∙ append_assoc name (codes "=") value))

pub with_value : (name text tail value : List ℕ) → text ≡ name ++ tail → tail ≡ codes "=" ++ value → text ≡ name ++ codes "=" ++ value
with_value name text tail value is tail_is = is ∙ ap (λ (t : List ℕ). name ++ t) tail_is ∙ sym (append_assoc name (codes "=") value)

-- the letter by which the options differ
letter_of : Choice → ℕ
letter_of (conf file) = 99
letter_of (port number) = 112
letter_of (workers number) = 119
letter_of (queries number) = 113

letter : (words behind : List (List ℕ)) (c : Choice) → Heads c words behind → get_or (first_of words) 2 0 ≡ letter_of c
unfolding letter_of
letter words behind (conf file) heads = third heads.1 (omega arith)
letter words behind (port number) heads = third heads.head (omega arith)
letter words behind (workers number) heads = third heads.head (omega arith)
letter words behind (queries number) heads = third heads.head (omega arith)

same_letter : (words b d : List (List ℕ)) (c e : Choice) → Heads c words b → Heads e words d → letter_of c ≡ letter_of e
same_letter words b d c e one two = sym (letter words b c one) ∙ letter words d e two

pub record OneChoice (c e : Choice) (b d : List (List ℕ)) : Type 0 where
  pub choice : c ≡ e
  pub behind : b ≡ d

one_number : {name : List ℕ} {most n m : ℕ} {words b d : List (List ℕ)} → HasNumber name most n words b → HasNumber name most m words d → n ≡ m
one_number {name} {most} {n} {m} one two =
    let value = (one_value one.head two.head).value in
    let same : Some n ≡ Some m = sym one.number_is.spells ∙ ap (number_of 10) value ∙ two.number_is.spells in
    cc

-- words begin with one option at most
pub one_choice : (words b d : List (List ℕ)) (c e : Choice) → Heads c words b → Heads e words d → OneChoice c e b d
unfolding letter_of
one_choice words b d (conf f) (conf g) one two = let same = one_value one.1 two.1 in record { choice = ap conf same.value; behind = same.behind }
one_choice words b d (conf n) (port m) one two = absurd (let e = same_letter words b d (conf n) (port m) one two in omega (arith, e))
one_choice words b d (conf n) (workers m) one two = absurd (let e = same_letter words b d (conf n) (workers m) one two in omega (arith, e))
one_choice words b d (conf n) (queries m) one two = absurd (let e = same_letter words b d (conf n) (queries m) one two in omega (arith, e))
one_choice words b d (port n) (conf m) one two = absurd (let e = same_letter words b d (port n) (conf m) one two in omega (arith, e))
one_choice words b d (port n) (port m) one two = record { choice = ap port (one_number one two); behind = (one_value one.head two.head).behind }
one_choice words b d (port n) (workers m) one two = absurd (let e = same_letter words b d (port n) (workers m) one two in omega (arith, e))
one_choice words b d (port n) (queries m) one two = absurd (let e = same_letter words b d (port n) (queries m) one two in omega (arith, e))
one_choice words b d (workers n) (conf m) one two = absurd (let e = same_letter words b d (workers n) (conf m) one two in omega (arith, e))
one_choice words b d (workers n) (port m) one two = absurd (let e = same_letter words b d (workers n) (port m) one two in omega (arith, e))
one_choice words b d (workers n) (workers m) one two = record { choice = ap workers (one_number one two); behind = (one_value one.head two.head).behind }
one_choice words b d (workers n) (queries m) one two = absurd (let e = same_letter words b d (workers n) (queries m) one two in omega (arith, e))
one_choice words b d (queries n) (conf m) one two = absurd (let e = same_letter words b d (queries n) (conf m) one two in omega (arith, e))
one_choice words b d (queries n) (port m) one two = absurd (let e = same_letter words b d (queries n) (port m) one two in omega (arith, e))
one_choice words b d (queries n) (workers m) one two = absurd (let e = same_letter words b d (queries n) (workers m) one two in omega (arith, e))
one_choice words b d (queries n) (queries m) one two = record { choice = ap queries (one_number one two); behind = (one_value one.head two.head).behind }

-- no words begin with an option and are none
no_words : (behind : List (List ℕ)) (c : Choice) → Heads c [] behind → ⊥
unfolding letter_of first_of
no_words behind (conf f) heads = let e = letter [] behind (conf f) heads in omega (arith, e)
no_words behind (port n) heads = let e = letter [] behind (port n) heads in omega (arith, e)
no_words behind (workers n) heads = let e = letter [] behind (workers n) heads in omega (arith, e)
no_words behind (queries n) heads = let e = letter [] behind (queries n) heads in omega (arith, e)

pub some_words : (words behind : List (List ℕ)) (c : Choice) → Heads c words behind → 0 < length words
some_words [] behind c heads = absurd (no_words behind c heads)
some_words (word ∷ words) behind c heads = omega arith

-- words that begin with none of the names begin with no option
abbrev pub HasNone : List ℕ → List (List ℕ) → Type 0
HasNone name words = (value : List ℕ) (behind : List (List ℕ)) → IsHead name value words behind → ⊥

pub no_choice : (words : List (List ℕ)) → HasNone (codes "--conf") words → HasNone (codes "--port") words → HasNone (codes "--workers") words → HasNone (codes "--queries") words
    → (c : Choice) (behind : List (List ℕ)) → Heads c words behind → ⊥
no_choice words confs ports worker query (conf f) behind heads = confs f behind heads.1
no_choice words confs ports worker query (port n) behind heads = ports heads.text behind heads.head
no_choice words confs ports worker query (workers n) behind heads = worker heads.text behind heads.head
no_choice words confs ports worker query (queries n) behind heads = query heads.text behind heads.head
