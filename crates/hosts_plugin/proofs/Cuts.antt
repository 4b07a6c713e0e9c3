-- The words of a line.
use Rattle.std.proofs.Common.{◌≡◌, ℕ, ◌<◌, Bool, true, false, List, [], ◌∷◌, length, drop, refl, sym, ap, ◌∙◌, arith, filter}
use Rattle.std.specs.List.{slice_split}
use Rattle.std.proofs.lemmas.List.Splits.{slice_split-cons_yes, slice_split-cons_no}
use Rattle.corefile_words.specs.Lines.{before}
use Rattle.hosts_plugin.specs.Listings.{is_blank, is_filled, words_in}

-- the parts of a line: what stands before the first blank, and others
record CutAt (xs : List ℕ) (front rest : List ℕ) : Type 0 where
  pub others : List (List ℕ)
  pub parts : slice_split is_blank xs ≡ front ∷ others
  pub rest_is : filter is_filled others ≡ filter is_filled (slice_split is_blank rest)

before_blank : (x : ℕ) (xs : List ℕ) → is_blank x ≡ true → before is_blank (x ∷ xs) ≡ []
before_blank x xs e = rw e refl

before_other : (x : ℕ) (xs : List ℕ) → is_blank x ≡ false → before is_blank (x ∷ xs) ≡ x ∷ before is_blank xs
before_other x xs e = rw e refl

cut_by : (x : ℕ) (xs : List ℕ) (b : Bool) → is_blank x ≡ b → CutAt xs (before is_blank xs) (drop (length (before is_blank xs)) xs)
    → CutAt (x ∷ xs) (before is_blank (x ∷ xs)) (drop (length (before is_blank (x ∷ xs))) (x ∷ xs))
cut_by x xs true e c = rw (before_blank x xs e) (record {
  others = slice_split is_blank xs;
  parts = slice_split-cons_yes is_blank x xs e;
  rest_is = ap (filter is_filled) (sym (slice_split-cons_yes is_blank x xs e));
})
cut_by x xs false e c = rw (before_other x xs e) (record {
  others = c.others;
  parts = rw (slice_split-cons_no is_blank x xs e, c.parts) refl;
  rest_is = c.rest_is;
})

cut_at : (xs : List ℕ) → CutAt xs (before is_blank xs) (drop (length (before is_blank xs)) xs)
cut_at [] = record { others = []; parts = refl; rest_is = refl }
cut_at (x ∷ xs) = cut_by x xs (is_blank x) refl (cut_at xs)

filled_first : (front : List ℕ) (others : List (List ℕ)) → 0 < length front → filter is_filled (front ∷ others) ≡ front ∷ filter is_filled others
filled_first [] others h = absurd (omega arith)
filled_first (x ∷ front) others h = refl

-- there is no word in nothing
pub no_words : words_in [] ≡ []
unfolding words_in
no_words = refl

-- a blank in front adds none
pub words_blank : (x : ℕ) (xs : List ℕ) → is_blank x ≡ true → words_in (x ∷ xs) ≡ words_in xs
unfolding words_in
words_blank x xs e = ap (filter is_filled) (slice_split-cons_yes is_blank x xs e)

-- a word in front is the first one
pub words_first : (xs : List ℕ) → 0 < length (before is_blank xs) → words_in xs ≡ before is_blank xs ∷ words_in (drop (length (before is_blank xs)) xs)
unfolding words_in
words_first xs h =
    let c = cut_at xs in
    ap (filter is_filled) c.parts ∙ filled_first (before is_blank xs) c.others h ∙ ap (λ (ws : List (List ℕ)). before is_blank xs ∷ ws) c.rest_is

-- a byte that is no blank begins a word
pub some_word : (x : ℕ) (xs : List ℕ) → is_blank x ≡ false → 0 < length (before is_blank (x ∷ xs))
some_word x xs e = rw (before_other x xs e) (omega arith)
