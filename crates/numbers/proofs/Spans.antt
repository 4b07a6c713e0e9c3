-- Reading a duration span by span.
use Rattle.std.proofs.Common.{◌≡◌, ◌≤◌, ◌<◌, ℕ, zero, suc, ◌+◌, Some, None, List, [], ◌∷◌, length, refl, sym, ◌∙◌, arith, leb, false}
use Rattle.std.proofs.lemmas.Bool.{le-leb, false_from_ne_true, leb-true}
use Rattle.numbers.specs.Duration.{day, if_day, span_data, span_of, spans_from}

-- some spans were read
pub record Going (text rest : List ℕ) (sum : ℕ) : Type 0 where
  pub left : ℕ
  pub enough : length rest ≤ left
  pub same : spans_from left sum rest ≡ spans_from (length text) 0 text
  pub most : sum ≤ day

pub begins : (text : List ℕ) → Going text text 0
begins text = record { left = length text; enough = omega arith; same = refl; most = omega arith }

in_day : (millis : ℕ) → millis ≤ day → if_day millis ≡ Some millis
in_day millis h = rw (le-leb millis day h) refl

past_day : (millis : ℕ) → day < millis → if_day millis ≡ None
past_day millis h = let no : leb millis day ≡ false = false_from_ne_true (leb millis day) (λ e. absurd (let l = leb-true millis day e in omega (arith, l, h))) in rw no refl

-- one span more
pub goes_on : (text rest behind : List ℕ) (sum millis : ℕ) → Going text rest sum → 0 < length rest → span_of rest ≡ Some (span_data millis behind)
    → length behind < length rest → sum + millis ≤ day → Going text behind (sum + millis)
goes_on text [] behind sum millis g some is shorter fits = absurd (omega arith)
goes_on text (b ∷ bs) behind sum millis g some is shorter fits = by g.left g.enough g.same
  where
    by : (left : ℕ) → length (b ∷ bs) ≤ left → spans_from left sum (b ∷ bs) ≡ spans_from (length text) 0 text → Going text behind (sum + millis)
    by zero enough same = absurd (omega arith)
    by (suc left) enough same =
        record { left = left; enough = omega (arith, enough, shorter); same = sym (rw (is, in_day (sum + millis) fits) refl) ∙ same; most = fits }

-- no span in front
pub ends_bad : (text rest : List ℕ) (sum : ℕ) → Going text rest sum → 0 < length rest → span_of rest ≡ None → spans_from (length text) 0 text ≡ None
ends_bad text [] sum g some is = absurd (omega arith)
ends_bad text (b ∷ bs) sum g some is = sym g.same ∙ by g.left
  where
    by : (left : ℕ) → spans_from left sum (b ∷ bs) ≡ None
    by zero = refl
    by (suc left) = rw is refl

-- too much
pub ends_long : (text rest behind : List ℕ) (sum millis : ℕ) → Going text rest sum → 0 < length rest → span_of rest ≡ Some (span_data millis behind)
    → day < sum + millis → spans_from (length text) 0 text ≡ None
ends_long text [] behind sum millis g some is long = absurd (omega arith)
ends_long text (b ∷ bs) behind sum millis g some is long = sym g.same ∙ by g.left
  where
    by : (left : ℕ) → spans_from left sum (b ∷ bs) ≡ None
    by zero = refl
    by (suc left) = rw (is, past_day (sum + millis) long) refl

-- all were read
pub ends : (text rest : List ℕ) (sum : ℕ) → Going text rest sum → length rest ≤ 0 → spans_from (length text) 0 text ≡ Some sum
ends text (b ∷ bs) sum g none = absurd (omega arith)
ends text [] sum g none = sym g.same ∙ by g.left
  where
    by : (left : ℕ) → spans_from left sum [] ≡ Some sum
    by zero = refl
    by (suc left) = refl
