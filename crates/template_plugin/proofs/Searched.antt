-- Patterns that are searched one after another.
use Rattle.std.proofs.Common.{◌≡◌, ◌∙◌, ◌<◌, ℕ, suc, ◌+◌, List, [], ◌∷◌, length, get_or, Option, Some, None, refl, sym, ap, arith}
use Rattle.std.specs.Prelude.{slice_get}
use Rattle.std.specs.Option.{option_or}
use Rattle.outside.specs.{IsPatternOf}
use Rattle.pattern.specs.Searches.{KeepsGroups}
use Rattle.pattern.specs.Texts.{Finding}
use Rattle.pattern.specs.TextsLaws.{IsOfText, finding-none, finding-some}
use Rattle.pattern.specs.declared.scratch.Scratch.{Scratch}
use Rattle.regex.specs.Strings.{regex_pattern}
use Rattle.regex.specs.declared.string.regex.Regex.{Regex}
use Rattle.regex.specs.Patterns.{Match, find_str}
use Rattle.template_plugin.specs.Judging.{AreOf}
use Rattle.template_plugin.specs.Made.{Finds, IsFirst}
use Rattle.template_plugin.specs.Template.{first_found}

of_text : (text : List ℕ) (r : Regex) → IsPatternOf text r → IsOfText r text
of_text text r of = record { source = of.source; config = of.config; read = of.read }

-- the texts of the patterns that are left, none of whose forerunners is found
pub record Ahead (texts : List (List ℕ)) (rest : List Regex) (hay : List ℕ) : Type 0 where
  pub left : List (List ℕ)
  pub are : AreOf left rest
  pub same : first_found texts hay ≡ first_found left hay

-- so many patterns weren't found
pub record SearchesOn (patterns rest : List Regex) (hay : List ℕ) (number : ℕ) : Type 0 where
  pub size : number + length rest ≡ length patterns
  pub stands : (i : ℕ) (r : Regex) → slice_get rest i ≡ Some r → slice_get patterns (number + i) ≡ Some r
  pub ahead : (texts : List (List ℕ)) → AreOf texts patterns → Ahead texts rest hay

pub begins : (patterns : List Regex) (hay : List ℕ) → SearchesOn patterns patterns hay 0
begins patterns hay = record {
  size = omega arith;
  stands = λ i r e. let same : 0 + i ≡ i = omega arith in ap (slice_get patterns) same ∙ e;
  ahead = λ texts are. record { left = texts; are = are; same = refl };
}

module _ (hay : List ℕ) (small : (k : ℕ) → get_or hay k 0 < 256) (r : Regex) (rest : List Regex) where
  past : (texts left : List (List ℕ)) → AreOf left (r ∷ rest) → first_found texts hay ≡ first_found left hay → find_str (regex_pattern r) hay 0 ≡ None → Ahead texts rest hay
  past texts [] are same e = absurd are
  past texts (t ∷ left) are same e = record {
    left = left;
    are = are.1;
    same = same ∙ ap (λ (o : Option Finding). option_or o (first_found left hay)) (finding-none r hay small t (of_text t r are.0) e);
  }

  -- one more isn't found
  pub goes_on : (patterns : List Regex) (number : ℕ) → SearchesOn patterns (r ∷ rest) hay number → find_str (regex_pattern r) hay 0 ≡ None → SearchesOn patterns rest hay (number + 1)
  goes_on patterns number on e = record {
    size = omega (arith, on.size);
    stands = λ i x is. let same : (number + 1) + i ≡ number + suc i = omega arith in ap (slice_get patterns) same ∙ on.stands (suc i) x is;
    ahead = λ texts are. let a = on.ahead texts are in past texts a.left a.are a.same e;
  }

  first_by : (patterns : List Regex) (number : ℕ) (scratch : Scratch) (m : Match) (texts left : List (List ℕ)) → AreOf left (r ∷ rest) → first_found texts hay ≡ first_found left hay
      → slice_get patterns number ≡ Some r → find_str (regex_pattern r) hay 0 ≡ Some m → KeepsGroups r hay m scratch → IsFirst texts patterns hay scratch number
  first_by patterns number scratch m texts [] are same stands e keeps = absurd are
  first_by patterns number scratch m texts (t ∷ left) are same stands e keeps =
      let kept = finding-some r hay small scratch m t (of_text t r are.0) e keeps.groups in
      record {
        pattern = r;
        stands = stands;
        found = kept.found;
        is = same ∙ ap (λ (o : Option Finding). option_or o (first_found left hay)) kept.is;
        spans = kept.spans;
        numbers = λ name. ap (λ (f : List ℕ → Option ℕ). f name) (sym kept.numbers);
        parts = keeps.parts;
      }

  -- this one is
  pub is_first : (patterns : List Regex) (number : ℕ) (scratch : Scratch) (m : Match) → SearchesOn patterns (r ∷ rest) hay number → find_str (regex_pattern r) hay 0 ≡ Some m
      → KeepsGroups r hay m scratch → (texts : List (List ℕ)) → AreOf texts patterns → Finds patterns hay scratch texts (Some number)
  is_first patterns number scratch m on e keeps texts are =
      let a = on.ahead texts are in
      let same : number ≡ number + 0 = omega arith in
      let stands = ap (slice_get patterns) same ∙ on.stands 0 r refl in
      first_by patterns number scratch m texts a.left a.are a.same stands e keeps

none_left : (hay : List ℕ) (texts left : List (List ℕ)) → AreOf left [] → first_found texts hay ≡ first_found left hay → first_found texts hay ≡ None
none_left hay texts [] are same = same
none_left hay texts (t ∷ left) are same = absurd are

-- none is
pub none_found : (patterns rest : List Regex) (hay : List ℕ) (number : ℕ) (scratch : Scratch) → length rest ≡ 0 → SearchesOn patterns rest hay number
    → (texts : List (List ℕ)) → AreOf texts patterns → Finds patterns hay scratch texts None
none_found patterns [] hay number scratch e on texts are = let a = on.ahead texts are in none_left hay texts a.left a.are a.same
none_found patterns (r ∷ rest) hay number scratch e on texts are = absurd (omega (arith, e))
