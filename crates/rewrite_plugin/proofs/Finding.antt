-- A search with a pattern that is made of a text.
use Rattle.std.proofs.Common.{◌≡◌, ◌<◌, ℕ, Bool, true, false, List, get_or, Option, Some, None, IfSome, is_some, refl, sym}
use Rattle.std.proofs.lemmas.Option.{none-some}
use Rattle.pattern.specs.Searches.{KeepsGroups}
use Rattle.pattern.specs.Texts.{Finding, finding_of}
use Rattle.pattern.specs.TextsLaws.{IsOfText, finding-none, finding-some}
use Rattle.pattern.specs.declared.scratch.Scratch.{Scratch}
use Rattle.regex.specs.Strings.{regex_pattern}
use Rattle.regex.specs.declared.string.regex.Regex.{Regex}
use Rattle.regex_hir.specs.Find.{Match, find_str}
use Rattle.rewrite_plugin.specs.Made.{Keeps}

-- what a search answers, and what it leaves
pub record Searched (text hay : List ℕ) (scratch : Scratch) (found : Bool) : Type 0 where
  pub is : found ≡ is_some (finding_of text hay)
  pub keeps : IfSome (finding_of text hay) (Keeps hay scratch)

module _ (r : Regex) (text hay : List ℕ) (of : IsOfText r text) (small : (k : ℕ) → get_or hay k 0 < 256) (scratch : Scratch) where
  none_by : (o : Option Finding) → o ≡ None → (false ≡ is_some o) × IfSome o (Keeps hay scratch)
  none_by None e = (refl, tt)
  none_by (Some f) e = absurd (none-some f (sym e))

  pub finds_none : find_str (regex_pattern r) hay 0 ≡ None → Searched text hay scratch false
  finds_none e = let p = none_by (finding_of text hay) (finding-none r hay small text of e) in record { is = p.0; keeps = p.1 }

  some_by : (o : Option Finding) (f : Finding) → o ≡ Some f → Keeps hay scratch f → (true ≡ is_some o) × IfSome o (Keeps hay scratch)
  some_by None f e k = absurd (none-some f e)
  some_by (Some g) f e k = (refl, let same : g ≡ f = cc in rw same k)

  pub finds_some : (m : Match) → find_str (regex_pattern r) hay 0 ≡ Some m → KeepsGroups r hay m scratch → Searched text hay scratch true
  finds_some m e keeps =
      let kept = finding-some r hay small scratch m text of e keeps.groups in
      let k : Keeps hay scratch kept.found = record { spans = kept.spans; parts = keeps.parts } in
      let p = some_by (finding_of text hay) kept.found kept.is k in
      record { is = p.0; keeps = p.1 }
