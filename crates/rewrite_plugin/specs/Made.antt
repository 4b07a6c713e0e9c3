-- What the plan of a directive has that was made of its words, and what a search leaves.
use Rattle.std.specs.Prelude.{◌≡◌, ℕ, List, [], ◌∷◌, ◌++◌, length, Some, IfSome}
use Rattle.dns_data.specs.declared.directive.Directive.{Directive}
use Rattle.pattern.specs.Searches.{IsPartOf, scratch_group}
use Rattle.pattern.specs.Texts.{Finding}
use Rattle.pattern.specs.declared.scratch.Scratch.{Scratch}
use Rattle.rewrite_plugin.specs.Shapes.{Answering, Renaming, Rule, Written}
use Rattle.rewrite_plugin.specs.declared.rule.Answering.TheVariants as answering
use Rattle.rewrite_plugin.specs.declared.rule.Rule.TheVariants as rule
use Rattle.rewrite_plugin.specs.Reading.{patterns_of}
use Rattle.rewrite_plugin.specs.Rewrite.{written_of}
use Rattle.rewrite_plugin.specs.Rules.{matcher_patterns}

-- the scratch has the groups of what was found, each of which is a part of the text
pub record Keeps (text : List ℕ) (scratch : Scratch) (found : Finding) : Type 0 where
  pub spans : (n : ℕ) → scratch_group scratch n ≡ found.span n
  pub parts : (n : ℕ) → IfSome (scratch_group scratch n) (IsPartOf text)

-- the pattern of an `answer`, where it has one
abbrev pub answering_patterns : Answering → List (List ℕ)
answering_patterns answering.Auto = []
answering_patterns (answering.Name replacing) = replacing.pattern ∷ []
answering_patterns (answering.Value replacing) = replacing.pattern ∷ []

abbrev pub answers_patterns : List Answering → List (List ℕ)
answers_patterns [] = []
answers_patterns (answering ∷ answers) =
    answering_patterns answering ++ answers_patterns answers

-- the patterns of a rule that renames
abbrev pub renaming_patterns : Renaming → List (List ℕ)
renaming_patterns r = matcher_patterns r.from ++ answers_patterns r.answers

-- the patterns of a rule, in the order of the text
abbrev pub rule_patterns : Rule → List (List ℕ)
rule_patterns (rule.Name renaming) = renaming_patterns renaming
rule_patterns (rule.Type from to) = []
rule_patterns (rule.Ttl from seconds) = matcher_patterns from

-- a rule is that of a directive, which has so many patterns
pub record IsMade (d : Directive) (written : Written) (many : ℕ) : Type 0 where
  pub read : written_of d ≡ Some written
  pub patterns : many ≡ length (patterns_of d)
