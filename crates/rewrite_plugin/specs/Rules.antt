-- What rules of `rewrite` do to a query, and what those that were applied do to an answer. This
-- server's own rule, in the manner of CoreDNS.
use Rattle.std.specs.Prelude.{ℕ, ◌-◌, ◌==◌, Bool, List, [], ◌∷◌, ◌++◌, length}
use Rattle.std.specs.Prelude.{take, drop, Option, Some, None, is_some, option_map}
use Rattle.std.specs.Prelude.{if◌then◌else◌}
use Rattle.dns_data.specs.{lowered, name_of, name_text}
use Rattle.dns_data.specs.declared.query.Query.{Query}
use Rattle.pattern.specs.Texts.{Finding, finding_of}
use Rattle.plugin_api.specs.{is_word}
use Rattle.rewrite_plugin.specs.Shapes.{Matcher, Rule}
use Rattle.rewrite_plugin.specs.declared.plan_data.Changed.{Changed}
use Rattle.rewrite_plugin.specs.declared.rule.Matcher.TheVariants as matcher
use Rattle.rewrite_plugin.specs.declared.rule.Rule.TheVariants as rule
use Rattle.rewrite_plugin.specs.Texts.{begins, ends, filled, has_part, replaced}

-- the text of a name that rules look at: in small letters, with its last dot
abbrev pub searched : List (List ℕ) → List ℕ
searched name = name_text (lowered name)

-- whether what is sought stands in a text
abbrev pub is_matched : Matcher → List ℕ → Bool
is_matched (matcher.Exact from) text = is_word text from
is_matched (matcher.Prefix from) text = begins from text
is_matched (matcher.Suffix from) text = ends from text
is_matched (matcher.Substring from) text = has_part from text
is_matched (matcher.Regex pattern) text = is_some (finding_of pattern text)

-- `to` with the groups of what a pattern found
abbrev pub filled_by : List ℕ → List ℕ → Option Finding → List ℕ
filled_by text to None = []
filled_by text to (Some found) = filled found.span text to

-- what a text becomes in which it stands: the matched part becomes `to`, and where a pattern is
-- found the whole text does
abbrev pub turned : Matcher → List ℕ → List ℕ → List ℕ
turned (matcher.Exact from) to text = to
turned (matcher.Prefix from) to text = to ++ drop (length from) text
turned (matcher.Suffix from) to text = take (length text - length from) text ++ to
turned (matcher.Substring from) to text = replaced from to text
turned (matcher.Regex pattern) to text = filled_by text to (finding_of pattern text)

-- the name that a text becomes; none, where it doesn't match, or the result is no name
unfoldable pub renamed_text : Matcher → List ℕ → List ℕ → Option (List (List ℕ))
renamed_text from to text =
    if is_matched from text then name_of (turned from to text) [] else None

-- the name that another one becomes
abbrev pub renamed : Matcher → List ℕ → List (List ℕ) → Option (List (List ℕ))
renamed from to name = renamed_text from to (searched name)

abbrev pub with_name : Query → List (List ℕ) → Query
with_name q name = record q { name = name }

abbrev pub with_kind : Query → ℕ → Query
with_kind q kind = record q { kind = kind }

-- the query behind a rule; none, where the rule doesn't match
abbrev pub applied : Rule → Query → Option Query
applied (rule.Name renaming) q =
    option_map (with_name q) (renamed renaming.from renaming.to q.name)
applied (rule.Type from to) q = if q.kind == from then Some (with_kind q to) else None
applied (rule.Ttl from seconds) q = if is_matched from (searched q.name) then Some q else None

-- with a rule that was applied, by its number, and the query behind it
abbrev pub stepped : ℕ → Changed → Query → Changed
stepped number before q = record {
  query = q;
  steps = before.steps
      ++ (record { rule = number; before = before.query.name; after = q.name }) ∷ [];
}

-- behind a rule
abbrev pub step_behind : ℕ → Changed → Option Query → Changed
step_behind number before None = before
step_behind number before (Some q) = stepped number before q

-- the pattern that is sought, where it is one
abbrev pub matcher_patterns : Matcher → List (List ℕ)
matcher_patterns (matcher.Regex pattern) = pattern ∷ []
matcher_patterns other = []

-- nothing was applied
abbrev pub unchanged : Query → Changed
unchanged q = record { query = q; steps = [] }
