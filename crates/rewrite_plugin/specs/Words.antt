-- The words of `rewrite`: `continue` or `stop`, and a rule, which a body may have in their place.
-- This server's own rule, in the manner of CoreDNS. 46 is a dot.
use Rattle.std.specs.Prelude.{ℕ, nat_lt, Bool, true, false}
use Rattle.std.specs.Prelude.{List, []}
use Rattle.std.specs.Prelude.{◌∷◌, ◌++◌, map, codes, Option, Some, None, option_and_then}
use Rattle.std.specs.Prelude.{Result, Ok, Err, if◌then◌else◌}
use Rattle.std.specs.Char.{to_ascii_lowercase}
use Rattle.dns_data.specs.declared.directive.Directive.{Directive}
use Rattle.dns_data.specs.declared.directive.Line.{Line}
use Rattle.dns_data.specs.declared.limit.TheConstants as limits
use Rattle.numbers.specs.{number_of}
use Rattle.plugin_api.specs.{is_word}
use Rattle.plugin_api.specs.declared.fault.DirectiveFault.{DirectiveFault}
use Rattle.plugin_api.specs.declared.fault.DirectiveFault.TheVariants as fault
use Rattle.plugin_api.specs.declared.fault.DirectiveWhy.{DirectiveWhy}
use Rattle.plugin_api.specs.declared.fault.DirectiveWhy.TheVariants as why
use Rattle.type_names.specs.{kind_of_text}
use Rattle.rewrite_plugin.specs.Shapes.{Answering, Matcher, Renaming, Replacing, Rule, Written}
use Rattle.rewrite_plugin.specs.declared.matching.Matching.{Matching}
use Rattle.rewrite_plugin.specs.declared.matching.Matching.TheVariants as matching
use Rattle.rewrite_plugin.specs.declared.words.PatternAt.{PatternAt}
use Rattle.rewrite_plugin.specs.declared.rule.Answering.TheVariants as answering
use Rattle.rewrite_plugin.specs.declared.rule.Matcher.TheVariants as matcher
use Rattle.rewrite_plugin.specs.declared.rule.Rule.TheVariants as rule
use Rattle.rewrite_plugin.specs.Texts.{ends}

-- what words read as, or their first fault, and the patterns that stand in front of that
pub record Reading (A : Type 0) : Type 0 where
  pub patterns : List PatternAt
  pub end : Result A DirectiveFault

-- words that read as this, without a pattern
abbrev pub well : {A : Type 0} → A → Reading A
well value = record { patterns = []; end = Ok value }

-- words that are refused, without a pattern
abbrev pub refused : {A : Type 0} → ℕ → DirectiveWhy → Reading A
refused line why = record { patterns = []; end = Err (fault.Why line why) }

abbrev pub end_map : {A B : Type 0} → (A → B) → Result A DirectiveFault → Result B DirectiveFault
end_map f (Ok value) = Ok (f value)
end_map f (Err fault) = Err fault

-- what is made of what words read as
abbrev pub made_of : {A B : Type 0} → (A → B) → Reading A → Reading B
made_of f reading = record { patterns = reading.patterns; end = end_map f reading.end }

-- with a pattern in front
abbrev pub behind_pattern : {A : Type 0} → ℕ → List ℕ → Reading A → Reading A
behind_pattern line text reading = record {
  patterns = (record { line = line; text = text }) ∷ reading.patterns;
  end = reading.end;
}

-- in small letters
abbrev pub small : List ℕ → List ℕ
small word = map to_ascii_lowercase word

-- a text with a dot at its end, which is added where it is missing
abbrev pub dotted : List ℕ → List ℕ
dotted text = if ends (codes ".") text then text else text ++ 46 ∷ []

-- the match word that a word is
abbrev pub match_word : List ℕ → Option Matching
match_word word =
    if is_word word (codes "exact") then Some matching.Exact
    else if is_word word (codes "prefix") then Some matching.Prefix
    else if is_word word (codes "suffix") then Some matching.Suffix
    else if is_word word (codes "substring") then Some matching.Substring
    else if is_word word (codes "regex") then Some matching.Regex
    else None

-- how the words behind a rule's first name what is sought: a match word is one where two or more
-- words follow it
pub record Sought : Type 0 where
  pub by : Matching
  pub words : List (List ℕ)

abbrev pub sought_by : Option Matching → List ℕ → List (List ℕ) → Sought
sought_by None word words = record { by = matching.Exact; words = word ∷ words }
sought_by (Some by) word words = record { by = by; words = words }

abbrev pub sought_in : List (List ℕ) → Sought
sought_in [] = record { by = matching.Exact; words = [] }
sought_in (word ∷ []) = record { by = matching.Exact; words = word ∷ [] }
sought_in (word ∷ next ∷ []) = record { by = matching.Exact; words = word ∷ next ∷ [] }
sought_in (word ∷ next ∷ other ∷ words) =
    sought_by (match_word word) word (next ∷ other ∷ words)

-- what is sought, by a word
abbrev pub matcher_of : Matching → List ℕ → Matcher
matcher_of matching.Exact word = matcher.Exact (dotted (small word))
matcher_of matching.Prefix word = matcher.Prefix (small word)
matcher_of matching.Suffix word = matcher.Suffix (dotted (small word))
matcher_of matching.Substring word = matcher.Substring (small word)
matcher_of matching.Regex word = matcher.Regex word

-- what a matched part becomes, by a word
abbrev pub to_of : Matching → List ℕ → List ℕ
to_of matching.Exact word = dotted (small word)
to_of matching.Prefix word = small word
to_of matching.Suffix word = dotted (small word)
to_of matching.Substring word = small word
to_of matching.Regex word = dotted (small word)

-- a word is a pattern, where it is sought so
abbrev pub patterns_if : Matching → ℕ → List ℕ → List PatternAt
patterns_if matching.Regex line word = (record { line = line; text = word }) ∷ []
patterns_if other line word = []

abbrev pub behind_patterns : {A : Type 0} → List PatternAt → Reading A → Reading A
behind_patterns patterns reading =
    record { patterns = patterns ++ reading.patterns; end = reading.end }

abbrev pub is_empty : List ℕ → Bool
is_empty [] = true
is_empty (byte ∷ bytes) = false

-- no word stands behind what was read
abbrev pub last_end : {A : Type 0} → ℕ → A → List (List ℕ) → Result A DirectiveFault
last_end line value [] = Ok value
last_end line value (word ∷ words) = Err (fault.Why line why.Args)

abbrev pub last : {A : Type 0} → ℕ → A → List (List ℕ) → Reading A
last line value words = record { patterns = []; end = last_end line value words }

-- a pattern, and what a name becomes in which it is found
abbrev pub replacing_to : ℕ → List ℕ → List (List ℕ) → Reading Replacing
replacing_to line pattern [] = refused line why.Args
replacing_to line pattern (to ∷ words) =
    last line (record { pattern = pattern; to = dotted (small to) }) words

abbrev pub replacing_in : ℕ → List (List ℕ) → Reading Replacing
replacing_in line [] = refused line why.Args
replacing_in line (word ∷ words) = behind_pattern line word (replacing_to line word words)

-- the words behind `answer`
abbrev pub answering_in : ℕ → List (List ℕ) → Reading Answering
answering_in line [] = refused line why.Args
answering_in line (word ∷ words) =
    if is_word word (codes "auto") then last line answering.Auto words
    else if is_word word (codes "name") then made_of answering.Name (replacing_in line words)
    else if is_word word (codes "value") then made_of answering.Value (replacing_in line words)
    else refused line why.Option

abbrev pub one : Answering → List Answering
one answering = answering ∷ []

-- the words behind what a name becomes: an `answer`, or none
abbrev pub answers_in : ℕ → List (List ℕ) → Reading (List Answering)
answers_in line [] = well []
answers_in line (word ∷ words) =
    if is_word word (codes "answer") then made_of one (answering_in line words)
    else refused line why.Args

abbrev pub renaming_of : Matching → List ℕ → List ℕ → List Answering → Renaming
renaming_of by from to answers =
    record { from = matcher_of by from; to = to_of by to; answers = answers }

abbrev pub renaming_to : ℕ → Matching → List ℕ → List (List ℕ) → Reading Renaming
renaming_to line by from [] = refused line why.Args
renaming_to line by from (to ∷ words) = made_of (renaming_of by from to) (answers_in line words)

abbrev pub renaming_by : ℕ → Matching → List (List ℕ) → Reading Renaming
renaming_by line by [] = refused line why.Args
renaming_by line by (from ∷ words) =
    if is_empty from then refused line why.Args
    else behind_patterns (patterns_if by line from) (renaming_to line by from words)

-- the words behind `name`
abbrev pub renaming_in : ℕ → List (List ℕ) → Reading Renaming
renaming_in line words = renaming_by line (sought_in words).by (sought_in words).words

-- a TTL of 0 to 2^31 - 1 seconds
abbrev pub seconds_if : ℕ → Option ℕ
seconds_if number = if nat_lt number limits.TTL_END then Some number else None

abbrev pub seconds_in : List ℕ → Option ℕ
seconds_in word = option_and_then seconds_if (number_of 10 word)

abbrev pub ttl_of : ℕ → Matcher → Option ℕ → List (List ℕ) → Reading Rule
ttl_of line from None words = refused line why.Number
ttl_of line from (Some seconds) words = last line (rule.Ttl from seconds) words

abbrev pub ttl_to : ℕ → Matcher → List (List ℕ) → Reading Rule
ttl_to line from [] = refused line why.Args
ttl_to line from (word ∷ words) = ttl_of line from (seconds_in word) words

abbrev pub ttl_by : ℕ → Matching → List (List ℕ) → Reading Rule
ttl_by line by [] = refused line why.Args
ttl_by line by (name ∷ words) =
    if is_empty name then refused line why.Args
    else behind_patterns (patterns_if by line name) (ttl_to line (matcher_of by name) words)

-- the words behind `ttl`
abbrev pub ttl_in : ℕ → List (List ℕ) → Reading Rule
ttl_in line words = ttl_by line (sought_in words).by (sought_in words).words

abbrev pub type_of : ℕ → ℕ → Option ℕ → List (List ℕ) → Result Rule DirectiveFault
type_of line from None words = Err (fault.Why line why.Kind)
type_of line from (Some to) words = last_end line (rule.Type from to) words

abbrev pub type_to : ℕ → Option ℕ → List (List ℕ) → Result Rule DirectiveFault
type_to line None words = Err (fault.Why line why.Kind)
type_to line (Some from) [] = Err (fault.Why line why.Args)
type_to line (Some from) (word ∷ words) = type_of line from (kind_of_text word) words

abbrev pub type_end : ℕ → List (List ℕ) → Result Rule DirectiveFault
type_end line [] = Err (fault.Why line why.Args)
type_end line (word ∷ words) =
    if is_empty word then Err (fault.Why line why.Args)
    else type_to line (kind_of_text word) words

-- the words behind `type`
abbrev pub type_in : ℕ → List (List ℕ) → Reading Rule
type_in line words = record { patterns = []; end = type_end line words }

-- the words of a rule
abbrev pub rule_in : ℕ → List (List ℕ) → Reading Rule
rule_in line [] = refused line why.Args
rule_in line (word ∷ words) =
    if is_word word (codes "name") then made_of rule.Name (renaming_in line words)
    else if is_word word (codes "type") then type_in line words
    else if is_word word (codes "ttl") then ttl_in line words
    else refused line why.Option

-- a line of a body behind its first: an `answer`
abbrev pub line_in : ℕ → List (List ℕ) → Reading Answering
line_in line [] = refused line why.Option
line_in line (word ∷ words) =
    if is_word word (codes "answer") then answering_in line words
    else if is_word word (codes "name") then refused line why.Args
    else refused line why.Option

-- what is read behind something else, where that is no fault
abbrev pub ends_with : {A B C : Type 0} → (A → B → C) → Result A DirectiveFault
    → Result B DirectiveFault → Result C DirectiveFault
ends_with f (Err fault) other = Err fault
ends_with f (Ok value) other = end_map (f value) other

abbrev pub patterns_by : {A : Type 0} → Result A DirectiveFault → List PatternAt → List PatternAt
patterns_by (Err fault) patterns = []
patterns_by (Ok value) patterns = patterns

abbrev pub both : {A B C : Type 0} → (A → B → C) → Reading A → Reading B → Reading C
both f first second = record {
  patterns = first.patterns ++ patterns_by first.end second.patterns;
  end = ends_with f first.end second.end;
}

-- more of them behind some
abbrev pub more_behind : List Answering → List Answering → List Answering
more_behind answers more = answers ++ more

abbrev pub in_front : Answering → List Answering → List Answering
in_front answering answers = answering ∷ answers

-- the lines of a body behind its first
abbrev pub lines_in : List Line → Reading (List Answering)
lines_in [] = well []
lines_in (line ∷ lines) = both in_front (line_in line.number line.words) (lines_in lines)

-- with more of them
abbrev pub with_answers : Renaming → List Answering → Rule
with_answers renaming answers = rule.Name
    (record { from = renaming.from; to = renaming.to; answers = renaming.answers ++ answers })

-- the first line of a body: a rule that renames
abbrev pub first_in : ℕ → List (List ℕ) → Reading Renaming
first_in line [] = refused line why.Option
first_in line (word ∷ words) =
    if is_word word (codes "name") then renaming_in line words
    else if is_word word (codes "answer") then refused line why.Args
    else refused line why.Option

-- a body, which stands at this line: a rule that renames, and then its `answer`s
abbrev pub body_in : ℕ → List Line → Reading Rule
body_in number [] = refused number why.Args
body_in number (line ∷ lines) =
    both with_answers (first_in line.number line.words) (lines_in lines)

-- no body stands behind a rule
abbrev pub no_body : {A : Type 0} → ℕ → List Line → A → Result A DirectiveFault
no_body number [] value = Ok value
no_body number (line ∷ lines) value = Err (fault.Why number why.Args)

abbrev pub without_body : ℕ → List Line → Result Rule DirectiveFault → Result Rule DirectiveFault
without_body number lines (Err fault) = Err fault
without_body number lines (Ok value) = no_body number lines value

abbrev pub alone : ℕ → List Line → Reading Rule → Reading Rule
alone number lines reading =
    record { patterns = reading.patterns; end = without_body number lines reading.end }

-- a rule in the words, or else in the body
abbrev pub rule_of : ℕ → List (List ℕ) → List Line → Reading Rule
rule_of number [] lines = body_in number lines
rule_of number (word ∷ words) lines = alone number lines (rule_in number (word ∷ words))

abbrev pub written : Bool → Rule → Written
written goes_on rule' = record { goes_on = goes_on; rule = rule' }

-- the words behind `continue` or `stop`, where one of them stands first
abbrev pub behind_flow : List (List ℕ) → List (List ℕ)
behind_flow [] = []
behind_flow (word ∷ words) =
    if is_word word (codes "continue") then words
    else if is_word word (codes "stop") then words
    else word ∷ words

-- whether the next rule is tried behind this one
abbrev pub goes_on : List (List ℕ) → Bool
goes_on [] = false
goes_on (word ∷ words) = is_word word (codes "continue")

-- a directive: its rule, and whether the next one is tried behind it
unfoldable pub reading_of : Directive → Reading Written
reading_of d = made_of (written (goes_on d.args)) (rule_of d.line (behind_flow d.args) d.body)
