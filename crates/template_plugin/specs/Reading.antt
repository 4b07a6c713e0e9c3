-- The words of `template`, and the first that doesn't fit. Whether a pattern is one, or is too
-- large to compile, is judged by the maker of patterns. This server's own rule, in the manner of
-- CoreDNS.
use Rattle.std.specs.Prelude.{ℕ, ◌+◌, Bool, true, false, ◌||◌, List, [], ◌∷◌, length}
use Rattle.std.specs.Prelude.{codes, Option, Some, None, is_some, if◌then◌else◌}
use Rattle.std.specs.Option.{option_or}
use Rattle.dns_data.specs.declared.directive.Line.{Line}
use Rattle.plugin_api.specs.{PlanData, empty_why, fallthrough_why, fault_at, is_word, once, unless}
use Rattle.pattern_judging.specs.{Judgement, pattern_fault}
use Rattle.plugin_api.specs.declared.fault.DirectiveFault.{DirectiveFault}
use Rattle.plugin_api.specs.declared.fault.DirectiveFault.TheVariants as fault
use Rattle.plugin_api.specs.declared.fault.DirectiveWhy.{DirectiveWhy}
use Rattle.plugin_api.specs.declared.fault.DirectiveWhy.TheVariants as why
use Rattle.type_names.specs.{kind_of_text, rcode_of_text}
use Rattle.zone_words.specs.{zones_or}
use Rattle.template_plugin.specs.declared.options.Earlier.{Earlier}
use Rattle.template_plugin.specs.declared.options.Opens.{Opens}
use Rattle.template_plugin.specs.declared.options.Opens.TheVariants as opens
use Rattle.template_plugin.specs.declared.options.Seen.{Seen}
use Rattle.template_plugin.specs.Pieces.{pieces_of}

abbrev pub class_why : List ℕ → Option DirectiveWhy
class_why word = unless (is_word word (codes "IN") || is_word word (codes "ANY")) why.Option

-- a type, and zones
abbrev pub kind_why : List (List (List ℕ)) → List (List ℕ) → Option DirectiveWhy
kind_why zones [] = Some why.Args
kind_why zones (kind ∷ words) =
    option_or (unless (is_some (kind_of_text kind)) why.Kind)
    (unless (is_some (zones_or zones words)) why.Zone)

-- a class, a type, and zones
abbrev pub words_why : List (List (List ℕ)) → List (List ℕ) → Option DirectiveWhy
words_why zones [] = Some why.Args
words_why zones (class ∷ words) = option_or (class_why class) (kind_why zones words)

-- the fault of the first of patterns that is refused
abbrev pub patterns_fault : Judgement → ℕ → ℕ → List (List ℕ) → Option DirectiveFault
patterns_fault judged line number [] = None
patterns_fault judged line number (word ∷ words) =
    option_or (pattern_fault judged line number) (patterns_fault judged line (number + 1) words)

-- one or more patterns stand behind `match`
abbrev pub match_fault : Judgement → ℕ → ℕ → List (List ℕ) → Option DirectiveFault
match_fault judged line number [] = Some (fault.Why line why.Args)
match_fault judged line number (word ∷ words) = patterns_fault judged line number (word ∷ words)

-- one text with places stands behind the name of a section
abbrev pub text_why : List (List ℕ) → Option DirectiveWhy
text_why [] = Some why.Args
text_why (word ∷ words) = option_or (unless (is_some (pieces_of word)) why.Place) (empty_why words)

abbrev pub rcode_why : List (List ℕ) → Option DirectiveWhy
rcode_why [] = Some why.Args
rcode_why (word ∷ words) =
    option_or (unless (is_some (rcode_of_text word)) why.Option) (empty_why words)

-- what a line without patterns is by its first word
abbrev pub opened : List ℕ → Opens
opened word =
    if is_word word (codes "answer") then opens.Text
    else if is_word word (codes "additional") then opens.Text
    else if is_word word (codes "authority") then opens.Text
    else if is_word word (codes "rcode") then opens.Rcode
    else if is_word word (codes "fallthrough") then opens.Fallthrough
    else opens.Other

-- why a line that opens so doesn't fit, by the words behind its first
abbrev pub option_why : Seen → Opens → List (List ℕ) → Option DirectiveWhy
option_why seen opens.Text words = text_why words
option_why seen opens.Rcode words = once seen.rcode (rcode_why words)
option_why seen opens.Fallthrough words = once seen.fallthrough (fallthrough_why words)
option_why seen opens.Other words = Some why.Option

-- with the option that a line opens
abbrev pub seen_with : Seen → Opens → Seen
seen_with seen opens.Text = seen
seen_with seen opens.Rcode = record { rcode = true; fallthrough = seen.fallthrough }
seen_with seen opens.Fallthrough = record { rcode = seen.rcode; fallthrough = true }
seen_with seen opens.Other = seen

-- whether patterns stand behind a word
abbrev pub is_match : List ℕ → Bool
is_match word = is_word word (codes "match")

-- the fault of a line, by what stood before it
abbrev pub line_fault : Judgement → Earlier → ℕ → List (List ℕ) → Option DirectiveFault
line_fault judged before line [] = Some (fault.Why line why.Option)
line_fault judged before line (word ∷ words) =
    if is_match word then match_fault judged line before.patterns words
    else fault_at line (option_why before.seen (opened word) words)

-- what stood before the next line
abbrev pub behind_line : Earlier → List (List ℕ) → Earlier
behind_line before [] = before
behind_line before (word ∷ words) =
    if is_match word
    then record { seen = before.seen; patterns = before.patterns + length words }
    else record { seen = seen_with before.seen (opened word); patterns = before.patterns }

-- the fault of the first line that doesn't fit
abbrev pub lines_fault : Judgement → Earlier → List Line → Option DirectiveFault
lines_fault judged before [] = None
lines_fault judged before (line ∷ lines) =
    option_or (line_fault judged before line.number line.words)
    (lines_fault judged (behind_line before line.words) lines)

-- nothing stood before, but for patterns of other directives
abbrev pub behind_patterns : ℕ → Earlier
behind_patterns patterns =
    record { seen = record { rcode = false; fallthrough = false }; patterns = patterns }

-- the first fault of a directive, behind so many patterns of the configuration
unfoldable pub template_fault : Judgement → ℕ → PlanData → Option DirectiveFault
template_fault judged patterns plan =
    option_or (fault_at plan.directive.line (words_why plan.zones plan.directive.args))
    (lines_fault judged (behind_patterns patterns) plan.directive.body)
