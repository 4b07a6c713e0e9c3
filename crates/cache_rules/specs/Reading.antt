-- The words of `cache`: a TTL, zones, and lines with options. This server's own rule, in the manner
-- of CoreDNS.
use Rattle.std.specs.Prelude.{◌≡◌, ℕ, ◌&&◌, not, true, false, List, [], ◌∷◌}
use Rattle.std.specs.Prelude.{Option, Some, None, is_some, unwrap_or}
use Rattle.std.specs.Prelude.{Result, Ok, Err, if◌then◌else◌}
use Rattle.std.specs.Option.{option_or}
use Rattle.dns_data.specs.declared.directive.Directive.{Directive}
use Rattle.dns_data.specs.declared.directive.Line.{Line}
use Rattle.plugin_api.specs.{PlanData, empty_why, fault_at, once, unless}
use Rattle.plugin_api.specs.declared.fault.DirectiveFault.{DirectiveFault}
use Rattle.plugin_api.specs.declared.fault.DirectiveFault.TheVariants as fault
use Rattle.plugin_api.specs.declared.fault.DirectiveWhy.{DirectiveWhy}
use Rattle.plugin_api.specs.declared.fault.DirectiveWhy.TheVariants as why
use Rattle.zone_words.specs.{zones_or}
use Rattle.cache_rules.specs.declared.options.Choice.{Choice}
use Rattle.cache_rules.specs.declared.options.Choice.TheVariants as choices
use Rattle.cache_rules.specs.declared.options.Opens.{Opens}
use Rattle.cache_rules.specs.declared.options.Opens.TheVariants as opens
use Rattle.cache_rules.specs.declared.options.Seen.{Seen}
use Rattle.cache_rules.specs.Options.{capacity_in, choice_of, is_digits, opened, seconds_in, ttl_in}
use Rattle.cache_rules.specs.Options.{words_of_zones}

-- a first word of digits is a TTL
abbrev pub ttl_why : List (List ℕ) → Option DirectiveWhy
ttl_why [] = None
ttl_why (word ∷ words) =
    if is_digits word && not (is_some (ttl_in word)) then Some why.Number else None

-- the zones that the words name, or else those of the block
abbrev pub zones_behind : List (List (List ℕ)) → List (List ℕ) → Option (List (List (List ℕ)))
zones_behind zones words = zones_or zones (words_of_zones words)

abbrev pub least_why : List (List ℕ) → Option DirectiveWhy
least_why [] = None
least_why (word ∷ words) = option_or (unless (is_some (ttl_in word)) why.Number) (empty_why words)

abbrev pub times_why : List (List ℕ) → Option DirectiveWhy
times_why [] = None
times_why (word ∷ words) = option_or (unless (is_some (ttl_in word)) why.Number) (least_why words)

-- a capacity stands behind `success` and `denial`, and up to two TTLs behind it
abbrev pub class_why : List (List ℕ) → Option DirectiveWhy
class_why [] = Some why.Args
class_why (word ∷ words) =
    option_or (unless (is_some (capacity_in word)) why.Number) (times_why words)

-- whole seconds stand behind `servfail`
abbrev pub servfail_why : List (List ℕ) → Option DirectiveWhy
servfail_why [] = Some why.Args
servfail_why (word ∷ words) =
    option_or (unless (is_some (seconds_in word)) why.Number) (empty_why words)

abbrev pub choice_why : Seen → Choice → List (List ℕ) → Option DirectiveWhy
choice_why seen choices.Success words = once seen.no_success (empty_why words)
choice_why seen choices.Denial words = once seen.no_denial (empty_why words)
choice_why seen choices.Neither words = Some why.Option

-- `success` or `denial` stands behind `disable`
abbrev pub disable_why : Seen → List (List ℕ) → Option DirectiveWhy
disable_why seen [] = Some why.Args
disable_why seen (word ∷ words) = choice_why seen (choice_of word) words

-- why the words behind the first don't fit, behind lines with these options
abbrev pub why_by : Seen → Opens → List (List ℕ) → Option DirectiveWhy
why_by seen opens.Success words = once seen.success (class_why words)
why_by seen opens.Denial words = once seen.denial (class_why words)
why_by seen opens.Servfail words = once seen.servfail (servfail_why words)
why_by seen opens.Disable words = disable_why seen words
why_by seen opens.Keepttl words = once seen.keepttl (empty_why words)
why_by seen opens.Nothing words = Some why.Option

abbrev pub line_why : Seen → List (List ℕ) → Option DirectiveWhy
line_why seen [] = Some why.Args
line_why seen (word ∷ words) = why_by seen (opened word) words

-- no option stood before
abbrev pub none_seen : Seen
none_seen = record {
  success = false;
  denial = false;
  servfail = false;
  no_success = false;
  no_denial = false;
  keepttl = false;
}

abbrev pub choice_seen : Seen → Choice → Seen
choice_seen seen choices.Success = record seen { no_success = true }
choice_seen seen choices.Denial = record seen { no_denial = true }
choice_seen seen choices.Neither = seen

abbrev pub seen_without : Seen → List (List ℕ) → Seen
seen_without seen [] = seen
seen_without seen (word ∷ words) = choice_seen seen (choice_of word)

-- with the option that a line opens
abbrev pub seen_with : Seen → Opens → List (List ℕ) → Seen
seen_with seen opens.Success words = record seen { success = true }
seen_with seen opens.Denial words = record seen { denial = true }
seen_with seen opens.Servfail words = record seen { servfail = true }
seen_with seen opens.Disable words = seen_without seen words
seen_with seen opens.Keepttl words = record seen { keepttl = true }
seen_with seen opens.Nothing words = seen

abbrev pub seen_behind : Seen → List (List ℕ) → Seen
seen_behind seen [] = seen
seen_behind seen (word ∷ words) = seen_with seen (opened word) words

-- the fault of the first line that doesn't fit, at that line
abbrev pub lines_fault : Seen → List Line → Option DirectiveFault
lines_fault seen [] = None
lines_fault seen (line ∷ lines) =
    option_or (fault_at line.number (line_why seen line.words))
    (lines_fault (seen_behind seen line.words) lines)

abbrev pub words_why : List (List (List ℕ)) → List (List ℕ) → Option DirectiveWhy
words_why zones words =
    option_or (ttl_why words) (unless (is_some (zones_behind zones words)) why.Zone)

-- the first fault of a directive of a block with these zones: its words, and then its lines
unfoldable pub cache_fault : Directive → List (List (List ℕ)) → Option DirectiveFault
cache_fault d zones =
    option_or (fault_at d.line (words_why zones d.args)) (lines_fault none_seen d.body)

-- the zones for which a directive stands
abbrev pub cache_zones : PlanData → List (List (List ℕ))
cache_zones plan = unwrap_or (zones_behind plan.zones plan.directive.args) []

-- reading a directive gives its plan, or its first fault. Want of memory is always allowed.
abbrev pub ReadsCache : Directive → List (List (List ℕ)) → Result PlanData DirectiveFault → Type 0
ReadsCache d zones (Ok plan) =
    (cache_fault d zones ≡ None) × (plan ≡ record { directive = d; zones = zones })
ReadsCache d zones (Err fault.NoMemory) = Unit {0}
ReadsCache d zones (Err refused) = cache_fault d zones ≡ Some refused
