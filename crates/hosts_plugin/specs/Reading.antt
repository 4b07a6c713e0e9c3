-- The words of `hosts`: a hosts file, the zones that it speaks for, and lines with options, or with
-- an address and its names. This server's own rule, in the manner of CoreDNS.
use Rattle.std.specs.Prelude.{◌≡◌, ℕ, true, false, List, [], ◌∷◌, codes}
use Rattle.std.specs.Prelude.{Option, Some, None, is_some, unwrap_or}
use Rattle.std.specs.Prelude.{Result, Ok, Err, if◌then◌else◌}
use Rattle.std.specs.Option.{option_or}
use Rattle.dns_data.specs.{addr_of}
use Rattle.dns_data.specs.declared.directive.Directive.{Directive}
use Rattle.dns_data.specs.declared.directive.Line.{Line}
use Rattle.plugin_api.specs.{empty_why, fallthrough_why, fault_at, is_word, once, unless}
use Rattle.plugin_api.specs.declared.fault.DirectiveFault.{DirectiveFault}
use Rattle.plugin_api.specs.declared.fault.DirectiveFault.TheVariants as fault
use Rattle.plugin_api.specs.declared.fault.DirectiveWhy.{DirectiveWhy}
use Rattle.plugin_api.specs.declared.fault.DirectiveWhy.TheVariants as why
use Rattle.hosts_plugin.specs.declared.options.Opens.{Opens}
use Rattle.hosts_plugin.specs.declared.options.Opens.TheVariants as opens
use Rattle.hosts_plugin.specs.declared.options.Seen.{Seen}
use Rattle.hosts_plugin.specs.Hosts.{HostsData, zones_behind}
use Rattle.hosts_plugin.specs.Listings.{name_in}
use Rattle.hosts_plugin.specs.Options.{ttl_in}

-- what a line is by its first word: an option, or else one of an address and names
abbrev pub opened : List ℕ → Opens
opened word =
    if is_word word (codes "ttl") then opens.Ttl
    else if is_word word (codes "no_reverse") then opens.NoReverse
    else if is_word word (codes "fallthrough") then opens.Fallthrough
    else opens.Addresses

-- one TTL stands behind `ttl`
abbrev pub ttl_why : List (List ℕ) → Option DirectiveWhy
ttl_why [] = Some why.Args
ttl_why (word ∷ words) = option_or (unless (is_some (ttl_in word)) why.Number) (empty_why words)

-- why the first word that is no name isn't
abbrev pub names_why : List (List ℕ) → Option DirectiveWhy
names_why [] = None
names_why (word ∷ words) = option_or (unless (is_some (name_in word)) why.Zone) (names_why words)

-- one or more names stand behind an address
abbrev pub some_names_why : List (List ℕ) → Option DirectiveWhy
some_names_why [] = Some why.Args
some_names_why (word ∷ words) = names_why (word ∷ words)

abbrev pub addresses_why : List ℕ → List (List ℕ) → Option DirectiveWhy
addresses_why word words =
    option_or (unless (is_some (addr_of word)) why.Net) (some_names_why words)

-- why a line doesn't fit that begins with this word, behind lines with these options
abbrev pub why_by : Seen → Opens → List ℕ → List (List ℕ) → Option DirectiveWhy
why_by seen opens.Ttl word words = once seen.ttl (ttl_why words)
why_by seen opens.NoReverse word words = once seen.no_reverse (empty_why words)
why_by seen opens.Fallthrough word words = once seen.fallthrough (fallthrough_why words)
why_by seen opens.Addresses word words = addresses_why word words

abbrev pub line_why : Seen → List (List ℕ) → Option DirectiveWhy
line_why seen [] = Some why.Args
line_why seen (word ∷ words) = why_by seen (opened word) word words

-- no option stood before
abbrev pub none_seen : Seen
none_seen = record { ttl = false; no_reverse = false; fallthrough = false }

-- with the option that a line opens
abbrev pub seen_with : Seen → Opens → Seen
seen_with seen opens.Ttl =
    record { ttl = true; no_reverse = seen.no_reverse; fallthrough = seen.fallthrough }
seen_with seen opens.NoReverse =
    record { ttl = seen.ttl; no_reverse = true; fallthrough = seen.fallthrough }
seen_with seen opens.Fallthrough =
    record { ttl = seen.ttl; no_reverse = seen.no_reverse; fallthrough = true }
seen_with seen opens.Addresses = seen

abbrev pub seen_behind : Seen → List (List ℕ) → Seen
seen_behind seen [] = seen
seen_behind seen (word ∷ words) = seen_with seen (opened word)

-- the fault of the first line that doesn't fit, at that line
abbrev pub lines_fault : Seen → List Line → Option DirectiveFault
lines_fault seen [] = None
lines_fault seen (line ∷ lines) =
    option_or (fault_at line.number (line_why seen line.words))
    (lines_fault (seen_behind seen line.words) lines)

-- the first fault of a directive of a block with these zones: its words, and then its lines
unfoldable pub hosts_fault : Directive → List (List (List ℕ)) → Option DirectiveFault
hosts_fault d zones =
    option_or (fault_at d.line (unless (is_some (zones_behind zones d.args)) why.Zone))
    (lines_fault none_seen d.body)

-- what a directive's plan is read from; a missing file is an empty one
abbrev pub data_of : Directive → List (List (List ℕ)) → Option (List ℕ) → HostsData
data_of d zones file = record { directive = d; zones = zones; text = unwrap_or file [] }

-- reading a directive gives its plan, or its first fault. Want of memory is always allowed.
abbrev pub ReadsHosts : Directive → List (List (List ℕ)) → Option (List ℕ)
    → Result HostsData DirectiveFault → Type 0
ReadsHosts d zones file (Ok plan) = (hosts_fault d zones ≡ None) × (plan ≡ data_of d zones file)
ReadsHosts d zones file (Err fault.NoMemory) = Unit {0}
ReadsHosts d zones file (Err refused) = hosts_fault d zones ≡ Some refused
