-- What is wrong with a directive `dns64`. This server's own rule, in the manner of CoreDNS.
use Rattle.std.specs.Prelude.{◌≡◌, ℕ, List, [], ◌∷◌, Option, Some, None, is_some}
use Rattle.std.specs.Prelude.{Result, Ok, Err}
use Rattle.std.specs.Option.{option_or}
use Rattle.dns_data.specs.declared.directive.Directive.{Directive}
use Rattle.dns_data.specs.declared.directive.Line.{Line}
use Rattle.plugin_api.specs.{empty_why, fault_at, once, unless}
use Rattle.plugin_api.specs.declared.fault.DirectiveFault.{DirectiveFault}
use Rattle.plugin_api.specs.declared.fault.DirectiveFault.TheVariants as fault
use Rattle.plugin_api.specs.declared.fault.DirectiveWhy.{DirectiveWhy}
use Rattle.plugin_api.specs.declared.fault.DirectiveWhy.TheVariants as why
use Rattle.dns64_plugin.specs.declared.options.Opens.{Opens}
use Rattle.dns64_plugin.specs.declared.options.Opens.TheVariants as opens
use Rattle.dns64_plugin.specs.declared.options.Seen.{Seen}
use Rattle.dns64_plugin.specs.Options.{opened, seen_behind, seen_first}
use Rattle.dns64_plugin.specs.Prefixes.{prefix_in}

-- one prefix, and nothing behind it
abbrev pub prefix_why : List (List ℕ) → Option DirectiveWhy
prefix_why [] = Some why.Args
prefix_why (word ∷ words) = option_or (unless (is_some (prefix_in word)) why.Net) (empty_why words)

-- a prefix may stand behind the name
abbrev pub words_why : List (List ℕ) → Option DirectiveWhy
words_why [] = None
words_why (word ∷ words) = prefix_why (word ∷ words)

-- why the words behind the first don't fit, behind these options. Each may stand once, a prefix
-- among the words and the lines together.
abbrev pub why_by : Seen → Opens → List (List ℕ) → Option DirectiveWhy
why_by seen opens.Prefix words = once seen.prefix (prefix_why words)
why_by seen opens.AllowIpv4 words = once seen.allow_ipv4 (empty_why words)
why_by seen opens.Ptr words = once seen.ptr (empty_why words)
why_by seen opens.Nothing words = Some why.Option

abbrev pub line_why : Seen → List (List ℕ) → Option DirectiveWhy
line_why seen [] = Some why.Option
line_why seen (word ∷ words) = why_by seen (opened word) words

-- the fault of the first line that doesn't fit, at that line
abbrev pub lines_fault : Seen → List Line → Option DirectiveFault
lines_fault seen [] = None
lines_fault seen (line ∷ lines) =
    option_or (fault_at line.number (line_why seen line.words))
    (lines_fault (seen_behind seen line.words) lines)

-- the first fault of a directive: its words, and then its lines
unfoldable pub dns64_fault : Directive → Option DirectiveFault
dns64_fault d =
    option_or (fault_at d.line (words_why d.args)) (lines_fault (seen_first d.args) d.body)

-- reading a directive gives its plan, or its first fault. Want of memory is always allowed.
abbrev pub ReadsDns64 : Directive → Result Directive DirectiveFault → Type 0
ReadsDns64 d (Ok plan) = (dns64_fault d ≡ None) × (plan ≡ d)
ReadsDns64 d (Err fault.NoMemory) = Unit {0}
ReadsDns64 d (Err refused) = dns64_fault d ≡ Some refused
