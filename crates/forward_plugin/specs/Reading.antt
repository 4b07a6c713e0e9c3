-- Which lines a directive `forward` may have. This server's own rule, in the manner of CoreDNS.
use Rattle.std.specs.Prelude.{ℕ, true, false, List, [], ◌∷◌, codes}
use Rattle.std.specs.Prelude.{Option, Some, None, is_some, Result, Ok, Err, if◌then◌else◌}
use Rattle.std.specs.Option.{option_or}
use Rattle.dns_data.specs.declared.directive.Directive.{Directive}
use Rattle.dns_data.specs.declared.directive.Line.{Line}
use Rattle.dns_data.specs.declared.file.FileText.{FileText}
use Rattle.outside.specs.declared.datagram.Upstream.{Upstream}
use Rattle.plugin_api.specs.{empty_why, fault_at, is_word, once, unless}
use Rattle.plugin_api.specs.declared.fault.DirectiveFault.{DirectiveFault}
use Rattle.plugin_api.specs.declared.fault.DirectiveFault.TheVariants as fault
use Rattle.upstream_words.specs.Words.{onward_ok, with_words}
use Rattle.plugin_api.specs.declared.fault.DirectiveWhy.{DirectiveWhy}
use Rattle.plugin_api.specs.declared.fault.DirectiveWhy.TheVariants as why
use Rattle.zone_words.specs.{word_zone, zones_of}
use Rattle.forward_plugin.specs.declared.seen.Opens.{Opens}
use Rattle.forward_plugin.specs.declared.seen.Opens.TheVariants as opens
use Rattle.forward_plugin.specs.declared.seen.OptionsSeen.{OptionsSeen}
use Rattle.forward_plugin.specs.Options.{ForwardData, fails_in, policy_in}

abbrev pub opened : List ℕ → Opens
opened word =
    if is_word word (codes "except") then opens.Except
    else if is_word word (codes "force_tcp") then opens.ForceTcp
    else if is_word word (codes "policy") then opens.Policy
    else if is_word word (codes "max_fails") then opens.MaxFails
    else opens.Other

-- one or more zones
abbrev pub except_why : List (List ℕ) → Option DirectiveWhy
except_why [] = Some why.Args
except_why (word ∷ words) = unless (is_some (zones_of (word ∷ words))) why.Zone

-- one policy
abbrev pub policy_why : List (List ℕ) → Option DirectiveWhy
policy_why [] = Some why.Args
policy_why (word ∷ words) =
    option_or (unless (is_some (policy_in word)) why.Option) (empty_why words)

-- one number
abbrev pub fails_why : List (List ℕ) → Option DirectiveWhy
fails_why [] = Some why.Args
fails_why (word ∷ words) =
    option_or (unless (is_some (fails_in word)) why.Number) (empty_why words)

abbrev pub why_by : OptionsSeen → Opens → List (List ℕ) → Option DirectiveWhy
why_by seen opens.Except words = once seen.except (except_why words)
why_by seen opens.ForceTcp words = once seen.force_tcp (empty_why words)
why_by seen opens.Policy words = once seen.policy (policy_why words)
why_by seen opens.MaxFails words = once seen.max_fails (fails_why words)
why_by seen opens.Other words = Some why.Option

-- why a line doesn't fit, after lines with these options
abbrev pub line_why : OptionsSeen → List (List ℕ) → Option DirectiveWhy
line_why seen [] = Some why.Args
line_why seen (word ∷ words) = why_by seen (opened word) words

abbrev pub none_seen : OptionsSeen
none_seen = record { except = false; force_tcp = false; policy = false; max_fails = false }

abbrev pub seen_with : OptionsSeen → Opens → OptionsSeen
seen_with seen opens.Except = record seen { except = true }
seen_with seen opens.ForceTcp = record seen { force_tcp = true }
seen_with seen opens.Policy = record seen { policy = true }
seen_with seen opens.MaxFails = record seen { max_fails = true }
seen_with seen opens.Other = seen

abbrev pub seen_after : OptionsSeen → List (List ℕ) → OptionsSeen
seen_after seen [] = seen
seen_after seen (word ∷ words) = seen_with seen (opened word)

-- the fault of the first line that doesn't fit, at that line
abbrev pub lines_fault : OptionsSeen → List Line → Option DirectiveFault
lines_fault seen [] = None
lines_fault seen (line ∷ lines) =
    option_or (fault_at line.number (line_why seen line.words))
    (lines_fault (seen_after seen line.words) lines)

-- the plan of a directive without faulty lines
abbrev pub lined : Directive → Option DirectiveFault → List Upstream
    → Result ForwardData DirectiveFault
lined d None us = Ok (record { directive = d; upstreams = us })
lined d (Some refused) us = Err refused

-- one or more upstreams or files stand after FROM
abbrev pub some_words : ℕ → List FileText → List (List ℕ) → Result (List Upstream) DirectiveFault
some_words line files [] = Err (fault.Why line why.Args)
some_words line files (word ∷ words) = with_words [] line files (word ∷ words)

-- a zone, and one or more upstreams or files
abbrev pub args_read : ℕ → List FileText → List (List ℕ) → Result (List Upstream) DirectiveFault
args_read line files [] = Err (fault.Why line why.Args)
args_read line files (from ∷ words) =
    if is_some (word_zone from) then some_words line files words
    else Err (fault.Why line why.Zone)

-- the plan of a directive in a bundle with these files, or its first fault: its words, and then its
-- lines
abbrev pub forward_read : Directive → List FileText → Result ForwardData DirectiveFault
forward_read d files =
    onward_ok (args_read d.line files d.args) (lined d (lines_fault none_seen d.body))

-- the upstreams of a directive that is read
abbrev pub upstreams_in : Result (List Upstream) DirectiveFault → List Upstream
upstreams_in (Ok us) = us
upstreams_in (Err refused) = []

-- what the plan of a directive has in a bundle with these files
abbrev pub forward_data : Directive → List FileText → ForwardData
forward_data d files =
    record { directive = d; upstreams = upstreams_in (args_read d.line files d.args) }

abbrev pub fault_in : Result ForwardData DirectiveFault → Option DirectiveFault
fault_in (Ok plan) = None
fault_in (Err refused) = Some refused

-- why a directive is refused in a bundle with these files
abbrev pub forward_fault : Directive → List FileText → Option DirectiveFault
forward_fault d files = fault_in (forward_read d files)
