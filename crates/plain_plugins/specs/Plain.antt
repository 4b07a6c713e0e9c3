-- The directives whose words are none, durations or zones. This server's own rule, in the manner of
-- CoreDNS.
use Rattle.std.specs.Prelude.{◌≡◌, ℕ, List, [], ◌∷◌, Option, Some, None, is_some, unwrap_or}
use Rattle.std.specs.Prelude.{Result, Ok, Err, if◌then◌else◌}
use Rattle.std.specs.Option.{option_or}
use Rattle.dns_data.specs.declared.directive.Directive.{Directive}
use Rattle.dns_data.specs.declared.directive.Line.{Line}
use Rattle.plugin_api.specs.{PlanData, fault_at}
use Rattle.plugin_api.specs.declared.fault.DirectiveFault.{DirectiveFault}
use Rattle.plugin_api.specs.declared.fault.DirectiveFault.TheVariants as fault
use Rattle.plugin_api.specs.declared.fault.DirectiveWhy.{DirectiveWhy}
use Rattle.plugin_api.specs.declared.fault.DirectiveWhy.TheVariants as why
use Rattle.plugin_api.specs.declared.ranks.Rank.{Rank}
use Rattle.plugin_api.specs.declared.ranks.Rank.TheVariants as rank
use Rattle.zone_words.specs.{zones_or}
use Rattle.plain_plugins.specs.Reload.{reload_why}

-- the ranks of these directives
abbrev pub IsPlain : Rank → Type 0
IsPlain rank.Passive = Unit {0}
IsPlain rank.Reload = Unit {0}
IsPlain rank.Errors = Unit {0}
IsPlain rank.Log = Unit {0}
IsPlain rank.Any = Unit {0}
IsPlain rank.Whoami = Unit {0}
IsPlain other = ⊥

-- no word may stand
abbrev pub no_words_why : List (List ℕ) → Option DirectiveWhy
no_words_why [] = None
no_words_why (word ∷ words) = Some why.Args

-- no body may stand
abbrev pub no_body_why : List Line → Option DirectiveWhy
no_body_why [] = None
no_body_why (line ∷ lines) = Some why.Args

abbrev pub zones_why : List (List (List ℕ)) → List (List ℕ) → Option DirectiveWhy
zones_why zones words = if is_some (zones_or zones words) then None else Some why.Zone

-- why the words of a directive don't fit
abbrev pub words_why : Rank → List (List (List ℕ)) → List (List ℕ) → Option DirectiveWhy
words_why rank.Reload zones words = reload_why words
words_why rank.Log zones words = zones_why zones words
words_why other zones words = no_words_why words

-- a name that does nothing takes any words and any body
abbrev pub plain_why : Rank → List (List (List ℕ)) → Directive → Option DirectiveWhy
plain_why rank.Passive zones d = None
plain_why rank zones d = option_or (words_why rank zones d.args) (no_body_why d.body)

-- the first fault of a directive, which stands at its own line
unfoldable pub plain_fault : Rank → Directive → List (List (List ℕ)) → Option DirectiveFault
plain_fault rank d zones = fault_at d.line (plain_why rank zones d)

-- reading a directive of a block with these zones gives its plan, or its first fault. Want of
-- memory is always allowed.
abbrev pub ReadsPlain : Rank → Directive → List (List (List ℕ)) → Result PlanData DirectiveFault
    → Type 0
ReadsPlain rank d zones (Ok plan) =
    (plain_fault rank d zones ≡ None) × (plan ≡ record { directive = d; zones = zones })
ReadsPlain rank d zones (Err fault.NoMemory) = Unit {0}
ReadsPlain rank d zones (Err refused) = plain_fault rank d zones ≡ Some refused

-- the zones for which a plan stands
abbrev pub plain_zones : PlanData → List (List (List ℕ))
plain_zones plan = unwrap_or (zones_or plan.zones plan.directive.args) plan.zones
