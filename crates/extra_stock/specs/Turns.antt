-- What the extras of a block say, each in turn. This server's own rule.
use Rattle.std.specs.Prelude.{ℕ, List, [], ◌∷◌, Option, Some, None, slice_get}
use Rattle.dns_data.specs.declared.directive.Directive.{Directive}
use Rattle.dns_data.specs.declared.query.Query.{Query}
use Rattle.plugin_api.specs.{Sayings}
use Rattle.plugin_api.specs.declared.verdict.Verdict.{Verdict}
use Rattle.plugin_api.specs.declared.verdict.Verdict.TheVariants as verdict

-- a verdict, or what is said behind it where it passes
abbrev pub or_next : Verdict → Verdict → Verdict
or_next (verdict.Reply answer) next = verdict.Reply answer
or_next verdict.Pass next = next
or_next verdict.Drop next = verdict.Drop
or_next (verdict.Code code) next = verdict.Code code

-- the first verdict that doesn't pass, in the order of the directives
abbrev pub in_turn : Sayings → List Directive → Query → Verdict
in_turn said [] q = verdict.Pass
in_turn said (d ∷ ds) q = or_next (said d.name d q) (in_turn said ds q)

-- what one of them says, which passes where there is none
abbrev pub said_by : Sayings → Option Directive → Query → Verdict
said_by said None q = verdict.Pass
said_by said (Some d) q = said d.name d q

-- what the one at a place says
abbrev pub said_at : Sayings → List Directive → ℕ → Query → Verdict
said_at said directives at q = said_by said (slice_get directives at) q
