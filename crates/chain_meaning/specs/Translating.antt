-- The step `dns64`: the rest runs once or twice, or for another name. What is made of queries and
-- replies is dns64_plugin's. This server's own rule.
use Rattle.std.specs.Prelude.{ℕ, List, Option, Some, None, if◌then◌else◌}
use Rattle.dns_data.specs.declared.directive.Directive.{Directive}
use Rattle.dns_data.specs.declared.query.Query.{Query}
use Rattle.dns64_plugin.specs.{a_query, combined, needs_second, ptr_answer, ptr_query, translates}
use Rattle.dns64_plugin.specs.declared.ttl.TheConstants as ttls
use Rattle.outside.specs.Meanings.{Meaning, Done, onward}
use Rattle.outside.specs.declared.mark.Mark.{Mark}
use Rattle.chain_meaning.specs.declared.decision.Decision.{Decision}
use Rattle.chain_meaning.specs.declared.decision.Decision.TheVariants as decision

-- behind which first decision the rest runs again, for addresses of IPv4, and then what no TTL of
-- theirs exceeds
abbrev pub bound_of : Decision → Option ℕ
bound_of (decision.Reply a) = needs_second a.rcode a.answer a.authority
bound_of (decision.Code code cause) = Some ttls.DEFAULT
bound_of decision.Drop = None

-- a second decision, as the client gets it
abbrev pub combined_in : Directive → ℕ → Decision → Decision
combined_in d bound (decision.Reply a) = decision.Reply (combined d bound a)
combined_in d bound (decision.Code code cause) = decision.Code code cause
combined_in d bound decision.Drop = decision.Drop

-- a decision for the other name, as the client gets it
abbrev pub pointed_in : Query → Query → Decision → Decision
pointed_in q inner (decision.Reply a) = decision.Reply (ptr_answer q inner a)
pointed_in q inner (decision.Code code cause) = decision.Code code cause
pointed_in q inner decision.Drop = decision.Drop

module _ (rest : Query → List Mark → Meaning Decision) (d : Directive) (q : Query) where
  -- a first decision stands, or the rest runs again
  abbrev pub second_by : Decision → Option ℕ → List Mark → Meaning Decision
  second_by v None left = Done v left
  second_by v (Some bound) left =
      onward (rest (a_query q) left) (λ w more. Done (combined_in d bound w) more)

  abbrev pub second : Decision → List Mark → Meaning Decision
  second v left = second_by v (bound_of v) left

  -- the rest runs for the name of an address of IPv4, or once as it is
  abbrev pub pointed_by : Option Query → List Mark → Meaning Decision
  pointed_by None marks = rest q marks
  pointed_by (Some inner) marks =
      onward (rest inner marks) (λ v left. Done (pointed_in q inner v) left)

  -- the rule of the step
  abbrev pub dns64_means : List Mark → Meaning Decision
  dns64_means marks =
      if translates d q then onward (rest q marks) second
      else pointed_by (ptr_query d q) marks
