-- Without a mark the step `dns64` is never off, and a decision leaves nothing.
use Rattle.std.proofs.Common.{ℕ, Bool, true, false, List, [], Option, Some, None, refl, if◌then◌else◌}
use Rattle.dns_data.specs.declared.directive.Directive.{Directive}
use Rattle.dns_data.specs.declared.query.Query.{Query}
use Rattle.dns64_plugin.specs.{a_query, ptr_query, translates}
use Rattle.outside.specs.Meanings.{Meaning, Done, Starved, onward}
use Rattle.outside.specs.TakingLaws.{starved_onward}
use Rattle.outside.specs.declared.mark.Mark.{Mark}
use Rattle.chain_meaning.specs.declared.decision.Decision.{Decision}
use Rattle.chain_meaning.specs.Translating.{bound_of, combined_in, dns64_means, pointed_by, pointed_in, second, second_by}

module _ (rest : Query → List Mark → Meaning Decision) (d : Directive) (q : Query) (none : (other : Query) → Starved (rest other [])) where
  pub second_nothing : (v : Decision) (bound : Option ℕ) → Starved (second_by rest d q v bound [])
  second_nothing v None = refl
  second_nothing v (Some bound) =
      starved_onward (rest (a_query q) []) (λ w more. Done (combined_in d bound w) more) (none (a_query q)) (λ w. refl)

  pub pointed_nothing : (inner : Option Query) → Starved (pointed_by rest d q inner [])
  pointed_nothing None = none q
  pointed_nothing (Some inner) = starved_onward (rest inner []) (λ v left. Done (pointed_in q inner v) left) (none inner) (λ v. refl)

  either_nothing : (t : Bool) → Starved (if t then onward (rest q []) (second rest d q) else pointed_by rest d q (ptr_query d q) [])
  either_nothing true = starved_onward (rest q []) (second rest d q) (none q) (λ v. second_nothing v (bound_of v))
  either_nothing false = pointed_nothing (ptr_query d q)

  pub dns64_nothing : Starved (dns64_means rest d q [])
  dns64_nothing = either_nothing (translates d q)
