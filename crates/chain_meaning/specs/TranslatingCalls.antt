-- Which calls of what workers share the two runs of the rest make: each run's marks tell its own.
-- This server's own rule.
use Rattle.std.specs.Prelude.{ℕ, List, [], ◌++◌, Option, Some, None, if◌then◌else◌}
use Rattle.dns_data.specs.declared.directive.Directive.{Directive}
use Rattle.dns_data.specs.declared.query.Query.{Query}
use Rattle.dns64_plugin.specs.{a_query, ptr_query, translates}
use Rattle.outside.specs.Meanings.{Meaning, Done, More, Off}
use Rattle.outside.specs.declared.mark.Mark.{Mark}
use Rattle.chain_meaning.specs.declared.decision.Decision.{Decision}
use Rattle.chain_meaning.specs.Caching.{taken}
use Rattle.chain_meaning.specs.Translating.{bound_of}

-- the calls that a run of the rest tells for a query by its marks
module _ {C : Type 0} (calls : Query → List Mark → List C) (d : Directive) (q : Query) where
  abbrev pub second_calls : Option ℕ → List Mark → List C
  second_calls None left = []
  second_calls (Some bound) left = calls (a_query q) left

  -- where the first run means this
  abbrev pub first_calls : List Mark → Meaning Decision → List C
  first_calls marks (Done v left) = calls q (taken marks left) ++ second_calls (bound_of v) left
  first_calls marks More = calls q marks
  first_calls marks Off = calls q marks

  abbrev pub pointed_calls : Option Query → List Mark → List C
  pointed_calls None marks = calls q marks
  pointed_calls (Some inner) marks = calls inner marks

  abbrev pub dns64_calls : (Query → List Mark → Meaning Decision) → List Mark → List C
  dns64_calls rest marks =
      if translates d q then first_calls marks (rest q marks)
      else pointed_calls (ptr_query d q) marks
