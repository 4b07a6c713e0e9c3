-- Why a chain with `dns64` decides SERVFAIL there: the run of the rest has the cause whose decision
-- the client gets. This server's own rule.
use Rattle.std.specs.Prelude.{◌≡◌, ℕ, Bool, true, false, List, Option, Some, None}
use Rattle.dns_data.specs.declared.directive.Directive.{Directive}
use Rattle.dns_data.specs.declared.query.Query.{Query}
use Rattle.dns64_plugin.specs.{a_query, ptr_query, translates}
use Rattle.outside.specs.Meanings.{Meaning, Done, More, Off}
use Rattle.outside.specs.declared.mark.Mark.{Mark}
use Rattle.chain_meaning.specs.declared.decision.Decision.{Decision}
use Rattle.chain_meaning.specs.Translating.{bound_of, combined_in, pointed_in}

-- a run of the rest has the cause of a decision, which the client gets so
pub record IsMadeOf (as_given : Decision → Decision) (P : Decision → Type 0) (v : Decision)
    : Type 0 where
  pub rest : Decision
  pub cause : P rest
  pub is : v ≡ as_given rest

-- one of two, by a test
abbrev pub by_test : Bool → Type 0 → Type 0 → Type 0
by_test true first second = first
by_test false first second = second

module _ (rest : Query → List Mark → Decision → Type 0) (d : Directive) (q : Query)
    (marks : List Mark) (v : Decision) where
  -- behind a first decision, with these marks left
  abbrev pub second_cause : Option ℕ → List Mark → Type 0
  second_cause None left = rest q marks v
  second_cause (Some bound) left = IsMadeOf (combined_in d bound) (rest (a_query q) left) v

  abbrev pub first_cause : Meaning Decision → Type 0
  first_cause (Done first left) = second_cause (bound_of first) left
  first_cause More = ⊥
  first_cause Off = ⊥

  abbrev pub pointed_cause : Option Query → Type 0
  pointed_cause None = rest q marks v
  pointed_cause (Some inner) = IsMadeOf (pointed_in q inner) (rest inner marks) v

  -- where the rest means this for the query
  abbrev pub dns64_cause : Meaning Decision → Type 0
  dns64_cause first =
      by_test (translates d q) (first_cause first) (pointed_cause (ptr_query d q))
