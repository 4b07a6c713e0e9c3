-- The chains of a program that brings no extras.
use Rattle.std.specs.Prelude.{◌≡◌, ℕ, []}
use Rattle.extra_stock.specs.declared.passing.Passing.{Passing}
use Rattle.extra_stock.specs.declared.passing.PassingBook.{PassingBook}
use Rattle.extra_stock.specs.{all_pass, all_taken, passing_book, passing_extra}
use Rattle.chain_meaning.specs.Grounds.{Ground, Terms, ground_at, terms_on}
use Rattle.chain_build.specs.declared.chain.Chain.{Chain}
use Rattle.chain_build.specs.Plans.{ArePlans, PlansData}

abbrev pub OwnChain : Type 0
OwnChain = Chain PassingBook Passing passing_book passing_extra

-- what its runs stand on beside a configuration: no name but those of this server's own plugins is
-- known
abbrev pub own_ground : ℕ → Ground
own_ground default_port = ground_at default_port []

abbrev pub own_terms : ℕ → Terms
own_terms default_port = terms_on all_taken all_pass (own_ground default_port)

-- plans of such a program
pub record AreOwnPlans (plans : PlansData) : Type 0 where
  pub are : ArePlans all_taken all_pass plans
  pub names : plans.names ≡ []
