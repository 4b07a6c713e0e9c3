-- Which bundles the published chains serve. This server's own rule.
use Rattle.std.specs.Prelude.{◌≡◌, List, [], ◌∷◌, ◌++◌}
use Rattle.std.specs.List.{All}
use Rattle.corefile_blocks.specs.declared.bundle.Bundle.{Bundle}
use Rattle.chain_build.specs.declared.chain.Chain.{Chain}
use Rattle.plugin_api.specs.declared.extra.Extra as extra
use Rattle.plugin_api.specs.declared.rulebook.Rulebook as rulebook
use Rattle.chain_build.specs.{PlansData, ground_of, plans_of}
use Rattle.chain_meaning.specs.{Ground}

module _ {B E : Type 0} {b : rulebook.Ghosts B} {e : extra.Ghosts E} where
  -- a chain serves by this bundle, on this basis
  pub record IsOf (bundle : Bundle) (basis : Ground) (chain : Chain B E b e) : Type 0 where
    pub bundle_is : (plans_of chain).bundle ≡ bundle
    pub ground_is : ground_of (plans_of chain) ≡ basis

  -- by serial, the chains of each generation serve by its bundle
  abbrev pub AreFilledBy : List Bundle → Ground → List (List (Chain B E b e)) → Type 0
  AreFilledBy [] basis [] = Unit {0}
  AreFilledBy [] basis (chains ∷ others) = ⊥
  AreFilledBy (bundle ∷ bundles) basis [] = ⊥
  AreFilledBy (bundle ∷ bundles) basis (chains ∷ others) =
      All (IsOf bundle basis) chains × AreFilledBy bundles basis others

  -- the chains of the last generation serve by these plans
  pub record EndsWith (filled : List (List (Chain B E b e))) (plans : PlansData) : Type 0 where
    pub earlier : List (List (Chain B E b e))
    pub chains : List (Chain B E b e)
    pub last_is : filled ≡ earlier ++ chains ∷ []
    pub serve : All (λ chain. plans_of chain ≡ plans) chains
