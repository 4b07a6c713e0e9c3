-- Which caches serve the published generations: each block goes on with that of one of the
-- generation before which reads the same, or begins with a new one. This server's own rule.
use Rattle.std.specs.Prelude.{◌≡◌, ℕ, List, [], ◌∷◌, map}
use Rattle.std.specs.List.{All}
use Rattle.chain_build.specs.declared.chain.Chain.{Chain}
use Rattle.chain_build.specs.{ArePlans, PlansData, plans_of}
use Rattle.chain_build.specs.History.{FollowOn, no_generation}
use Rattle.chain_build.specs.Lending.{IsNamed}
use Rattle.chain_build.specs.Naming.{AreMadeFor, GenerationData, NameBlocks, plans_generation}
use Rattle.plugin_api.specs.{Sayings, Takings}
use Rattle.plugin_api.specs.declared.extra.Extra as extra
use Rattle.plugin_api.specs.declared.rulebook.Rulebook as rulebook

-- so the blocks of plans are served, behind this generation
abbrev pub NamesOn : GenerationData → ℕ → PlansData → Type 0
NamesOn before serial plans =
    NameBlocks before serial 0 (plans_generation plans).readings (plans_generation plans).named

-- the plans are their bundle's, and each chain with a cache has one, which was made for what its
-- block reads
pub record HaveCaches (taken : Takings) (said : Sayings) (plans : PlansData) : Type 0 where
  pub are : ArePlans taken said plans
  pub named : All IsNamed plans.chains
  pub made : AreMadeFor (plans_generation plans).readings (plans_generation plans).named

module _ {B E : Type 0} {b : rulebook.Ghosts B} {e : extra.Ghosts E} where
  -- by serial, the chains of each generation serve by these plans
  abbrev pub AreBy : List PlansData → List (List (Chain B E b e)) → Type 0
  AreBy [] [] = Unit {0}
  AreBy [] (chains ∷ filled) = ⊥
  AreBy (plans ∷ generations) [] = ⊥
  AreBy (plans ∷ generations) (chains ∷ filled) =
      All (λ chain. plans_of chain ≡ plans) chains × AreBy generations filled

  -- so the published generations are served
  pub record AreNamed (filled : List (List (Chain B E b e))) : Type 0 where
    pub generations : List PlansData
    pub by : AreBy generations filled
    pub have : All (HaveCaches b.taken b.said) generations
    pub names : FollowOn no_generation 0 (map plans_generation generations)
