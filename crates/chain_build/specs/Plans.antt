-- A configuration as it serves. This server's own rule.
use Rattle.std.specs.Prelude.{◌≡◌, ◌<◌, ℕ, ◌^◌, List, [], ◌∷◌, ◌++◌, length, map, Option}
use Rattle.std.specs.List.{All}
use Rattle.dns_data.specs.declared.block.Block.{Block}
use Rattle.dns_data.specs.declared.directive.Directive.{Directive}
use Rattle.dns_data.specs.declared.query.Query.{Query}
use Rattle.corefile_blocks.specs.declared.bundle.Bundle.{Bundle}
use Rattle.corefile_blocks.specs.{ArePorts, IsReadable}
use Rattle.extra_stock.specs.{seats_in}
use Rattle.block_readings.specs.Behind.{block_behind}
use Rattle.plugin_api.specs.{IndexData, IsIndexOf, PlanData, Sayings, Takings}
use Rattle.chain_meaning.specs.Accepting.{IsAccepted}
use Rattle.chain_meaning.specs.declared.decision.Decision.{Decision}
use Rattle.chain_meaning.specs.Steps.{Step, block_extras, cache_plan, dns64_steps, key_zones}
use Rattle.chain_meaning.specs.Steps.{steps_of}
use Rattle.chain_meaning.specs.Grounds.{Ground, Terms, ground_at, terms_on}
use Rattle.chain_build.specs.declared.block.BlockChain.{BlockChain}
use Rattle.chain_build.specs.Compiled.{back_steps, head_of, inner_steps, middle_of}
use Rattle.chain_build.specs.Compiled.{others_steps, whole_by}
use Rattle.chain_build.specs.Places.{AreTaken}

-- what stands behind a chain's cache, and behind its extras
abbrev pub behind_of : BlockChain → List Step
behind_of chain = back_steps chain.rewrites chain.back

abbrev pub inner_of : BlockChain → List Step
inner_of chain = inner_steps chain.cache chain.rewrites chain.back

-- what stands in front of its extras
abbrev pub heads_in : BlockChain → List Step
heads_in chain = head_of chain.front chain.dns64 chain.middle

-- the steps of a block's chain, and its extras
abbrev pub steps_in : Sayings → BlockChain → List Step
steps_in said chain = whole_by said (heads_in chain) chain.extras (inner_of chain)

abbrev pub extras_in : BlockChain → List Directive
extras_in chain = chain.extras

-- the directive of a chain's cache, and that of a block's
abbrev pub cache_in : BlockChain → Option PlanData
cache_in chain = chain.cache

abbrev pub block_cache : Block → Option PlanData
block_cache block = cache_plan (key_zones block) block.directives

-- what stands behind its head, where all extras are one step; behind `dns64`; and behind the steps
-- that note
abbrev pub others_of : (Query → Option Decision) → BlockChain → List Step
others_of says chain = others_steps says chain.cache chain.rewrites chain.back

abbrev pub run_of : (Query → Option Decision) → BlockChain → List Step
run_of says chain = map middle_of chain.middle ++ others_of says chain

abbrev pub rest_of : (Query → Option Decision) → BlockChain → List Step
rest_of says chain = dns64_steps chain.dns64 ++ run_of says chain

-- a bundle, and what was made of it once
pub record PlansData : Type 0 where
  pub bundle : Bundle
  pub default_port : ℕ
  pub names : List (List ℕ)
  pub blocks : List Block
  pub index : IndexData
  pub chains : List BlockChain
  pub extras : List (List Directive)
  pub ports : List ℕ

-- what it was read by
abbrev pub ground_of : PlansData → Ground
ground_of plans = ground_at plans.default_port plans.names

abbrev pub terms_in : Takings → Sayings → PlansData → Terms
terms_in taken said plans = terms_on taken said (ground_of plans)

-- each of these blocks has a key
abbrev pub AreKeyed : List Block → Type 0
AreKeyed [] = Unit {0}
AreKeyed (block ∷ blocks) = (0 < length block.keys) × AreKeyed blocks

-- what was made is the bundle's
pub record ArePlans (taken : Takings) (said : Sayings) (plans : PlansData) : Type 0 where
  pub readable : IsReadable plans.bundle
  pub accepted : IsAccepted (terms_in taken said plans) plans.bundle plans.blocks
  pub keyed : AreKeyed plans.blocks
  pub index : IsIndexOf plans.index plans.blocks
  pub chains : map (steps_in said) plans.chains
      ≡ map (steps_of said plans.bundle.files) plans.blocks
  pub behind : map behind_of plans.chains
      ≡ map (block_behind plans.bundle.files) plans.blocks
  pub cached : map cache_in plans.chains ≡ map block_cache plans.blocks
  pub extras : plans.extras ≡ map extras_in plans.chains
  pub extras_are : map extras_in plans.chains ≡ map block_extras plans.blocks
  pub taken_are : All (AreTaken taken) plans.extras
  pub few : seats_in plans.extras < 2 ^ 32
  pub ports : ArePorts plans.blocks plans.ports
