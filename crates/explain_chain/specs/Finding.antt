-- Which block a query is for, with its chain as it runs. This server's own rule.
use Rattle.std.specs.Prelude.{◌≡◌, ℕ, Some, slice_get}
use Rattle.dns_data.specs.declared.block.Block.{Block}
use Rattle.dns_data.specs.declared.query.Query.{Query}
use Rattle.plugin_api.specs.{Sayings}
use Rattle.chain_build.specs.Plans.{PlansData, steps_in}
use Rattle.chain_build.specs.declared.block.BlockChain.{BlockChain}
use Rattle.chain_build.specs.declared.held.Held.{Held}
use Rattle.chain_meaning.specs.Serving.{block_of}
use Rattle.chain_meaning.specs.Steps.{steps_of}

-- the block that a query is for, and its chain, which has this number
pub record IsFound (said : Sayings) (plans : PlansData) (q : Query) (number : ℕ) (block : Block)
    (chain : BlockChain) : Type 0 where
  pub is : block_of plans.blocks q ≡ Some block
  pub steps : steps_in said chain ≡ steps_of said plans.bundle.files block
  pub extras : slice_get plans.extras number ≡ Some chain.extras

-- what a chain has for itself, as it was
pub record AsHeld {B E : Type 0} (old new : Held B E) : Type 0 where
  pub serial : new.serial ≡ old.serial
  pub worker : new.worker ≡ old.worker
  pub seats : new.seats.items ≡ old.seats.items
  pub uses : new.uses ≡ old.uses
