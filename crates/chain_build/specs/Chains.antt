-- The chains of a bundle. This server's own rule.
use Rattle.std.specs.Prelude.{◌≡◌, ◌<◌, ℕ, ◌+◌, ◌^◌, List, length, map, Option}
use Rattle.std.specs.Prelude.{Result, Ok, Err}
use Rattle.std.specs.List.{All}
use Rattle.dns_data.specs.declared.block.Block.{Block}
use Rattle.dns_data.specs.declared.file.FileText.{FileText}
use Rattle.corefile_blocks.specs.declared.bundle.Bundle.{Bundle}
use Rattle.block_readings.specs.Behind.{block_behind}
use Rattle.pattern_judging.specs.{IsFault, IsWell}
use Rattle.plugin_api.specs.{Sayings, Takings}
use Rattle.chain_meaning.specs.Accepting.{IsAccepted, IsRefusedWith, block_task, blocks_task}
use Rattle.chain_meaning.specs.Accepting.{patterns_in, told}
use Rattle.chain_meaning.specs.Steps.{block_extras, steps_of}
use Rattle.chain_meaning.specs.Grounds.{Brought, Ground, Terms, terms_on}
use Rattle.chain_build.specs.declared.checking.Made.{Made}
use Rattle.chain_build.specs.declared.checking.ReadBundle.{ReadBundle}
use Rattle.chain_build.specs.declared.block.BlockChain.{BlockChain}
use Rattle.chain_build.specs.declared.fault.CheckFault.{CheckFault}
use Rattle.chain_build.specs.declared.fault.CheckFault.TheVariants as fault
use Rattle.chain_build.specs.Places.{AreTaken}
use Rattle.chain_build.specs.Plans.{ArePlans, PlansData, behind_of, block_cache, cache_in}
use Rattle.chain_build.specs.Plans.{extras_in, ground_of, steps_in}

-- the extras of a chain take its directives
abbrev pub HasTaken : Takings → BlockChain → Type 0
HasTaken taken chain = AreTaken taken chain.extras

-- a block of a bundle with these files, behind so many patterns, makes this chain, and so many
-- stand behind it
pub record IsChain (brought : Brought) (patterns : ℕ) (files : List FileText) (block : Block)
    (made : Made) : Type 0 where
  pub well : IsWell (block_task brought patterns files block)
  pub steps : (said : Sayings) → steps_in said made.chain ≡ steps_of said files block
  pub behind : behind_of made.chain ≡ block_behind files block
  pub cached : made.chain.cache ≡ block_cache block
  pub extras : made.chain.extras ≡ block_extras block
  pub taken : HasTaken brought.taken made.chain
  pub count : made.patterns ≡ patterns + length (patterns_in block.directives)

-- what a block makes, where the maker refused this text last
abbrev pub MakesBlock : Brought → ℕ → List FileText → Block → Option (List ℕ)
    → Result Made CheckFault → Type 0
MakesBlock brought patterns files block last (Ok made) =
    IsChain brought patterns files block made
MakesBlock brought patterns files block last (Err (fault.Refused why)) =
    IsFault told (block_task brought patterns files block) last why
MakesBlock brought patterns files block last (Err fault.NoMemory) = Unit {0}

-- these chains are those of blocks
pub record AreChains (taken : Takings) (files : List FileText) (blocks : List Block)
    (chains : List BlockChain) : Type 0 where
  pub steps : (said : Sayings) → map (steps_in said) chains ≡ map (steps_of said files) blocks
  pub behind : map behind_of chains ≡ map (block_behind files) blocks
  pub cached : map cache_in chains ≡ map block_cache blocks
  pub extras : map extras_in chains ≡ map block_extras blocks
  pub taken_are : All (HasTaken taken) chains

-- what blocks make, where the maker refused this text last
abbrev pub MakesBlocks : Brought → List FileText → List Block → Option (List ℕ)
    → Result (List BlockChain) CheckFault → Type 0
MakesBlocks brought files blocks last (Ok chains) =
    IsWell (blocks_task brought 0 files blocks) × AreChains brought.taken files blocks chains
MakesBlocks brought files blocks last (Err (fault.Refused why)) =
    IsFault told (blocks_task brought 0 files blocks) last why
MakesBlocks brought files blocks last (Err fault.NoMemory) = Unit {0}

-- what is read of a bundle: its blocks, and the chain of each
pub record IsRead (bundle : Bundle) (terms : Terms) (read : ReadBundle) : Type 0 where
  pub accepted : IsAccepted terms bundle read.blocks
  pub few : length read.blocks < 2 ^ 32
  pub chains : AreChains terms.brought.taken bundle.files read.blocks read.chains

-- what is read of a bundle, or why it is refused, where the maker refused this text last
abbrev pub ReadsBundle : Bundle → Terms → Option (List ℕ) → Result ReadBundle CheckFault → Type 0
ReadsBundle bundle terms last (Ok read) = IsRead bundle terms read
ReadsBundle bundle terms last (Err (fault.Refused why)) = IsRefusedWith terms bundle last why
ReadsBundle bundle terms last (Err fault.NoMemory) = Unit {0}

-- what a bundle makes on this basis
pub record IsMade (taken : Takings) (said : Sayings) (bundle : Bundle) (basis : Ground)
    (plans : PlansData) : Type 0 where
  pub bundle_is : plans.bundle ≡ bundle
  pub ground_is : ground_of plans ≡ basis
  pub are : ArePlans taken said plans

-- what a bundle makes, or why it is refused, where the maker refused this text last
abbrev pub MakesPlans : Takings → Sayings → Bundle → Ground → Option (List ℕ)
    → Result PlansData CheckFault → Type 0
MakesPlans taken said bundle basis last (Ok plans) = IsMade taken said bundle basis plans
MakesPlans taken said bundle basis last (Err (fault.Refused why)) =
    IsRefusedWith (terms_on taken said basis) bundle last why
MakesPlans taken said bundle basis last (Err fault.NoMemory) = Unit {0}
