-- Making the chains of blocks one by one.
use Rattle.std.proofs.Common.{◌≡◌, ℕ, List, ◌∷◌, Option, Err}
use Rattle.dns_data.specs.declared.block.Block.{Block}
use Rattle.dns_data.specs.declared.file.FileText.{FileText}
use Rattle.pattern_judging.specs.Tasks.{Carries}
use Rattle.chain_meaning.specs.Accepting.{blocks_task, told}
use Rattle.chain_meaning.specs.AcceptingLaws.{block-refused}
use Rattle.chain_meaning.specs.Grounds.{Brought}
use Rattle.chain_build.specs.Chains.{MakesBlock, MakesBlocks}
use Rattle.chain_build.specs.declared.fault.CheckFault.{CheckFault}
use Rattle.chain_build.specs.declared.fault.CheckFault.TheVariants as fault

-- a fault of a block is one of all
pub blocks_err : (brought : Brought) (patterns : ℕ) (files : List FileText) (all rest : List Block) (block : Block) (behind : List Block) (last : Option (List ℕ)) (e : CheckFault) → rest ≡ block ∷ behind
    → Carries told (blocks_task brought patterns files rest) (blocks_task brought 0 files all) → MakesBlock brought patterns files block last (Err e) → MakesBlocks brought files all last (Err e)
blocks_err brought patterns files all rest block behind last (fault.Refused why) is on h =
    on.refused last why (rw is (block-refused brought patterns files block behind last why h))
blocks_err brought patterns files all rest block behind last fault.NoMemory is on h = tt
