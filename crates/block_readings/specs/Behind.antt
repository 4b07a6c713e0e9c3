-- The steps behind the cache of a block, and of what a block reads.
use Rattle.std.proofs.Common.{List}
use Rattle.dns_data.specs.declared.block.Block.{Block}
use Rattle.dns_data.specs.declared.file.FileText.{FileText}
use Rattle.chain_meaning.specs.Steps.{Step, back_steps, context_of}
use Rattle.block_readings.specs.Readings.{BlockReading}

-- the steps that stand behind the cache of a block of this reading
abbrev pub steps_behind : BlockReading → List Step
steps_behind reading =
    back_steps (context_of reading.files reading.block) reading.block.directives

-- and those of a block with these files
abbrev pub block_behind : List FileText → Block → List Step
block_behind files block = back_steps (context_of files block) block.directives
