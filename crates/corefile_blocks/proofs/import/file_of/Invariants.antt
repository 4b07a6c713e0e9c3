use Rattle.std.proofs.Common.{◌≡◌, drop}
use Rattle.corefile_blocks.specs.Blocks.{file_of}
use Rattle.corefile_blocks.proofs.import.file_of.Given as goal

abbrev pub invariant-loop-file : goal.invariant-loop-file
invariant-loop-file l = file_of l.name (drop l.file-index l.files) ≡ file_of l.name l.files
