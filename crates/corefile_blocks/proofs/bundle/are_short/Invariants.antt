use Rattle.std.proofs.Common.{take}
use Rattle.std.specs.List.{All}
use Rattle.corefile_blocks.specs.Readable.{HasShortBytes}
use Rattle.corefile_blocks.proofs.bundle.are_short.Given as goal

abbrev pub invariant-loop-file : goal.invariant-loop-file
invariant-loop-file l = All HasShortBytes (take l.file-index l.files)
