use Rattle.std.proofs.Common.{◌≡◌, ◌++◌, drop}
use Rattle.corefile_blocks.specs.Blocks.{texts}
use Rattle.corefile_blocks.proofs.parts.texts.Given as goal

abbrev pub invariant-loop-word : goal.invariant-loop-word
invariant-loop-word l = l.made ++ texts (drop l.word-index l.words) ≡ texts l.words
