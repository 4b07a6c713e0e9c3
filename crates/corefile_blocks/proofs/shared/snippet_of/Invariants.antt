use Rattle.std.proofs.Common.{◌≡◌, drop}
use Rattle.corefile_blocks.specs.Blocks.{snippet_of}
use Rattle.corefile_blocks.proofs.shared.snippet_of.Given as goal

abbrev pub invariant-loop-snippet : goal.invariant-loop-snippet
invariant-loop-snippet l = snippet_of l.name (drop l.snippet-index l.snippets) ≡ snippet_of l.name l.snippets
