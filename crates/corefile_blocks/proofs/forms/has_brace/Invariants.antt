use Rattle.std.proofs.Common.{◌≡◌, drop}
use Rattle.corefile_blocks.specs.LineForms.{has_brace}
use Rattle.corefile_blocks.proofs.forms.has_brace.Given as goal

abbrev pub invariant-loop-word : goal.invariant-loop-word
invariant-loop-word l = has_brace (drop l.word-index l.words) ≡ has_brace l.words
