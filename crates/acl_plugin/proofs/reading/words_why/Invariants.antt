use Rattle.std.proofs.Common.{◌≡◌, length}
use Rattle.acl_plugin.specs.Lines.{words_why}
use Rattle.acl_plugin.specs.declared.part.Part.TheVariants as part
use Rattle.acl_plugin.proofs.reading.words_why.Given as goal

abbrev pub invariant-loop-word : goal.invariant-loop-word
invariant-loop-word l = words_why l.part l.rest ≡ words_why part.Front l.fn.words

abbrev pub decreases-loop-word : goal.decreases-loop-word
decreases-loop-word l = length l.rest
