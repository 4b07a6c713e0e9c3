use Rattle.std.proofs.Common.{◌≡◌, ◌++◌, length}
use Rattle.acl_plugin.specs.Lines.{kinds_in}
use Rattle.acl_plugin.specs.declared.part.Part.TheVariants as part
use Rattle.acl_plugin.proofs.kinds.kinds_in.Given as goal

abbrev pub invariant-loop-word : goal.invariant-loop-word
invariant-loop-word l = l.kinds ++ kinds_in l.part l.rest ≡ kinds_in part.Front l.fn.words

abbrev pub decreases-loop-word : goal.decreases-loop-word
decreases-loop-word l = length l.rest
