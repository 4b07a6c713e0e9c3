use Rattle.std.proofs.Common.{◌≡◌, length}
use Rattle.std.specs.Prelude.{◌||◌}
use Rattle.acl_plugin.specs.Lines.{some_all, some_opens}
use Rattle.acl_plugin.specs.declared.part.Part.TheVariants as part
use Rattle.acl_plugin.proofs.part.takes_all.Given as goal

abbrev pub invariant-loop-word : goal.invariant-loop-word
invariant-loop-word l = record {
  named : (l.named || some_opens l.want l.rest) ≡ some_opens l.want l.fn.words;
  all : (l.all || some_all l.want l.part l.rest) ≡ some_all l.want part.Front l.fn.words;
}

abbrev pub decreases-loop-word : goal.decreases-loop-word
decreases-loop-word l = length l.rest
