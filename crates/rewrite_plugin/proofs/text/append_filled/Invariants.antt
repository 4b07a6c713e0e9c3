use Rattle.std.proofs.Common.{◌≡◌, ◌++◌, length}
use Rattle.pattern.specs.Searches.{scratch_group}
use Rattle.rewrite_plugin.specs.Texts.{filled_from}
use Rattle.rewrite_plugin.proofs.text.append_filled.Given as goal

abbrev pub invariant-loop-byte : goal.invariant-loop-byte
invariant-loop-byte l = l.out ++ filled_from (scratch_group l.scratch) l.text 0 l.rest ≡ l.fn.out ++ filled_from (scratch_group l.scratch) l.text 0 l.to

abbrev pub decreases-loop-byte : goal.decreases-loop-byte
decreases-loop-byte l = length l.rest
