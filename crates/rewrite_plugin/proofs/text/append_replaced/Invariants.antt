use Rattle.std.proofs.Common.{◌≡◌, ◌++◌, length}
use Rattle.rewrite_plugin.specs.Texts.{replaced_from}
use Rattle.rewrite_plugin.proofs.text.append_replaced.Given as goal

abbrev pub invariant-loop-byte : goal.invariant-loop-byte
invariant-loop-byte l = l.out ++ replaced_from l.part l.to 0 l.rest ≡ l.fn.out ++ replaced_from l.part l.to 0 l.text

abbrev pub decreases-loop-byte : goal.decreases-loop-byte
decreases-loop-byte l = length l.rest
