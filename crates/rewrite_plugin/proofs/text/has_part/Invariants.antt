use Rattle.std.proofs.Common.{◌≡◌, length}
use Rattle.rewrite_plugin.specs.Texts.{has_part}
use Rattle.rewrite_plugin.proofs.text.has_part.Given as goal

abbrev pub invariant-loop-behind : goal.invariant-loop-behind
invariant-loop-behind l = has_part l.part l.rest ≡ has_part l.part l.text

abbrev pub decreases-loop-behind : goal.decreases-loop-behind
decreases-loop-behind l = length l.rest
