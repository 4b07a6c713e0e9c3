use Rattle.std.proofs.Common.{◌≡◌, length}
use Rattle.template_plugin.specs.Pieces.{behind}
use Rattle.template_plugin.proofs.piece_read.behind.Given as goal

abbrev pub invariant-loop-wanted : goal.invariant-loop-wanted
invariant-loop-wanted l = behind l.left l.rest ≡ behind l.fn.front l.fn.text

abbrev pub decreases-loop-wanted : goal.decreases-loop-wanted
decreases-loop-wanted l = length l.left
