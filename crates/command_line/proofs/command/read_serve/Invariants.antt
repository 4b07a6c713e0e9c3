use Rattle.std.proofs.Common.{length}
use Rattle.command_line.proofs.Options.{HasRead}
use Rattle.command_line.proofs.command.read_serve.Given as goal

abbrev pub invariant-loop-rest : goal.invariant-loop-rest
invariant-loop-rest l = HasRead l.fn.words l.rest l.given

abbrev pub decreases-loop-rest : goal.decreases-loop-rest
decreases-loop-rest l = length l.rest
