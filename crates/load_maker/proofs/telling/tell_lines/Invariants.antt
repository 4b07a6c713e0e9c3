use Rattle.std.proofs.Common.{take}
use Rattle.load_maker.specs.Lines.{TellsAll}
use Rattle.load_maker.proofs.telling.tell_lines.Given as goal

abbrev pub invariant-loop-line : goal.invariant-loop-line
invariant-loop-line g l = TellsAll (g.H.Host.state l.initial.host) (g.H.Host.state l.host) (take l.line-index l.lines)
