-- The calls of what workers share in a worker's turn. This server's own rule.
use Rattle.std.specs.Prelude.{List, []}
use Rattle.outside.specs.declared.mark.Mark.{Mark}
use Rattle.one_history.specs.Shared.{calls_in}
use Rattle.run_meaning.specs.Turn.{Turn, failed, unread, replied, silenced, starved}

-- the calls of a turn
abbrev pub calls : Turn → List Mark
calls failed = []
calls unread = []
calls (replied serial d marks reply out) = calls_in marks
calls (silenced serial d marks why) = calls_in marks
calls (starved serial d marks) = calls_in marks
