use Rattle.std.proofs.Common.{arith}
use Rattle.dns_data.specs.Record.{CharString}
use Rattle.dns_wire.proofs.Cursors.{string_missed}
use Rattle.dns_wire.proofs.cursor.Cursor.string.Goals as goal

pub returns-in_default : goal.returns-in_default
returns-in_default c = string_missed {f = CharString c.new.result} (omega arith) (omega arith) c.in_default.ensures
