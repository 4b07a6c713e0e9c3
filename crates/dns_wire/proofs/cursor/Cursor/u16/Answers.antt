use Rattle.std.proofs.Common.{refl, arith}
use Rattle.dns_data.specs.Record.{U16}
use Rattle.dns_wire.proofs.Cursors.{number_missed}
use Rattle.dns_wire.proofs.cursor.Cursor.u16.Goals as goal

pub returns-in_default : goal.returns-in_default
returns-in_default c = number_missed {f = U16 0} c.in_default.ensures (omega arith) (omega arith) refl
