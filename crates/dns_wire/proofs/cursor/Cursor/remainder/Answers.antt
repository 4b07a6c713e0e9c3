use Rattle.std.proofs.Common.{refl}
use Rattle.dns_wire.proofs.Cursors.{remains, from_view}
use Rattle.dns_wire.proofs.cursor.Cursor.remainder.Goals as goal

pub returns : goal.returns
returns c = from_view c.self.view_is (remains refl c.self.invariant.0 c.self.invariant.1 c.in_ok-text.ensures)
