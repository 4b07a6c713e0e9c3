use Rattle.std.proofs.Common.{false, refl, ap, arith}
use Rattle.dns_data.specs.Record.{NonEmpty}
use Rattle.dns_wire.specs.Cursor.{CursorData}
use Rattle.dns_wire.proofs.Cursors.{string_missed, empty_missed}
use Rattle.dns_wire.proofs.cursor.Cursor.non_empty.Goals as goal

pub returns-in_default : goal.returns-in_default
returns-in_default c = string_missed {f = NonEmpty c.new.result} (omega arith) (omega arith) c.in_default.ensures

pub returns-then-text-eq0 : goal.returns-then-text-eq0
returns-then-text-eq0 c =
    empty_missed {f = NonEmpty c.new-then-text-eq0.result} c.in-Some.text refl c.in-Some.ensures (ap (λ (v : CursorData). record v { is_sound = false }) c.self.view_is) c.if-text-eq0.true
