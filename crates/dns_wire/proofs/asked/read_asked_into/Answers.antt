use Rattle.std.proofs.Common.{refl, ◌∙◌}
use Rattle.dns_wire.specs.Asked.{asked_of}
use Rattle.dns_wire.proofs.asked.read_asked_into.Goals as goal

pub returns-in-Err-Bad : goal.returns-in-Err-Bad
returns-in-Err-Bad c =
    let nothing = rw c.in-Err-Bad.field-0-is at c.in-Err-Bad.ensures in
    record {
      asks = c.in_default.ensures.0;
      head_is = c.head_at.ensures;
      opcode = c.head_at.ensures.opcode ∙ c.in_default.ensures.1;
      unspelt = λ m h. nothing (asked_of m) (record { message = m; spells = h; is = refl });
    }
