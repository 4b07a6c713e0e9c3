use Rattle.std.proofs.Common.{refl}
use Rattle.dns_wire.specs.Records.{no_more}
use Rattle.dns_wire.proofs.section.read_section.Goals as goal

pub returns-then-count-eq0-clause-spelt : goal.returns-then-count-eq0-clause-spelt
returns-then-count-eq0-clause-spelt c = rw c.new.ensures (no_more c.if-count-eq0.true refl)
