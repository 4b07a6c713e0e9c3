use Rattle.std.proofs.Common.{arith}
use Rattle.dns_wire.proofs.Names.{ends, no_name}
use Rattle.dns_wire.proofs.name.read_first_name.Goals as goal

pub returns-then-bytes-end-ne0-clause-spelt : goal.returns-then-bytes-end-ne0-clause-spelt
returns-then-bytes-end-ne0-clause-spelt c = λ found h.
    let sequence = c.in-Some.ensures.found in
    no_name sequence.so_far (λ zero. c.if-bytes-end-ne0.true zero.is) sequence.stops (λ t p low less. omega (arith, c.requires.first)) found.0 found.1 h.spelt

pub returns-clause-spelt : goal.returns-clause-spelt
returns-clause-spelt c =
    let sequence = c.in-Some.ensures.found in
    rw c.in_ok-set_wire.ensures.ok (record { proper = sequence.wire.proper; spelt = ends sequence.so_far sequence.inside c.if-bytes-end-ne0.false })
