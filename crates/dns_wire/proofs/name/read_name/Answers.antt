use Rattle.dns_wire.proofs.Names.{ends}
use Rattle.dns_wire.proofs.name.read_name.Goals as goal

pub returns-clause-spelt : goal.returns-clause-spelt
returns-clause-spelt c =
    let sequence = c.in-Some.ensures.found in
    rw c.in_ok-name.ensures (record { proper = sequence.wire.proper; spelt = ends sequence.so_far sequence.inside c.if-bytes-end-ne0.false })
