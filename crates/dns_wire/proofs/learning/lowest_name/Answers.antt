use Rattle.std.proofs.Common.{◌+◌}
use Rattle.dns_wire.proofs.Names.{ends}
use Rattle.dns_wire.proofs.Joining.{is_known}
use Rattle.dns_wire.proofs.learning.lowest_name.Goals as goal

pub returns-in-Some : goal.returns-in-Some
returns-in-Some c = rw c.in_ok-copy.ensures (is_known c.args.known.now c.requires.known c.in-Some.ensures)

pub returns : goal.returns
returns c =
    let sequence = c.in-Some-end_of_labels.ensures.found in
    (c.in-Some-end_of_labels.end + 1, rw c.in_ok-of_wire.ensures (record { proper = sequence.wire.proper; spelt = ends sequence.so_far sequence.inside c.if-bytes-end-ne0.false }))
