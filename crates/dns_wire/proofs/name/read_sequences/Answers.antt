use Rattle.std.proofs.Common.{rules, arith}
use Rattle.dns_wire.proofs.Reading.{fails}
use Rattle.dns_wire.proofs.Joining.{is_known, whole_is, joins}
use Rattle.dns_wire.proofs.Names.{then, sequence_size, too_far, ends, jumps, no_name, no_sequence, name_inside}
use Rattle.dns_wire.proofs.name.read_sequences.Goals as goal

pub returns-in_default-clause-spelt : goal.returns-in_default-clause-spelt
returns-in_default-clause-spelt c = λ found h. no_sequence c.loop-end.invariant.so_far c.in_default.ensures.none found.0 found.1 h.proper h.spelt

pub returns-then-wire_len-end-gt-NAME_BYTES-clause-spelt : goal.returns-then-wire_len-end-gt-NAME_BYTES-clause-spelt
returns-then-wire_len-end-gt-NAME_BYTES-clause-spelt c = λ found h.
    let sequence = c.in-Some.ensures.found in
    too_far (then c.loop-end.invariant.so_far sequence.so_far) (omega (arith, sequence_size c.args.bytes.now c.loop-end.start c.in-Some.end sequence c.loop-end.name)) found.0 found.1 h.proper h.spelt

pub returns-then-bytes-end-eq0-clause-spelt : goal.returns-then-bytes-end-eq0-clause-spelt
returns-then-bytes-end-eq0-clause-spelt c =
    let sequence = c.in-Some.ensures.found in
    let far = ends (then c.loop-end.invariant.so_far sequence.so_far) sequence.inside c.if-bytes-end-eq0.true in
    record { proper = c.wire_len-then-bytes-end-eq0.ensures.proper; spelt = rw (c.in_ok-append.ensures.ok, c.unwrap_or.ensures) far }

pub returns-then-bytes-end-eq0-clause-inside : goal.returns-then-bytes-end-eq0-clause-inside
returns-then-bytes-end-eq0-clause-inside c =
    let sequence = c.in-Some.ensures.found in
    let far = ends (then c.loop-end.invariant.so_far sequence.so_far) sequence.inside c.if-bytes-end-eq0.true in
    rw c.unwrap_or.ensures (name_inside far)

pub returns-in_default-target_at-clause-spelt : goal.returns-in_default-target_at-clause-spelt
returns-in_default-target_at-clause-spelt c = λ found h.
    let sequence = c.in-Some.ensures.found in
    no_name (then c.loop-end.invariant.so_far sequence.so_far) (λ zero. c.if-bytes-end-eq0.false zero.is) sequence.stops c.in_default-target_at.ensures.none found.0 found.1 h.spelt

pub returns-in_err-joined-clause-spelt : goal.returns-in_err-joined-clause-spelt
returns-in_err-joined-clause-spelt c =
    let far = c.in-Some-target_at.ensures in
    let step = jumps (then c.loop-end.invariant.so_far c.in-Some.ensures.found.so_far) far.found far.low far.less c.loop-end.invariant.inside in
    let here = is_known c.loop-end.known c.loop-end.invariant.known c.in-Some-find.ensures in
    fails c.in_err-joined.field-0.0 c.in_err-joined.ensures c.from_residual-in_err-joined.result c.from_residual-in_err-joined.ensures.1
    (λ found h. (found.0, rw c.in_ok-append.ensures.ok (whole_is step here.1 found.0 found.1 h)))

pub returns-in-Some-find-clause-spelt : goal.returns-in-Some-find-clause-spelt
returns-in-Some-find-clause-spelt c =
    let far = c.in-Some-target_at.ensures in
    let step = jumps (then c.loop-end.invariant.so_far c.in-Some.ensures.found.so_far) far.found far.low far.less c.loop-end.invariant.inside in
    let here = is_known c.loop-end.known c.loop-end.invariant.known c.in-Some-find.ensures in
    let whole = rw c.in_ok-append.ensures.ok at c.in_ok-joined.ensures in
    rw c.unwrap_or-after.ensures (joins step here.1 whole)

pub returns-in-Some-find-clause-inside : goal.returns-in-Some-find-clause-inside
returns-in-Some-find-clause-inside c =
    let far = c.in-Some-target_at.ensures in
    let step = jumps (then c.loop-end.invariant.so_far c.in-Some.ensures.found.so_far) far.found far.low far.less c.loop-end.invariant.inside in
    let here = is_known c.loop-end.known c.loop-end.invariant.known c.in-Some-find.ensures in
    let whole = rw c.in_ok-append.ensures.ok at c.in_ok-joined.ensures in
    rw c.unwrap_or-after.ensures (name_inside (joins step here.1 whole).spelt)

pub loop-end-preserved : goal.loop-end-preserved
loop-end-preserved c =
    let far = c.in-Some-target_at.ensures in
    let step = jumps (then c.loop-end.invariant.so_far c.in-Some.ensures.found.so_far) far.found far.low far.less c.loop-end.invariant.inside in
    record {
      so_far = rw (c.in_ok-append.ensures.ok, c.unwrap_or-after.ensures) step;
      inside = omega (arith, c.loop-end.invariant.inside, c.in-Some-target_at.ensures.less);
      known = search rules;
    }
