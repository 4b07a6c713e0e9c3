use Rattle.std.proofs.Common.{arith}
use Rattle.zone_lookup.specs.Zone.{is_at}
use Rattle.zone_lookup.proofs.PlainList.{sorts, sorted_all}
use Rattle.zone_lookup.proofs.plain.copy_all.Goals as goal

pub loop-record-preserved : goal.loop-record-preserved
loop-record-preserved c =
    sorts (is_at c.args.name.now) c.loop-record.sorted.items _ c.args.records.now _ c.loop-record.record-index c.record-item.result c.loop-record.invariant (omega arith) c.record-item.is
    c.in_ok-place_at.ensures

pub returns-clause-ok : goal.returns-clause-ok
returns-clause-ok c =
    let all = sorted_all (is_at c.args.name.now) c.loop-record.sorted.items c.args.records.now _ c.loop-record.record-index c.loop-record.invariant (omega arith) in
    rw (c.as_slice.ensures.value, all) at c.append.ensures.ok
