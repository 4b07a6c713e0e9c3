use Rattle.std.proofs.Common.{◌≡◌, ◌≤◌, take}
use Rattle.std.specs.List.{AllByRecursion}
use Rattle.dns_data.specs.Record.{IsProper}
use Rattle.dns_write.specs.Timed.{all_timed}
use Rattle.dns_write.specs.Written.{size, put_records}
use Rattle.dns_write.proofs.write.put_each.Given as goal

abbrev pub invariant-loop-rr : goal.invariant-loop-rr
invariant-loop-rr g l = record {
  count : l.count ≡ l.rr-index;
  text : l.writer ≡ put_records l.fn.writer (take l.rr-index (all_timed (g.T.Ttls.ttl_of l.times) l.records));
  fits : size l.writer ≤ l.room;
  proper : AllByRecursion IsProper (take l.rr-index (all_timed (g.T.Ttls.ttl_of l.times) l.records));
}
