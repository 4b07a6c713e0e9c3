use Rattle.std.proofs.Common.{◌≡◌, [], drop}
use Rattle.zone_lookup.specs.ZoneAnswer.{with_hosts}
use Rattle.zone_tree.specs.Sets.{picked}
use Rattle.zone_tree.proofs.hosts.numbers_of.Given as goal

abbrev pub invariant-loop-record : goal.invariant-loop-record
invariant-loop-record l = with_hosts l.zone [] (picked l.zone.records l.hosts) (drop l.record-index l.servers) ≡ with_hosts l.zone [] [] l.servers
