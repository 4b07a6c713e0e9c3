use Rattle.std.proofs.Common.{◌≡◌, drop}
use Rattle.std.specs.List.{list_any}
use Rattle.dns_data.specs.Record.{kind_of}
use Rattle.zone_lookup.specs.Zone.{is_of}
use Rattle.zone_tree.proofs.hosts.has_like.Given as goal

abbrev pub invariant-loop-other : goal.invariant-loop-other
invariant-loop-other l = list_any (is_of l.entry.owner (kind_of l.entry.rdata)) (drop l.other-index l.others) ≡ list_any (is_of l.entry.owner (kind_of l.entry.rdata)) l.others
