use Rattle.std.proofs.Common.{◌≡◌, drop}
use Rattle.zone_file.specs.Zones.{HasTtls, records_from, zone_in}
use Rattle.zone_file.proofs.read.records_in.Given as goal

abbrev pub invariant-loop-entry : goal.invariant-loop-entry
invariant-loop-entry l = record {
  says : records_from l.origin l.end l.reading l.kept (drop l.entry-index l.entries) ≡ zone_in l.origin l.end l.entries;
  ttls : HasTtls l.reading;
}
