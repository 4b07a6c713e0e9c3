use Rattle.std.proofs.Common.{◌≡◌, ◌<◌, ◌^◌, drop}
use Rattle.dns64_plugin.specs.Dns64.{least_ttl}
use Rattle.dns64_plugin.proofs.replying.least_ttl.Given as goal

abbrev pub invariant-loop-entry : goal.invariant-loop-entry
invariant-loop-entry l = record {
  least : least_ttl l.found (drop l.entry-index l.records) ≡ least_ttl l.fn.least l.records;
  small : l.found < 2 ^ 31;
}
