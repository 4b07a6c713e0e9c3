use Rattle.std.proofs.Common.{◌≡◌, drop}
use Rattle.dns64_plugin.specs.Dns64.{soa_ttl}
use Rattle.dns64_plugin.proofs.replying.soa_ttl.Given as goal

abbrev pub invariant-loop-entry : goal.invariant-loop-entry
invariant-loop-entry l = soa_ttl (drop l.entry-index l.records) ≡ soa_ttl l.records
