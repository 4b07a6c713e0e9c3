use Rattle.std.proofs.Common.{◌≡◌, drop}
use Rattle.std.specs.List.{list_any}
use Rattle.dns_data.specs.Record.{RecordData}
use Rattle.dns64_plugin.specs.Dns64.{is_a}
use Rattle.dns64_plugin.proofs.replying.has_a.Given as goal

abbrev pub invariant-loop-entry : goal.invariant-loop-entry
invariant-loop-entry l =
    list_any (λ (r : RecordData). is_a r.rdata) (drop l.entry-index l.records) ≡ list_any (λ (r : RecordData). is_a r.rdata) l.records
