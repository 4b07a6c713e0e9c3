use Rattle.std.proofs.Common.{◌≡◌, drop}
use Rattle.dns_write.specs.Tails.{laid_records}
use Rattle.dns_write.proofs.layout.Layout.add_records.Given as goal

abbrev pub invariant-loop-entry : goal.invariant-loop-entry
invariant-loop-entry l = laid_records l.self (drop l.entry-index l.records) ≡ laid_records l.fn.self l.records
