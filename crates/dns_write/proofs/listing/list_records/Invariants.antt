use Rattle.std.proofs.Common.{ℕ, List, take}
use Rattle.dns_write.specs.Tails.{AreListed, AsksRecords, Lacks}
use Rattle.dns_write.proofs.listing.list_records.Given as goal

abbrev pub invariant-loop-entry : goal.invariant-loop-entry
invariant-loop-entry l = record {
  listed : AsksRecords (AreListed l.labels) (take l.entry-index l.records);
  kept : (label : List ℕ) → Lacks label l.labels → Lacks label l.fn.labels;
}
