use Rattle.std.proofs.Common.{◌≡◌, ◌-◌, length}
use Rattle.dns_names.specs.Name.{spelled}
use Rattle.dns_write.proofs.Writing.{WrittenTo}
use Rattle.dns_write.proofs.writer.Writer.put_suffixes.Given as goal

abbrev pub invariant-loop-label : goal.invariant-loop-label
invariant-loop-label l = record {
  suffix : l.suffix ≡ spelled l.labels;
  to : WrittenTo l.fn.self l.self l.name l.labels (length (spelled l.name) - length l.suffix);
}

abbrev pub decreases-loop-label : goal.decreases-loop-label
decreases-loop-label l = length l.labels
