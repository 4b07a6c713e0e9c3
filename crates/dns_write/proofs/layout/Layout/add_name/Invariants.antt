use Rattle.std.proofs.Common.{◌≡◌, length}
use Rattle.dns_names.specs.Name.{IsName, spelled}
use Rattle.dns_write.specs.Tails.{laid_name}
use Rattle.dns_write.proofs.layout.Layout.add_name.Given as goal

abbrev pub invariant-loop-label : goal.invariant-loop-label
invariant-loop-label l = record {
  suffix : l.suffix ≡ spelled l.labels;
  proper : IsName l.labels;
  whole : laid_name l.self l.labels ≡ laid_name l.fn.self l.name;
}

abbrev pub decreases-loop-label : goal.decreases-loop-label
decreases-loop-label l = length l.labels
