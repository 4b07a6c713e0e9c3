use Rattle.std.proofs.Common.{◌≡◌, ◌≤◌, ◌-◌, ◌++◌, [], length}
use Rattle.dns_names.specs.Name.{IsName, spelled}
use Rattle.dns_write.specs.Tails.{anchor_suffixes}
use Rattle.dns_write.proofs.layout.Layout.behind.Given as goal

abbrev pub invariant-loop-label : goal.invariant-loop-label
invariant-loop-label l = record {
  suffix : l.suffix ≡ spelled l.labels;
  proper : IsName l.labels;
  inside : length l.suffix ≤ length l.wire;
  text : l.layout.text ≡ [];
  spots : l.layout.spots ≡ [];
  placed : l.layout.placed ++ anchor_suffixes (length l.wire - length l.suffix) l.labels ≡ anchor_suffixes 0 l.anchor;
}

abbrev pub decreases-loop-label : goal.decreases-loop-label
decreases-loop-label l = length l.labels
