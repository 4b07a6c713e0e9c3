use Rattle.std.proofs.Common.{◌≡◌, ◌<◌, ◌≤◌, ◌-◌, ◌∷◌, drop, length}
use Rattle.dns_names.specs.Name.{IsName, spelled}
use Rattle.dns_write.proofs.plan.label_above.Given as goal

abbrev pub invariant-loop-rest : goal.invariant-loop-rest
invariant-loop-rest l = record {
  rest : l.rest ≡ spelled l.labels;
  proper : IsName l.labels;
  end : l.end ≡ spelled l.anchor;
  inside : l.count ≤ length l.name;
  left : drop l.count l.name ≡ l.labels;
  last : 0 < l.count → drop (l.count - 1) l.name ≡ l.above ∷ l.labels;
}

abbrev pub decreases-loop-rest : goal.decreases-loop-rest
decreases-loop-rest l = length l.labels
