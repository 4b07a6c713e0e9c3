use Rattle.std.proofs.Common.{◌≡◌, ◌++◌, length}
use Rattle.std.specs.List.{flat_map}
use Rattle.dns_names.specs.NameText.{label_text}
use Rattle.dns_names.proofs.name_text.put_labels.Given as goal

abbrev pub invariant-loop-label : goal.invariant-loop-label
invariant-loop-label l = l.text.items ++ flat_map label_text l.labels ≡ l.fn.text.items ++ flat_map label_text l.fn.labels

abbrev pub decreases-loop-label : goal.decreases-loop-label
decreases-loop-label l = length l.labels
