use Rattle.dns_names.specs.Name.{Rest, labels_of}
use Rattle.dns_names.proofs.name.behind.Given as goal

abbrev pub invariant-loop-index : goal.invariant-loop-index
invariant-loop-index l = Rest (labels_of l.wire) l.index l.rest
