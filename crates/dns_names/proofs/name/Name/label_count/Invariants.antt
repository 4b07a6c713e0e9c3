use Rattle.std.proofs.Common.{length}
use Rattle.dns_names.specs.Name.{Rest}
use Rattle.dns_names.proofs.name.Name.label_count.Given as goal

abbrev pub invariant-loop-rest : goal.invariant-loop-rest
invariant-loop-rest l = Rest l.self l.count l.rest

abbrev pub decreases-loop-rest : goal.decreases-loop-rest
decreases-loop-rest l = length l.rest
