use Rattle.std.proofs.Common.{length}
use Rattle.dns_names.proofs.NameWalks.{WithinSoFar}
use Rattle.dns_names.proofs.name.Name.is_within.Given as goal

abbrev pub invariant-loop-rest : goal.invariant-loop-rest
invariant-loop-rest l = WithinSoFar l.self l.zone l.rest

abbrev pub decreases-loop-rest : goal.decreases-loop-rest
decreases-loop-rest l = length l.rest
