use Rattle.corefile_blocks.specs.Seeking.{Seeks}
use Rattle.corefile_blocks.proofs.seeking.Seeker.next.Given as goal

abbrev pub invariant-loop-name : goal.invariant-loop-name
invariant-loop-name l = Seeks l.bundle l.self

abbrev pub decreases-loop-name : goal.decreases-loop-name
decreases-loop-name l = l.self.left
