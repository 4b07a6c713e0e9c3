use Rattle.std.proofs.Common.{length}
use Rattle.std.specs.Arc.{arc_value}
use Rattle.file_plugin.proofs.SoFar.{AreSoFar}
use Rattle.file_plugin.proofs.loading.zones_from.Given as goal

abbrev pub invariant-loop-origin : goal.invariant-loop-origin
invariant-loop-origin l = AreSoFar l.text l.origins (arc_value l.fallthrough) l.zones l.rest

abbrev pub decreases-loop-origin : goal.decreases-loop-origin
decreases-loop-origin l = length l.rest
