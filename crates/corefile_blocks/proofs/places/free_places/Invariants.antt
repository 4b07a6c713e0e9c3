use Rattle.corefile_blocks.specs.Places.{AreFree}
use Rattle.corefile_blocks.proofs.places.free_places.Given as goal

abbrev pub invariant-loop-made : goal.invariant-loop-made
invariant-loop-made g l = AreFree l.places.items l.made
