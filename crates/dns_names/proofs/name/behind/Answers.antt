use Rattle.std.proofs.Common.{arith}
use Rattle.dns_names.specs.Name.{labels_of}
use Rattle.dns_names.proofs.NameWalks.{has_room, moves_on, more_here}
use Rattle.dns_names.proofs.name.behind.Goals as goal

pub behind_first-rest-requires : goal.behind_first-rest-requires
behind_first-rest-requires c = has_room (labels_of c.args.wire.now) c.loop-index.index c.loop-index.rest.now c.loop-index.invariant (more_here _ _ _ c.loop-index.invariant (omega arith))

pub loop-index-preserved : goal.loop-index-preserved
loop-index-preserved c = moves_on (labels_of c.args.wire.now) c.loop-index.index c.loop-index.rest.now _ c.loop-index.invariant (more_here _ _ _ c.loop-index.invariant (omega arith)) c.behind_first-rest.ensures
