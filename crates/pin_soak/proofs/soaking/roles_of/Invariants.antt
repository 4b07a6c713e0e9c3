use Rattle.std.specs.Vec.{vec_len}
use Rattle.std.specs.List.{All}
use Rattle.pin_table.specs.{ArePasses, id_of}
use Rattle.pin_soak.specs.Roles.{IsRole}
use Rattle.pin_soak.proofs.soaking.roles_of.Given as goal

abbrev pub invariant-loop-worker : goal.invariant-loop-worker
invariant-loop-worker l = All (IsRole l.table) l.roles.items × ArePasses (id_of l.table) 1 l.passes.items

abbrev pub decreases-loop-worker : goal.decreases-loop-worker
decreases-loop-worker l = vec_len l.passes
