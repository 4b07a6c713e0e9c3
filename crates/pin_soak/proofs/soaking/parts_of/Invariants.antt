use Rattle.std.specs.Vec.{vec_len}
use Rattle.std.specs.List.{All}
use Rattle.pin_table.specs.{id_of}
use Rattle.pin_soak.specs.Roles.{IsRole, AreHome}
use Rattle.pin_soak.proofs.soaking.parts_of.Given as goal

abbrev pub invariant-loop-role : goal.invariant-loop-role
invariant-loop-role l = All (IsRole l.table) l.roles.items × AreHome (id_of l.table) l.passes.items

abbrev pub decreases-loop-role : goal.decreases-loop-role
decreases-loop-role l = vec_len l.roles
