use Rattle.std.proofs.Common.{◌≡◌, ◌++◌, length}
use Rattle.std.specs.Vec.{vec_capacity}
use Rattle.pin_table.specs.{id_of}
use Rattle.dns_server.specs.Roles.{AreStarting}
use Rattle.dns_server.proofs.Starting.{PassesFrom}
use Rattle.dns_server.proofs.roles.push_workers.Given as goal

abbrev pub invariant-loop-side : goal.invariant-loop-side
invariant-loop-side g l = (l.fn.sides.items ≡ l.yielded ++ l.side-iterator.rest.items) × (length l.passes.items ≡ length l.side-iterator.rest.items)
    × PassesFrom (id_of l.table) (length l.yielded) l.passes.items × AreStarting l.table 0 l.yielded l.roles.items
    × (vec_capacity l.roles ≡ vec_capacity l.initial.roles) × (vec_capacity l.passes ≡ vec_capacity l.initial.passes)
