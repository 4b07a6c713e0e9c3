use Rattle.std.proofs.Common.{◌≡◌, ◌++◌, length}
use Rattle.std.specs.Vec.{vec_capacity}
use Rattle.dns_server.specs.Each.{Each3}
use Rattle.dns_server.specs.Roles.{AreWorking, IsPart}
use Rattle.dns_server.proofs.roles.part.Given as goal

abbrev pub invariant-loop-role : goal.invariant-loop-role
invariant-loop-role g l = (l.fn.roles.items ≡ l.yielded ++ l.role-iterator.rest.items) × Each3 IsPart l.yielded l.dones.items l.passes.items × AreWorking l.role-iterator.rest.items
    × (vec_capacity l.dones ≡ vec_capacity l.initial.dones) × (vec_capacity l.passes ≡ vec_capacity l.initial.passes)
    × (length l.dones.items ≡ length l.yielded) × (length l.passes.items ≡ length l.yielded)
