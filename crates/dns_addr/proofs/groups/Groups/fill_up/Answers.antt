use Rattle.std.proofs.Common.{arith}
use Rattle.dns_addr.proofs.ReadAddrs.{filled_up_list}
use Rattle.dns_addr.proofs.groups.Groups.fill_up.Goals as goal

pub invariant_of-self : goal.invariant_of-self
invariant_of-self c =
    let filled = filled_up_list c.self.inside.list c.back.inside.list c.copy_from_slice.new.self c.args.self.now c.args.back.now c.self.inside.count c.back.inside.count
    c.self.told c.back.told c.self.invariant.0 c.self.invariant.1 c.back.invariant.0 c.self.view_is c.back.view_is c.copy_from_slice.ensures.after c.requires in
    (omega arith, filled.full)

pub returns : goal.returns
returns c =
    (filled_up_list c.self.inside.list c.back.inside.list c.copy_from_slice.new.self c.args.self.now c.args.back.now c.self.inside.count c.back.inside.count
    c.self.told c.back.told c.self.invariant.0 c.self.invariant.1 c.back.invariant.0 c.self.view_is c.back.view_is c.copy_from_slice.ensures.after c.requires).is
