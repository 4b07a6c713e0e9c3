use Rattle.dns_names.specs.NameLaws.{lowered_wire}
use Rattle.dns_names.proofs.name.Name.make_lower.Goals as goal

pub invariant_of-self : goal.invariant_of-self
invariant_of-self c = (lowered_wire c.self.inside.wire _ c.args.self.now c.self.invariant c.self.view_is c.make_lower.ensures).right

pub returns : goal.returns
returns c = (lowered_wire c.self.inside.wire _ c.args.self.now c.self.invariant c.self.view_is c.make_lower.ensures).view
