use Rattle.dns_names.specs.NameLaws.{appended}
use Rattle.dns_names.proofs.name.Name.append.Goals as goal

pub invariant_of-self-2 : goal.invariant_of-self-2
invariant_of-self-2 c =
    (appended c.self.inside.wire c.extend.new.self c.args.wire.now c.args.self.now c.self.invariant c.self.view_is c.requires.labels c.requires.room c.in_ok-extend.ensures.ok).right

pub returns-clause-ok : goal.returns-clause-ok
returns-clause-ok c =
    (appended c.self.inside.wire c.extend.new.self c.args.wire.now c.args.self.now c.self.invariant c.self.view_is c.requires.labels c.requires.room c.in_ok-extend.ensures.ok).view
