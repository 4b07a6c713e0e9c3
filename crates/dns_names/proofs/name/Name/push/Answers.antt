use Rattle.dns_names.specs.NameLaws.{pushed}
use Rattle.dns_names.proofs.name.Name.push.Goals as goal

pub invariant_of-self-2 : goal.invariant_of-self-2
invariant_of-self-2 c =
    (pushed c.self.inside.wire c.push_label.new.self c.args.label.now c.args.self.now c.self.invariant c.self.view_is c.requires.label c.requires.room c.in_ok-push_label.ensures.ok).right

pub returns-clause-ok : goal.returns-clause-ok
returns-clause-ok c =
    (pushed c.self.inside.wire c.push_label.new.self c.args.label.now c.args.self.now c.self.invariant c.self.view_is c.requires.label c.requires.room c.in_ok-push_label.ensures.ok).view
