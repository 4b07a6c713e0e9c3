use Rattle.dns_names.specs.NameLaws.{spells_name}
use Rattle.dns_names.proofs.labels.Labels.of.Goals as goal

pub invariant_of-result : goal.invariant_of-result
invariant_of-result c = (spells_name c.as_wire.result.now c.args.name.now c.as_wire.ensures.value c.as_wire.ensures.proper).right

pub returns : goal.returns
returns c = (spells_name c.as_wire.result.now c.args.name.now c.as_wire.ensures.value c.as_wire.ensures.proper).view
