use Rattle.std.proofs.Common.{[], arith}
use Rattle.dns_names.specs.NameLaws.{spells_name}
use Rattle.dns_names.proofs.name.Name.clear.Goals as goal

pub invariant_of-self : goal.invariant_of-self
invariant_of-self c = (spells_name c.clear.new.self [] c.clear.ensures (record { each = tt; short = omega arith })).right

pub returns : goal.returns
returns c = (spells_name c.clear.new.self [] c.clear.ensures (record { each = tt; short = omega arith })).view
