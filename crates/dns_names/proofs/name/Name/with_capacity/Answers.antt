use Rattle.std.proofs.Common.{[], arith}
use Rattle.dns_names.specs.NameLaws.{spells_name}
use Rattle.dns_names.proofs.name.Name.with_capacity.Goals as goal

pub invariant_of-result : goal.invariant_of-result
invariant_of-result c = (spells_name c.in_ok-with_capacity.field-0 [] c.in_ok-with_capacity.ensures.value (record { each = tt; short = omega arith })).right

pub returns : goal.returns
returns c = (spells_name c.in_ok-with_capacity.field-0 [] c.in_ok-with_capacity.ensures.value (record { each = tt; short = omega arith })).view
