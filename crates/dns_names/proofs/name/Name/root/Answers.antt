use Rattle.std.proofs.Common.{◌≡◌, ℕ, List, [], arith}
use Rattle.dns_names.specs.NameLaws.{SpellsName, spells_name}
use Rattle.dns_names.proofs.name.Name.root.Goals as goal

empty : (wire : List ℕ) → wire ≡ [] → SpellsName wire []
empty wire e = spells_name wire [] e (record { each = tt; short = omega arith })

pub invariant_of-result : goal.invariant_of-result
invariant_of-result c = (empty c.new.result c.new.ensures).right

pub returns : goal.returns
returns c = (empty c.new.result c.new.ensures).view
