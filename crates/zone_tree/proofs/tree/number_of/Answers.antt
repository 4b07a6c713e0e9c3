use Rattle.zone_tree.proofs.Filling.{numbered}
use Rattle.zone_tree.proofs.tree.number_of.Goals as goal

pub returns : goal.returns
returns c = numbered c.args.table.now c.find.result c.labels.result c.args.name.now c.labels.ensures c.find.ensures.found c.find.ensures.none
