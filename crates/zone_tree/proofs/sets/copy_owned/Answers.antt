use Rattle.zone_tree.specs.Sets.{picked}
use Rattle.zone_tree.proofs.Filling.{set_in_any, set_in_of}
use Rattle.zone_tree.proofs.sets.copy_owned.Goals as goal

pub returns-then-kind-eq-ANY : goal.returns-then-kind-eq-ANY
returns-then-kind-eq-ANY c = rw (set_in_any (picked c.args.records.now c.args.set.now) c.args.kind c.if-kind-eq-ANY.true) c.copy_all_owned.ensures

pub returns : goal.returns
returns c = rw (set_in_of (picked c.args.records.now c.args.set.now) c.args.kind c.if-kind-eq-ANY.false) c.copy_kind_owned.ensures
