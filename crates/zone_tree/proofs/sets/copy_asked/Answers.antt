use Rattle.zone_tree.specs.Sets.{picked}
use Rattle.zone_tree.proofs.Filling.{set_in_any, set_in_of}
use Rattle.zone_tree.proofs.sets.copy_asked.Goals as goal

pub returns-then-kind-eq-ANY-clause-ok : goal.returns-then-kind-eq-ANY-clause-ok
returns-then-kind-eq-ANY-clause-ok c = rw (set_in_any (picked c.args.records.now c.args.set.now) c.args.kind c.if-kind-eq-ANY.true) c.copy_all.ensures.ok

pub returns-clause-ok : goal.returns-clause-ok
returns-clause-ok c = rw (set_in_of (picked c.args.records.now c.args.set.now) c.args.kind c.if-kind-eq-ANY.false) c.copy_kind.ensures.ok
