use Rattle.zone_tree.proofs.Glue.{meet_none}
use Rattle.zone_tree.proofs.ready.meets.Goals as goal

pub returns-then-others-eq0 : goal.returns-then-others-eq0
returns-then-others-eq0 c = meet_none c.args.others.now c.args.records.now c.if-others-eq0.true
