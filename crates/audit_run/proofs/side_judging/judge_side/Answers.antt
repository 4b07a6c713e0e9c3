use Rattle.audit_run.specs.WalksLaws.{tells_place}
use Rattle.audit_run.proofs.Unworked.{tells_worker}
use Rattle.audit_run.proofs.side_judging.judge_side.Goals as goal

pub returns-clause-tells : goal.returns-clause-tells
returns-clause-tells g c =
    tells_worker (g.M.TurnMeaning.serves c.args.meaning.now) c.args.most c.args.end
    c.args.marks.now c.walk_along.result c.walk_along.ensures

pub returns-clause-place : goal.returns-clause-place
returns-clause-place g c =
    tells_place (g.M.TurnMeaning.serves c.args.meaning.now) c.args.most c.args.end
    c.args.marks.now c.walk_along.result c.walk_along.ensures
