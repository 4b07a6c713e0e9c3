use Rattle.chain_meaning.specs.CallsByRun.{numbers_in}
use Rattle.chain_build.specs.Plans.{inner_of}
use Rattle.chain_build.specs.Giving.{gave}
use Rattle.chain_build.proofs.LoggedWalks.{others_go_by}
use Rattle.chain_build.proofs.Walks.{said_none}
use Rattle.chain_build.proofs.front.run_others.Goals as goal

pub returns-in-None-clause-takes : goal.returns-in-None-clause-takes
returns-in-None-clause-takes g c =
    let q = c.args.walk.now.query.now in
    let steps = inner_of c.args.chain.now in
    others_go_by (numbers_in steps q) (g.X.Extras.says c.args.extras.now) steps q (gave c.run_inner.result c.run_inner.new.room.plugins.slot) _ _
    (said_none (g.X.Extras.says c.args.extras.now) q c.args.room.now.plugins.slot c.answer.new.slot c.in_ok-ended.ensures.said c.in-None.is) c.run_inner.ensures.takes
