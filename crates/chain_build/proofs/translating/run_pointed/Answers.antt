use Rattle.std.proofs.Common.{refl}
use Rattle.chain_build.specs.Plans.{run_of}
use Rattle.chain_build.specs.Walking.{decided, decision_of}
use Rattle.chain_build.proofs.LoggedCalls.{pointed_fails, pointed_takes, run_as}
use Rattle.chain_build.proofs.Walks.{decided-err}
use Rattle.chain_build.proofs.translating.run_pointed.Goals as goal

-- the run has no memory
pub returns-in_err-ended-clause-takes : goal.returns-in_err-ended-clause-takes
returns-in_err-ended-clause-takes g c =
    let chain = c.args.at.chain.now in
    let q = c.args.walk.now.query.now in
    let steps = run_of (g.X.Extras.says c.args.extras.now) chain in
    pointed_fails steps c.args.at.plan.now q c.args.room.now.second (decided c.from_residual.result _) (decided-err c.from_residual.result _ c.from_residual.ensures.0)
    (run_as chain c.as_slice-middle.result.now c.args.room.now.second c.as_slice-middle.ensures refl c.in_err-ended.ensures.takes)

pub returns-clause-takes : goal.returns-clause-takes
returns-clause-takes g c =
    let chain = c.args.at.chain.now in
    let q = c.args.walk.now.query.now in
    let steps = run_of (g.X.Extras.says c.args.extras.now) chain in
    pointed_takes steps c.args.at.plan.now q c.args.room.now.second (decision_of c.in_ok-ended.ended c.run_owned.new.room.plugins.slot) c.point_reply.result c.point_reply.new.room.walk.plugins.slot
    (run_as chain c.as_slice-middle.result.now c.args.room.now.second c.as_slice-middle.ensures refl c.in_ok-ended.ensures.takes) c.point_reply.ensures
