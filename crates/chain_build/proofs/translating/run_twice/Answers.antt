use Rattle.std.proofs.Common.{refl, ◌∙◌, sym}
use Rattle.chain_build.specs.Plans.{run_of}
use Rattle.chain_build.specs.Walking.{decided, decision_of}
use Rattle.chain_build.proofs.LoggedCalls.{run_as, second_fails, second_stands, second_starved, second_takes, twice_fails, twice_takes}
use Rattle.chain_build.proofs.Walks.{decided-err}
use Rattle.chain_build.proofs.translating.run_twice.Goals as goal

-- the first run has no memory
pub returns-in_err-ended-clause-takes : goal.returns-in_err-ended-clause-takes
returns-in_err-ended-clause-takes g c =
    let chain = c.args.at.chain.now in
    let q = c.args.walk.now.query.now in
    let steps = run_of (g.X.Extras.says c.args.extras.now) chain in
    twice_fails steps c.args.at.plan.now q c.requires.both (decided c.from_residual.result _) (decided-err c.from_residual.result _ c.from_residual.ensures.0)
    (run_as chain c.as_slice-middle.result.now q c.as_slice-middle.ensures refl c.in_err-ended.ensures.takes)

-- the first decision stands
pub returns-in_default-clause-takes : goal.returns-in_default-clause-takes
returns-in_default-clause-takes g c =
    let chain = c.args.at.chain.now in
    let q = c.args.walk.now.query.now in
    let steps = run_of (g.X.Extras.says c.args.extras.now) chain in
    let v = decision_of c.in_ok-ended.ended c.run_owned.new.room.plugins.slot in
    twice_takes steps c.args.at.plan.now q c.requires.both (run_as chain c.as_slice-middle.result.now q c.as_slice-middle.ensures refl c.in_ok-ended.ensures.takes)
    (second_stands steps c.args.at.plan.now q v (sym c.bound_behind.ensures.value ∙ c.in_default.is))

-- no memory for the second query
pub returns-in_err-a_query-clause-takes : goal.returns-in_err-a_query-clause-takes
returns-in_err-a_query-clause-takes g c =
    let chain = c.args.at.chain.now in
    let q = c.args.walk.now.query.now in
    let steps = run_of (g.X.Extras.says c.args.extras.now) chain in
    let v = decision_of c.in_ok-ended.ended c.run_owned.new.room.plugins.slot in
    twice_takes steps c.args.at.plan.now q c.requires.both (run_as chain c.as_slice-middle.result.now q c.as_slice-middle.ensures refl c.in_ok-ended.ensures.takes)
    (second_starved steps c.args.at.plan.now q v c.in-Some.bound (decided c.from_residual-in_err-a_query.result _) (sym c.bound_behind.ensures.value ∙ c.in-Some.is)
    (decided-err c.from_residual-in_err-a_query.result _ c.from_residual-in_err-a_query.ensures.0))

-- the second run has no memory
pub returns-in_err-other-clause-takes : goal.returns-in_err-other-clause-takes
returns-in_err-other-clause-takes g c =
    let chain = c.args.at.chain.now in
    let q = c.args.walk.now.query.now in
    let steps = run_of (g.X.Extras.says c.args.extras.now) chain in
    let v = decision_of c.in_ok-ended.ended c.run_owned.new.room.plugins.slot in
    twice_takes steps c.args.at.plan.now q c.requires.both (run_as chain c.as_slice-middle.result.now q c.as_slice-middle.ensures refl c.in_ok-ended.ensures.takes)
    (second_fails steps c.args.at.plan.now q v c.a_query.new.second c.in-Some.bound (decided c.from_residual-in_err-other.result _) (sym c.bound_behind.ensures.value ∙ c.in-Some.is) c.in_ok-a_query.ensures
    (decided-err c.from_residual-in_err-other.result _ c.from_residual-in_err-other.ensures.0)
    (run_as chain c.as_slice-middle.result.now c.a_query.new.second c.as_slice-middle.ensures c.in_ok-ended.ensures.stays c.in_err-other.ensures.takes))

-- both runs
pub returns-clause-takes : goal.returns-clause-takes
returns-clause-takes g c =
    let chain = c.args.at.chain.now in
    let q = c.args.walk.now.query.now in
    let steps = run_of (g.X.Extras.says c.args.extras.now) chain in
    let v = decision_of c.in_ok-ended.ended c.run_owned.new.room.plugins.slot in
    twice_takes steps c.args.at.plan.now q c.requires.both (run_as chain c.as_slice-middle.result.now q c.as_slice-middle.ensures refl c.in_ok-ended.ensures.takes)
    (second_takes steps c.args.at.plan.now q v c.a_query.new.second c.in-Some.bound (decision_of c.in_ok-other.other c.run_owned-2.new.room.plugins.slot) c.combine_reply.result c.combine_reply.new.room.walk.plugins.slot
    (sym c.bound_behind.ensures.value ∙ c.in-Some.is) c.in_ok-a_query.ensures
    (run_as chain c.as_slice-middle.result.now c.a_query.new.second c.as_slice-middle.ensures c.in_ok-ended.ensures.stays c.in_ok-other.ensures.takes)
    c.combine_reply.ensures)
