use Rattle.std.proofs.Common.{◌++◌, map}
use Rattle.chain_meaning.specs.Mean.{error_noted, mean, query_noted}
use Rattle.chain_meaning.specs.MeanLaws.{error_nothing, query_nothing}
use Rattle.chain_build.specs.Compiled.{front_of}
use Rattle.chain_build.specs.LoggedWalks.{chain_runs}
use Rattle.chain_build.specs.Plans.{rest_of}
use Rattle.chain_build.specs.WalkingLaws.{front-end, front-errors, front-log}
use Rattle.chain_build.proofs.LoggedCalls.{front_calls_end, front_calls_errors, front_calls_log, tc_as, tc_fails, tc_noted}
use Rattle.chain_build.proofs.Walks.{gave-err}
use Rattle.chain_build.proofs.front.+run_front.Goals as goal

pub returns-in_default-clause-takes : goal.returns-in_default-clause-takes
returns-in_default-clause-takes g t c =
    let chain = c.args.steps.behind.now in
    let q = c.args.walk.now.query.now in
    let behind = rest_of (g.X.Extras.says c.args.extras.now) chain in
    tc_as (chain_runs behind q) _ (mean behind q) _ (front_calls_end c.args.steps.front.now behind q c.in_default.ensures.cases) (front-end c.args.steps.front.now behind q c.in_default.ensures.cases)
    c.run_dns64.ensures.takes

pub returns-in_err-given-in-Errors-clause-takes : goal.returns-in_err-given-in-Errors-clause-takes
returns-in_err-given-in-Errors-clause-takes g t c =
    let chain = c.args.steps.behind.now in
    let q = c.args.walk.now.query.now in
    let behind = rest_of (g.X.Extras.says c.args.extras.now) chain in
    let rest = map front_of c.in-Some.front.now ++ behind in
    tc_as _ _ _ _ (front_calls_errors c.in-Some.step.now c.in-Some.front.now behind q c.in-Some.ensures.cases.0 c.in-Errors.is) (front-errors c.in-Some.step.now c.in-Some.front.now behind q c.in-Some.ensures.cases.0 c.in-Errors.is)
    (tc_fails (chain_runs rest q) (mean rest q) (error_noted q) (gave-err _ c.run_front.new.room.walk.plugins.slot c.from_residual.ensures.0) c.in_err-given-in-Errors.ensures.takes (error_nothing q))

pub returns-in_ok-given-in-Errors-clause-takes : goal.returns-in_ok-given-in-Errors-clause-takes
returns-in_ok-given-in-Errors-clause-takes g t c =
    let chain = c.args.steps.behind.now in
    let q = c.args.walk.now.query.now in
    let behind = rest_of (g.X.Extras.says c.args.extras.now) chain in
    let rest = map front_of c.in-Some.front.now ++ behind in
    tc_as _ _ _ _ (front_calls_errors c.in-Some.step.now c.in-Some.front.now behind q c.in-Some.ensures.cases.0 c.in-Errors.is) (front-errors c.in-Some.step.now c.in-Some.front.now behind q c.in-Some.ensures.cases.0 c.in-Errors.is)
    (tc_noted (chain_runs rest q) (mean rest q) (error_noted q) c.in_ok-given-in-Errors.ensures.takes (c.note_error.ensures c.run_front.new.room.walk.plugins.slot))

pub returns-in_err-given-in-Log-clause-takes : goal.returns-in_err-given-in-Log-clause-takes
returns-in_err-given-in-Log-clause-takes g t c =
    let chain = c.args.steps.behind.now in
    let q = c.args.walk.now.query.now in
    let behind = rest_of (g.X.Extras.says c.args.extras.now) chain in
    let rest = map front_of c.in-Some.front.now ++ behind in
    tc_as _ _ _ _ (front_calls_log c.in-Some.step.now c.in-Some.front.now behind q c.in-Some.ensures.cases.0 c.in-Log.plan c.in-Log.is) (front-log c.in-Some.step.now c.in-Some.front.now behind q c.in-Some.ensures.cases.0 c.in-Log.plan c.in-Log.is)
    (tc_fails (chain_runs rest q) (mean rest q) (query_noted c.in-Log.plan q) (gave-err _ c.run_front-in-Log.new.room.walk.plugins.slot c.from_residual-in_err-given-in-Log.ensures.0) c.in_err-given-in-Log.ensures.takes (query_nothing c.in-Log.plan q))

pub returns-in_ok-given-in-Log-clause-takes : goal.returns-in_ok-given-in-Log-clause-takes
returns-in_ok-given-in-Log-clause-takes g t c =
    let chain = c.args.steps.behind.now in
    let q = c.args.walk.now.query.now in
    let behind = rest_of (g.X.Extras.says c.args.extras.now) chain in
    let rest = map front_of c.in-Some.front.now ++ behind in
    tc_as _ _ _ _ (front_calls_log c.in-Some.step.now c.in-Some.front.now behind q c.in-Some.ensures.cases.0 c.in-Log.plan c.in-Log.is) (front-log c.in-Some.step.now c.in-Some.front.now behind q c.in-Some.ensures.cases.0 c.in-Log.plan c.in-Log.is)
    (tc_noted (chain_runs rest q) (mean rest q) (query_noted c.in-Log.plan q) c.in_ok-given-in-Log.ensures.takes c.note_query.ensures)
