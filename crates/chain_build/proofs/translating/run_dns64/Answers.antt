use Rattle.std.proofs.Common.{Bool, None, Some, refl, ◌∙◌, subst, sym}
use Rattle.dns64_plugin.specs.{Points}
use Rattle.chain_build.specs.Plans.{run_of}
use Rattle.chain_build.specs.Giving.{gave}
use Rattle.chain_build.proofs.Givings.{tc_result}
use Rattle.chain_build.proofs.LoggedCalls.{once_starved, once_takes, run_as, walked_none, walked_some}
use Rattle.chain_build.proofs.Walks.{gave-err}
use Rattle.chain_build.proofs.translating.run_dns64.Goals as goal

-- where it doesn't stand
pub returns-in_default-clause-takes : goal.returns-in_default-clause-takes
returns-in_default-clause-takes g c =
    let chain = c.args.chain.now in
    walked_none (g.X.Extras.says c.args.extras.now) chain c.args.walk.now.query.now c.in_default.is
    (run_as chain c.as_slice-middle.result.now c.args.walk.now.query.now c.as_slice-middle.ensures refl c.run_middle.ensures.takes)

-- twice
pub returns-then-translates-clause-takes : goal.returns-then-translates-clause-takes
returns-then-translates-clause-takes g c =
    let chain = c.args.chain.now in
    walked_some (g.X.Extras.says c.args.extras.now) chain c.args.walk.now.query.now c.in-Some.plan c.in-Some.is
    (tc_result _ _ (c.as_given.ensures c.run_twice.new.room.walk.plugins.slot) c.run_twice.ensures.takes)

-- no memory for the other name
pub returns-in_err-ptr_query-clause-takes : goal.returns-in_err-ptr_query-clause-takes
returns-in_err-ptr_query-clause-takes g c =
    let chain = c.args.chain.now in
    let q = c.args.walk.now.query.now in
    let steps = run_of (g.X.Extras.says c.args.extras.now) chain in
    walked_some (g.X.Extras.says c.args.extras.now) chain q c.in-Some.plan c.in-Some.is
    (once_starved steps c.in-Some.plan q (gave c.from_residual.result _) (sym c.translates.ensures ∙ c.if-translates.false) (gave-err c.from_residual.result _ c.from_residual.ensures.0))

-- for the other name
pub returns-then-branch-clause-takes : goal.returns-then-branch-clause-takes
returns-then-branch-clause-takes g c =
    let chain = c.args.chain.now in
    let q = c.args.walk.now.query.now in
    let steps = run_of (g.X.Extras.says c.args.extras.now) chain in
    walked_some (g.X.Extras.says c.args.extras.now) chain q c.in-Some.plan c.in-Some.is
    (once_takes steps c.in-Some.plan q (Some c.ptr_query.new.inner) (sym c.translates.ensures ∙ c.if-translates.false)
    (subst (λ (b : Bool). Points c.in-Some.plan q c.ptr_query.new.inner b) c.if-branch.true c.in_ok-ptr_query.ensures)
    (tc_result _ _ (c.as_given-then-branch.ensures c.run_pointed.new.room.walk.plugins.slot) c.run_pointed.ensures.takes))

-- as it is
pub returns-clause-takes : goal.returns-clause-takes
returns-clause-takes g c =
    let chain = c.args.chain.now in
    let q = c.args.walk.now.query.now in
    let steps = run_of (g.X.Extras.says c.args.extras.now) chain in
    walked_some (g.X.Extras.says c.args.extras.now) chain q c.in-Some.plan c.in-Some.is
    (once_takes steps c.in-Some.plan q None (sym c.translates.ensures ∙ c.if-translates.false)
    (subst (λ (b : Bool). Points c.in-Some.plan q c.ptr_query.new.inner b) c.if-branch.false c.in_ok-ptr_query.ensures)
    (run_as chain c.as_slice-middle.result.now q c.as_slice-middle.ensures refl c.run_middle-2.ensures.takes))
