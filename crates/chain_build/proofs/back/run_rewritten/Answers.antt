use Rattle.std.proofs.Common.{map, refl, sym}
use Rattle.chain_meaning.specs.CallsByRun.{pool_in}
use Rattle.rewrite_plugin.specs.{changed_by}
use Rattle.chain_meaning.specs.Mean.{mean, reply_restored, rewritten}
use Rattle.chain_build.specs.Compiled.{back_of}
use Rattle.chain_build.specs.Walking.{decision_of}
use Rattle.chain_build.proofs.LoggedWalks.{by_as, by_fails, by_starved, by_then, restored_by}
use Rattle.chain_build.proofs.Walks.{decided-err, rewritten_nothing}
use Rattle.chain_build.proofs.back.run_rewritten.Goals as goal

pub returns-in_err-change-clause-asks : goal.returns-in_err-change-clause-asks
returns-in_err-change-clause-asks g c =
    let chain = c.args.chain.now in
    let changed = changed_by chain.rewrites c.args.walk.now.query.now in
    by_starved (pool_in (map back_of chain.back) changed.query) (rewritten (mean (map back_of chain.back)) chain.rewrites changed) (decided-err c.from_residual.result c.args.room.now.plugins.slot c.from_residual.ensures.0) (rewritten_nothing chain.back chain.rewrites changed)

pub returns-clause-asks : goal.returns-clause-asks
returns-clause-asks g c =
    let ds = c.as_slice-rewrites.result.now in
    let back = c.as_slice-back.result.now in
    let rest = mean (map back_of back) in
    let changed = c.change.new.changed in
    by_as (rewritten rest ds (changed_by ds c.args.walk.now.query.now)) _
    (λ i. pool_in (map back_of (c.as_slice-back.ensures i)) (changed_by (c.as_slice-rewrites.ensures i) c.args.walk.now.query.now).query)
    (λ marks. λ i. rewritten (mean (map back_of (sym c.as_slice-back.ensures i))) (sym c.as_slice-rewrites.ensures i) (changed_by (sym c.as_slice-rewrites.ensures i) c.args.walk.now.query.now) marks)
    (rw (← c.in_ok-change.ensures)
    (by_then (rest changed.query) (reply_restored ds changed) c.in_ok-ended.ensures.asks
    (restored_by (pool_in (map back_of back) changed.query) ds changed (decision_of c.in_ok-ended.ended c.run_back.new.room.slot) c.restore_reply.new.room.slot c.restore_reply.result c.restore_reply.ensures.restored c.restore_reply.ensures.kept)))

pub returns-in_err-ended-clause-asks : goal.returns-in_err-ended-clause-asks
returns-in_err-ended-clause-asks g c =
    let ds = c.as_slice-rewrites.result.now in
    let back = c.as_slice-back.result.now in
    let rest = mean (map back_of back) in
    let changed = c.change.new.changed in
    by_as (rewritten rest ds (changed_by ds c.args.walk.now.query.now)) _
    (λ i. pool_in (map back_of (c.as_slice-back.ensures i)) (changed_by (c.as_slice-rewrites.ensures i) c.args.walk.now.query.now).query)
    (λ marks. λ i. rewritten (mean (map back_of (sym c.as_slice-back.ensures i))) (sym c.as_slice-rewrites.ensures i) (changed_by (sym c.as_slice-rewrites.ensures i) c.args.walk.now.query.now) marks)
    (rw (← c.in_ok-change.ensures)
    (by_fails (rest changed.query) (reply_restored ds changed) (decided-err _ c.run_back.new.room.slot c.from_residual-in_err-ended.ensures.0) c.in_err-ended.ensures.asks (λ v. refl)))
