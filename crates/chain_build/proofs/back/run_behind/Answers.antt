use Rattle.std.proofs.Common.{◌∙◌, map, sym, arith}
use Rattle.rewrite_plugin.specs.{changed_by}
use Rattle.chain_meaning.specs.Mean.{mean, rewritten}
use Rattle.chain_build.specs.Compiled.{back_of, back_steps}
use Rattle.chain_build.specs.WalkingLaws.{behind-none, behind-rules}
use Rattle.chain_meaning.specs.CallsByRun.{pool_in}
use Rattle.chain_build.proofs.LoggedWalks.{behind_none_pool, behind_rules_pool, by_as}
use Rattle.chain_build.proofs.back.run_behind.Goals as goal

pub returns-then-len-eq0-clause-asks : goal.returns-then-len-eq0-clause-asks
returns-then-len-eq0-clause-asks g c =
    let ds = c.args.chain.now.rewrites in
    let back = c.as_slice.result.now in
    let q = c.args.walk.now.query.now in
    by_as (mean (map back_of back) q) _
    (behind_none_pool ds back q (omega (arith, c.if-len-eq0.true, c.len.ensures)) ∙ (λ i. pool_in (back_steps ds (c.as_slice.ensures i)) q))
    (λ marks. (λ i. mean (back_steps ds (sym c.as_slice.ensures i)) c.args.walk.now.query.now marks) ∙ behind-none ds back c.args.walk.now.query.now (omega (arith, c.if-len-eq0.true, c.len.ensures)) marks)
    c.run_back.ensures.asks

pub returns-clause-asks : goal.returns-clause-asks
returns-clause-asks g c =
    let ds = c.args.chain.now.rewrites in
    let back = c.args.chain.now.back in
    by_as (rewritten (mean (map back_of back)) ds (changed_by ds c.args.walk.now.query.now)) _
    (behind_rules_pool ds back c.args.walk.now.query.now (omega (arith, c.if-len-eq0.false, c.len.ensures)))
    (behind-rules ds back c.args.walk.now.query.now (omega (arith, c.if-len-eq0.false, c.len.ensures))) c.run_rewritten.ensures.asks
