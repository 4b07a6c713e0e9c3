use Rattle.std.proofs.Common.{◌∙◌, map, sym, arith}
use Rattle.rewrite_plugin.specs.{changed_by}
use Rattle.chain_meaning.specs.Mean.{mean, rewritten}
use Rattle.chain_build.specs.Compiled.{back_of, back_steps}
use Rattle.chain_build.specs.WalkingLaws.{behind-none, behind-rules}
use Rattle.chain_build.proofs.Walks.{tries-as}
use Rattle.chain_build.proofs.back.try_behind.Goals as goal

pub returns-then-len-eq0 : goal.returns-then-len-eq0
returns-then-len-eq0 c =
    let ds = c.args.chain.now.rewrites in
    let back = c.as_slice.result.now in
    let q = c.args.query.now in
    tries-as (mean (map back_of back) q) _ c.try_back.new.room.slot c.try_back.result
    (λ marks. (λ i. mean (back_steps ds (sym c.as_slice.ensures i)) q marks) ∙ behind-none ds back q (omega (arith, c.if-len-eq0.true, c.len.ensures)) marks)
    c.try_back.ensures

pub returns : goal.returns
returns c =
    let ds = c.args.chain.now.rewrites in
    let back = c.args.chain.now.back in
    let q = c.args.query.now in
    tries-as (rewritten (mean (map back_of back)) ds (changed_by ds q)) _ c.try_rewritten.new.room.plugins.slot c.try_rewritten.result
    (behind-rules ds back q (omega (arith, c.if-len-eq0.false, c.len.ensures)))
    c.try_rewritten.ensures
