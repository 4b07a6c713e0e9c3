use Rattle.std.proofs.Common.{map}
use Rattle.rewrite_plugin.specs.{changed_by}
use Rattle.chain_meaning.specs.Mean.{mean, rewritten}
use Rattle.chain_build.specs.Compiled.{back_of}
use Rattle.chain_build.proofs.Walks.{rewritten_nothing, tries-err}
use Rattle.chain_build.proofs.back.try_rewritten.Goals as goal

pub returns-in_err-change : goal.returns-in_err-change
returns-in_err-change c =
    let chain = c.args.chain.now in
    let changed = changed_by chain.rewrites c.args.query.now in
    tries-err (rewritten (mean (map back_of chain.back)) chain.rewrites changed) _ _ c.from_residual.ensures.0 (rewritten_nothing chain.back chain.rewrites changed)
