use Rattle.std.proofs.Common.{List, slice_get, ap, ◌∙◌}
use Rattle.chain_build.specs.Plans.{PlansData}
use Rattle.chain_build.specs.declared.block.BlockChain.{BlockChain}
use Rattle.explain_chain.proofs.Unasked.{found_at}
use Rattle.explain_chain.proofs.finding.chain_at.Goals as goal

pub returns : goal.returns
returns g c =
    let got = c.get.ensures.lookup in
    found_at c.get.result c.as_slice.result.now c.args.number got.1 got.3
    ∙ ap (λ (chains : List BlockChain). slice_get chains c.args.number) c.as_slice.ensures
    ∙ ap (λ (p : PlansData). slice_get p.chains c.args.number) c.plans.view_is
