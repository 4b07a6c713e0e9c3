use Rattle.std.proofs.Common.{List, Option, ℕ, option_and_then, slice_get, ap, ◌∙◌}
use Rattle.chain_build.specs.declared.block.BlockChain.{BlockChain}
use Rattle.plain_chain.proofs.Chosen.{found_at}
use Rattle.plain_chain.proofs.deciding.chain_for.Goals as goal

pub returns : goal.returns
returns c =
    let got = c.get.ensures.lookup in
    found_at c.get.result c.as_slice.result.now c.in_ok-number.number got.1 got.3
    ∙ ap (λ (chains : List BlockChain). slice_get chains c.in_ok-number.number) c.as_slice.ensures
    ∙ ap (λ (o : Option ℕ). option_and_then (slice_get c.args.read.now.chains) o) c.in_ok-number.ensures.value
