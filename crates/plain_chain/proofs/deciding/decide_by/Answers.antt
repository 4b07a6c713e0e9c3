use Rattle.std.proofs.Common.{[], ap, ◌∙◌}
use Rattle.extra_stock.specs.{all_pass}
use Rattle.chain_build.specs.Plans.{steps_in}
use Rattle.chain_meaning.specs.Serving.{chain_decides}
use Rattle.plain_chain.specs.Traced.{chain_traced}
use Rattle.plain_chain.proofs.Chosen.{none-say, traced-decides}
use Rattle.plain_chain.proofs.Trailing.{ok-means}
use Rattle.plain_chain.proofs.deciding.decide_by.Goals as goal

pub returns : goal.returns
returns c said =
    let chain = c.args.chain.now in
    let q = c.args.query.now in
    ok-means (chain_traced (steps_in all_pass chain) [] q) (chain_decides (steps_in said chain) q)
    (λ some. traced-decides (steps_in all_pass chain) [] q some ∙ ap (λ s. chain_decides s q some) (none-say all_pass said chain c.requires))
    c.trace_chain.result c.args.marks.now _ _ c.trace_chain.ensures.trails
