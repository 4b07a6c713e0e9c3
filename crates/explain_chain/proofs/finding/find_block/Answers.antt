use Rattle.std.proofs.Common.{sym}
use Rattle.explain_chain.proofs.Numbered.{found_as, no_chain}
use Rattle.explain_chain.proofs.finding.find_block.Goals as goal

pub returns-in_default-chain_at : goal.returns-in_default-chain_at
returns-in_default-chain_at g c =
    no_chain g.B.Rulebook.taken g.B.Rulebook.said c.args.plans.now c.args.query.now c.in-Some.number c.tell.ensures (sym c.in-Some.ensures) (sym c.in_default-chain_at.ensures)

pub returns : goal.returns
returns g c =
    found_as g.B.Rulebook.taken g.B.Rulebook.said c.args.plans.now c.args.query.now c.in-Some.number c.in-Some-block_at.block.now c.in-Some-chain_at.chain.now c.tell.ensures (sym c.in-Some.ensures) (sym c.in-Some-block_at.ensures) (sym c.in-Some-chain_at.ensures)
