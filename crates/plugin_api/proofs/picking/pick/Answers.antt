use Rattle.std.proofs.Common.{ℕ, Option, ◌∙◌, sym, subst}
use Rattle.plugin_api.specs.KeyLaws.{longest_end, longest_here}
use Rattle.plugin_api.specs.Laws.{picked_is}
use Rattle.plugin_api.specs.Picking.{Picks, block_of, picked}
use Rattle.plugin_api.proofs.picking.pick.Goals as goal

pub returns-in_default-next-clause-value : goal.returns-in_default-next-clause-value
unfolding picked
returns-in_default-next-clause-value c =
    let none = rw c.as_slice.ensures at c.in_default.ensures in
    sym (longest_end (block_of c.args.blocks.now c.args.port) c.loop-block.rest c.in_default-next.ensures.value (sym none)) ∙ c.loop-block.invariant

pub returns-in_default-next-clause-longest : goal.returns-in_default-next-clause-longest
returns-in_default-next-clause-longest c =
    subst (λ (o : Option ℕ). Picks c.args.blocks.now c.args.port c.args.name.now o) (sym (returns-in_default-next-clause-value c)) (picked_is c.args.blocks.now c.args.port c.args.name.now)

pub returns-in-Some-clause-value : goal.returns-in-Some-clause-value
unfolding picked
returns-in-Some-clause-value c =
    let here = rw c.as_slice.ensures at c.in-Some.ensures in
    sym (longest_here (block_of c.args.blocks.now c.args.port) c.loop-block.rest _ (sym here)) ∙ c.loop-block.invariant

pub returns-in-Some-clause-longest : goal.returns-in-Some-clause-longest
returns-in-Some-clause-longest c =
    subst (λ (o : Option ℕ). Picks c.args.blocks.now c.args.port c.args.name.now o) (sym (returns-in-Some-clause-value c)) (picked_is c.args.blocks.now c.args.port c.args.name.now)
