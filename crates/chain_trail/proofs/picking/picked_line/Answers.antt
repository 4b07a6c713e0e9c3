use Rattle.std.proofs.Common.{◌∙◌, sym}
use Rattle.plugin_api.specs.KeyLaws.{longest_end, longest_here}
use Rattle.chain_trail.specs.Names.{key_line}
use Rattle.chain_trail.specs.PickedLaws.{line_as_picked}
use Rattle.chain_trail.proofs.picking.picked_line.Goals as goal

pub returns-in-Some-clause-value : goal.returns-in-Some-clause-value
returns-in-Some-clause-value c =
    let here = rw c.as_slice.ensures at c.in-Some.ensures in
    sym (longest_here (key_line c.args.blocks.now c.args.port) c.loop-line.rest _ (sym here)) ∙ c.loop-line.invariant

pub returns-in-Some-clause-picked : goal.returns-in-Some-clause-picked
returns-in-Some-clause-picked c = line_as_picked c.args.blocks.now c.args.port c.args.name.now _ (returns-in-Some-clause-value c)

pub returns-in_default-next-clause-value : goal.returns-in_default-next-clause-value
returns-in_default-next-clause-value c =
    let none = rw c.as_slice.ensures at c.in_default.ensures in
    sym (longest_end (key_line c.args.blocks.now c.args.port) c.loop-line.rest c.in_default-next.ensures.value (sym none)) ∙ c.loop-line.invariant

pub returns-in_default-next-clause-picked : goal.returns-in_default-next-clause-picked
returns-in_default-next-clause-picked c = line_as_picked c.args.blocks.now c.args.port c.args.name.now _ (returns-in_default-next-clause-value c)
