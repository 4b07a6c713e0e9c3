use Rattle.std.proofs.Common.{sym, ap, ◌∙◌}
use Rattle.std.proofs.lemmas.List.{take_rest}
use Rattle.template_plugin.specs.Pieces.{begins_twice}
use Rattle.template_plugin.proofs.Cutting.{not_here}
use Rattle.template_plugin.proofs.piece_read.twice_at.Goals as goal

pub loop-at-preserved : goal.loop-at-preserved
loop-at-preserved c =
    c.loop-at.invariant
    ∙ not_here c.args.byte c.args.text.now c.loop-at.at c.loop-at-test.true (ap (begins_twice c.args.byte) (sym (take_rest c.args.text.now c.loop-at.at)) ∙ sym c.begins_twice.ensures.value ∙ c.if-begins_twice.false)
