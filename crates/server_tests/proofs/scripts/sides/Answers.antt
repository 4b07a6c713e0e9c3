use Rattle.std.proofs.Common.{sym, subst}
use Rattle.std.specs.List.{All}
use Rattle.std.proofs.lemmas.List.Elements.{All-push}
use Rattle.outside_mem.specs.Unused.{IsUnusedSide}
use Rattle.server_tests.proofs.scripts.sides.Goals as goal

pub loop-count-preserved : goal.loop-count-preserved
loop-count-preserved c =
    subst (All IsUnusedSide) (sym c.in_ok-push.ensures.items)
    (All-push IsUnusedSide c.loop-count.sides.items c.in_ok-side.field-0 c.loop-count.invariant c.in_ok-side.ensures)
