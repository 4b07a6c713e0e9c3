use Rattle.std.proofs.Common.{sym, subst}
use Rattle.std.specs.List.{All}
use Rattle.std.proofs.lemmas.List.Elements.{All-push}
use Rattle.outside_mem.specs.Unused.{IsUnusedSide}
use Rattle.run_conformance.proofs.reports.unused_sides.Goals as goal

pub loop-script-preserved : goal.loop-script-preserved
loop-script-preserved c =
    subst (All IsUnusedSide) (sym c.in_ok-push.ensures.items)
    (All-push IsUnusedSide c.loop-script.sides.items c.in_ok-new.field-0 c.loop-script.invariant c.in_ok-new.ensures.unused)
