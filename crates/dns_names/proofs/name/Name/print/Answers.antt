use Rattle.std.proofs.Common.{refl, sym, ◌∙◌}
use Rattle.std.proofs.lemmas.Bool.{false≢true}
use Rattle.dns_names.proofs.PrintedNames.{dotted_on, small_on}
use Rattle.dns_names.proofs.name.Name.print.Goals as goal
use Rattle.dns_names.proofs.name.Name.print.Goals.{then-not-are_common+else-not-is_plain, else-not-are_common}

pub loop-label-preserved : goal.loop-label-preserved
loop-label-preserved c = elim c.if-not-are_common.branch [
  | then-not-are_common+else-not-is_plain w ↦ (
    dotted_on c.args.text.now.items c.loop-label.text.items _ c.in-Some.label.now c.loop-label.at c.loop-label.labels c.next.new.self c.args.self.now c.loop-label.invariant.0 c.in-Some.ensures.value
        (w.if-not-is_plain.ensures refl) refl,
    λ small. absurd (false≢true (sym w.is_small-is ∙ small)),
  )
  | else-not-are_common w ↦ (
    dotted_on c.args.text.now.items c.loop-label.text.items _ c.in-Some.label.now c.loop-label.at c.loop-label.labels c.next.new.self c.args.self.now c.loop-label.invariant.0 c.in-Some.ensures.value
        (c.are_common.ensures.plain w.if-not-are_common.false) refl,
    λ small. small_on c.in-Some.label.now c.loop-label.labels c.next.new.self c.args.self.now c.in-Some.ensures.value (c.are_common.ensures.small w.if-not-are_common.false) (c.loop-label.invariant.1 (sym w.is_small-is ∙ small)),
  )
]
