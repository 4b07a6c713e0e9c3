use Rattle.std.proofs.Common.{◌∙◌, ◌++◌, ℕ, List, sym, ap}
use Rattle.rewrite_plugin.specs.Texts.{part_at, replaced_from}
use Rattle.rewrite_plugin.proofs.Skips.{replaced_step}
use Rattle.rewrite_plugin.proofs.text.append_replaced.Goals as goal

pub loop-byte-preserved-in-Some-part_at : goal.loop-byte-preserved-in-Some-part_at
loop-byte-preserved-in-Some-part_at c =
    let rest = c.in-Some.ensures.cases.0 in
    let e = ap (part_at c.args.part.now) (sym rest) ∙ sym c.part_at.ensures.value ∙ c.in-Some-part_at.is in
    let step = replaced_step c.args.part.now c.args.to.now c.loop-byte.out c.in-Some.byte.now c.in-Some.behind.now c.in-Some-part_at.skip e in
    rw (c.in_ok-append-in-Some-part_at.ensures.ok, c.behind_skip-rest.ensures)
    (step ∙ ap (λ (l : List ℕ). c.loop-byte.out ++ replaced_from c.args.part.now c.args.to.now 0 l) (sym rest) ∙ c.loop-byte.invariant)
