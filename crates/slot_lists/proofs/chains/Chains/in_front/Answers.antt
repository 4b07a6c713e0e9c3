use Rattle.std.proofs.Common.{◌≡◌, ℕ, subst, sym, ◌∙◌, length, ◌<◌}
use Rattle.std.specs.Prelude.{slice_index}
use Rattle.slot_lists.specs.Links.{walked}
use Rattle.slot_lists.specs.Chained.{IsInFront}
use Rattle.slot_lists.proofs.Chained.{starts, steps, shrinks, front_low}
use Rattle.slot_lists.proofs.chains.Chains.in_front.Goals as goal

pub loop-at-init : goal.loop-at-init
loop-at-init c =
    let s = c.args.self.now in
    let w = c.requires.chain in
    subst (IsInFront s.heads.items s.nexts.items c.args.at c.args.slot) (sym c.requires.head)
    (starts s.heads.items s.nexts.items c.args.at c.args.slot w.0 w.1 (λ e. c.requires.other (c.requires.head ∙ e)))

pub next-next-requires : goal.next-next-requires
next-next-requires c =
    let s = c.args.self.now in
    front_low s.heads.items s.nexts.items c.args.at c.args.slot c.loop-at.front c.loop-at.invariant

pub loop-at-smaller : goal.loop-at-smaller
loop-at-smaller c =
    let s = c.args.self.now in
    let front = c.loop-at.front in
    let nexts = s.nexts.items in
    let e : c.next-next.result ≡ slice_index nexts front = c.next-next.ensures in
    subst (λ (z : ℕ). length (walked (length nexts) nexts (slice_index nexts z)) < length (walked (length nexts) nexts (slice_index nexts front))) (sym e)
    (shrinks s.heads.items nexts c.args.at c.args.slot front c.loop-at.invariant (λ h. c.if-next-slot.false (e ∙ h)))

pub loop-at-preserved : goal.loop-at-preserved
loop-at-preserved c =
    let s = c.args.self.now in
    let front = c.loop-at.front in
    let e : c.next-next.result ≡ slice_index s.nexts.items front = c.next-next.ensures in
    subst (IsInFront s.heads.items s.nexts.items c.args.at c.args.slot) (sym e)
    (steps s.heads.items s.nexts.items c.args.at c.args.slot front c.loop-at.invariant (λ h. c.if-next-slot.false (e ∙ h)))
