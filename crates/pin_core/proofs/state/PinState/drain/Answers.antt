use Rattle.std.proofs.Common.{ℕ, ◌≡◌, ◌∙◌, sym, ap, subst, arith}
use Rattle.pin_core.specs.declared.slots.Slot.{Slot}
use Rattle.pin_core.specs.Slots.{drained_slot}
use Rattle.pin_core.specs.Machine.{Machine, IsSound, with_slot, slot_at, count}
use Rattle.pin_core.specs.Laws.{sound_drain}
use Rattle.pin_core.proofs.state.PinState.drain.Goals as goal

pub invariant_of-self : goal.invariant_of-self
invariant_of-self c =
    let m : Machine = record { published = c.self.inside.published; slots = c.self.inside.slots; workers = c.self.inside.workers.items } in
    let n : c.len-workers.result ≡ count m = omega arith in
    subst (λ (y : Slot). IsSound (with_slot m c.args.slot y)) (sym (c.drained.ensures ∙ ap (λ (n : ℕ). drained_slot n c.args.worker (slot_at m c.args.slot)) n))
    (sound_drain m c.args.slot c.args.worker c.self.invariant (omega arith) (sym c.is_drainable.ensures ∙ c.if-not-is_drainable.false))
