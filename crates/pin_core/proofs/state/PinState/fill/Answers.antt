use Rattle.std.proofs.Common.{◌∙◌, sym, subst, arith}
use Rattle.pin_core.specs.declared.slots.Slot.{Slot}
use Rattle.pin_core.specs.Machine.{Machine, IsSound, with_slot}
use Rattle.pin_core.specs.Laws.{sound_fill}
use Rattle.pin_core.proofs.state.PinState.fill.Goals as goal

pub invariant_of-self : goal.invariant_of-self
invariant_of-self c =
    let m : Machine = record { published = c.self.inside.published; slots = c.self.inside.slots; workers = c.self.inside.workers.items } in
    subst (λ (y : Slot). IsSound (with_slot m c.args.slot y)) (sym c.filled.ensures)
    (sound_fill m c.args.slot c.args.worker c.self.invariant (omega arith) (sym c.lacks.ensures ∙ c.if-not-lacks.false))
