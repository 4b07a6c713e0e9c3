use Rattle.std.proofs.Common.{◌+◌, not, sym, ap, arith, ◌∙◌, ◌≡◌, ◌<◌, length, subst, None, Some}
use Rattle.std.proofs.lemmas.List.{get_or_read}
use Rattle.pin_core.specs.declared.slots.Slot.{Slot}
use Rattle.pin_core.specs.declared.slots.PinWorker.{PinWorker}
use Rattle.pin_core.specs.Machine.{Machine, IsSound, idle, worker_at, with_slot, with_worker, current}
use Rattle.pin_core.specs.Laws.{sound_pin}
use Rattle.pin_core.proofs.CurrentLemmas.{is_current_at, no_pin}
use Rattle.pin_core.proofs.state.PinState.pin.Goals as goal

pub invariant_of-self : goal.invariant_of-self
invariant_of-self c =
    let m : Machine = record { published = c.self.inside.published; slots = c.self.inside.slots; workers = c.self.inside.workers.items } in
    let s = c.in-Some.slot in
    let w = c.args.worker in
    let is = is_current_at m s c.self.invariant (c.in-Some.ensures.slot ∙ ap current (sym c.self.view_is)) c.in-Some.ensures.within in
    let here : w < length m.workers = omega arith in
    let had : worker_at m w ≡ c.index.result.now = sym (get_or_read m.workers w c.index.result.now here c.index.ensures idle) in
    let none : (worker_at m w).held ≡ None = ap (λ (x : PinWorker). x.held) had ∙ no_pin c.index.result.now.held (ap not (sym c.is_some.ensures ∙ c.if-is_some.false)) in
    subst (λ (x : Slot × PinWorker). IsSound (with_worker (with_slot m s x.0) w (record { held = Some s; pins = x.1.pins + 1 })))
    (λ i. (sym c.add_pin.ensures i, had i))
    (sound_pin m s w c.self.invariant c.in-Some.ensures.within here is none (omega (arith, ap (λ (x : PinWorker). x.pins) had)))
