use Rattle.std.proofs.Common.{sym, ap, arith, ◌∙◌, ◌≡◌, ◌<◌, length, subst, None}
use Rattle.std.proofs.lemmas.List.{get_or_read}
use Rattle.pin_core.specs.declared.slots.PinWorker.{PinWorker}
use Rattle.pin_core.specs.Slots.{unpinned_slot}
use Rattle.pin_core.specs.Machine.{Machine, IsSound, idle, worker_at, slot_at, with_slot, with_worker}
use Rattle.pin_core.specs.Laws.{sound_unpin}
use Rattle.pin_core.proofs.state.PinState.unpin.Goals as goal

pub invariant_of-self : goal.invariant_of-self
invariant_of-self c =
    let m : Machine = record { published = c.self.inside.published; slots = c.self.inside.slots; workers = c.self.inside.workers.items } in
    let s = c.in-Some.slot in
    let w = c.args.worker in
    let here : w < length m.workers = omega arith in
    let had : worker_at m w ≡ c.index.result.now = sym (get_or_read m.workers w c.index.result.now here c.index.ensures idle) in
    let had' : worker_at m w ≡ c.index_mut.result.now = sym (get_or_read m.workers w c.index_mut.result.now here c.index_mut.ensures.value idle) in
    subst (λ (x : PinWorker). IsSound (with_worker (with_slot m s (unpinned_slot (slot_at m s))) w (record { held = None; pins = x.pins })))
    had'
    (sound_unpin m s w c.self.invariant here (ap (λ (x : PinWorker). x.held) had ∙ c.in-Some.is))
