use Rattle.std.proofs.Common.{ℕ, List, sym, ap, arith, ◌∙◌, ◌≡◌, ◌+◌, subst}
use Rattle.std.specs.Prelude.{map, slice_set}
use Rattle.pin_core.specs.declared.slots.Slot.{Slot}
use Rattle.pin_core.specs.Slots.{replaced_slot, published_slot, is_filled}
use Rattle.pin_core.specs.Machine.{Machine, IsSound, slot_at, count}
use Rattle.pin_core.specs.Laws.{sound_publish}
use Rattle.pin_core.proofs.state.PinState.publish.Goals as goal

pub invariant_of-self : goal.invariant_of-self
invariant_of-self c =
    let m : Machine = record { published = c.self.inside.published; slots = c.self.inside.slots; workers = c.self.inside.workers.items } in
    let s = c.args.slot in
    let n : c.len.result ≡ count m = omega arith in
    let full = ap (λ (n : ℕ). is_filled n (slot_at m s).phase) (sym n) ∙ (sym c.is_filled.ensures ∙ c.if-not-is_filled.false) in
    let all : c.replace_all.new.slots ≡ map replaced_slot m.slots = c.replace_all.ensures in
    let one : c.published.result ≡ published_slot (slot_at m s) = c.published.ensures in
    subst (λ (x : List Slot × Slot). IsSound (record { published = m.published + 1; slots = slice_set x.0 s x.1; workers = m.workers }))
    (λ i. (sym all i, sym one i))
    (sound_publish m s c.self.invariant (omega arith) (omega arith) full)
