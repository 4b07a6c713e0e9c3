use Rattle.std.proofs.Common.{◌≡◌, ◌∙◌, sym, ap, refl, arith}
use Rattle.std.proofs.lemmas.Bool.{true≢false}
use Rattle.pin_core.specs.Machine.{Machine}
use Rattle.pin_core.proofs.CurrentLemmas.{unpublished, published}
use Rattle.pin_core.proofs.state.PinState.current_slot.Goals as goal

pub returns-in_err-slot-clause-none : goal.returns-in_err-slot-clause-none
returns-in_err-slot-clause-none c =
    let m : Machine = record { published = c.self.inside.published; slots = c.self.inside.slots; workers = c.self.inside.workers.items } in
    let nothing : m.published ≡ 0 = unpublished m c.self.invariant (sym c.in_err-slot.ensures) in
    (λ _. ap (λ (v : Machine). v.published) (sym c.self.view_is) ∙ nothing, λ _. rw c.from_residual.ensures refl)

pub returns-clause-none : goal.returns-clause-none
returns-clause-none c =
    let m : Machine = record { published = c.self.inside.published; slots = c.self.inside.slots; workers = c.self.inside.workers.items } in
    let some = published m c.in_ok-slot.slot c.self.invariant (sym c.current_of.ensures ∙ c.in_ok-slot.was) in
    (λ e. absurd (true≢false e), λ e. let same = ap (λ (v : Machine). v.published) c.self.view_is in absurd (omega (arith, some, e, same)))
