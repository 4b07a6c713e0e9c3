-- A slot is current exactly where something is published; a worker without an open pin holds no slot.
use Rattle.std.proofs.Common.{◌≡◌, ℕ, zero, suc, ◌<◌, Bool, true, not, cond, ltb, length, Option, Some, None, refl, sym, ap, ◌∙◌, subst, arith}
use Rattle.std.specs.List.{position}
use Rattle.std.specs.Option.{is_some}
use Rattle.std.proofs.lemmas.Option.{none-some}
use Rattle.std.proofs.lemmas.Bool.{false≢true, lt-ltb}
use Rattle.std.proofs.lemmas.List.Sums.{get_or-le-sum_by, passes_at_first}
use Rattle.std.proofs.lemmas.List.Quantifiers.{position-Some}
use Rattle.pin_core.specs.declared.slots.Slot.{Slot}
use Rattle.pin_core.specs.Slots.{is_current}
use Rattle.pin_core.specs.Machine.{Machine, IsSound, slot_at, current, unused}
use Rattle.pin_core.specs.Laws.{current_within}

-- where no slot is current, nothing is published
pub unpublished : (m : Machine) → IsSound m → position (λ x. is_current x.phase) m.slots ≡ None → m.published ≡ 0
unpublished m h none = by_count m.published refl
  where
    by_count : (n : ℕ) → m.published ≡ n → m.published ≡ 0
    by_count zero e = e
    by_count (suc n) e =
        let here = current_within m h (omega arith) in
        absurd (none-some (current m) (sym none ∙ ap (λ (b : Bool). cond b (Some (current m)) None) (lt-ltb (current m) (length m.slots) (omega (arith, here.0, h.slots)))))

-- where a slot is current, something is published
pub published : (m : Machine) (s : ℕ) → IsSound m → position (λ x. is_current x.phase) m.slots ≡ Some s → 0 < m.published
published m s h some = by_count m.published refl
  where
    by_count : (n : ℕ) → m.published ≡ n → 0 < m.published
    by_count zero e =
        let at = position-Some (λ (x : Slot). is_current x.phase) m.slots s unused some in
        let one = get_or-le-sum_by (λ (x : Slot). cond (is_current x.phase) 1 0) m.slots s unused at.0 in
        let nothing = h.one_current ∙ ap (λ n. cond (ltb 0 n) 1 0) e in
        absurd (omega (arith, one, ap {B = ℕ} (λ (b : Bool). cond b 1 0) at.1, nothing))
    by_count (suc n) e = omega arith

-- the place of the first current slot, where it is one of the four
pub is_current_at : (m : Machine) (s : ℕ) → IsSound m → s ≡ current m → s < 4 → is_current (slot_at m s).phase ≡ true
is_current_at m s h e in' = subst (λ (i : ℕ). is_current (slot_at m i).phase ≡ true) (sym e) (passes_at_first (λ (x : Slot). is_current x.phase) m.slots unused (omega (arith, e, h.slots)))

-- no open pin
pub no_pin : (held : Option ℕ) → not (is_some held) ≡ true → held ≡ None
no_pin None e = refl
no_pin (Some s) e = absurd (false≢true e)
