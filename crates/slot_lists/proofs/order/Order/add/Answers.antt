use Rattle.std.proofs.Common.{◌≡◌, ℕ, ◌∷◌, List, arith, subst, ap, ◌∙◌, length, inl, inr}
use Rattle.slot_lists.specs.Links.{IsIn}
use Rattle.slot_lists.specs.Rings.{OrderData, order_data, ring_of}
use Rattle.slot_lists.proofs.Rings.{ring_is, as_ring}
use Rattle.slot_lists.proofs.order.Order.add.Goals as goal

pub attach-requires-clause-inside : goal.attach-requires-clause-inside
attach-requires-clause-inside c =
    let places : length c.self.inside.after.items ≡ c.args.self.now.places = ap (λ (o : OrderData). o.places) c.self.view_is in
    omega (arith, places, c.requires.inside)

pub attach-requires-clause-ring : goal.attach-requires-clause-ring
attach-requires-clause-ring c = (ring_of c.self.inside.after.items, c.self.invariant)

pub invariant_of-self : goal.invariant_of-self
invariant_of-self c =
    let slots : ring_of c.self.inside.after.items ≡ c.args.self.now.slots = ap (λ (o : OrderData). o.slots) c.self.view_is in
    as_ring _ _ _ (c.attach.ensures.ring (ring_of c.self.inside.after.items) c.self.invariant
    (λ h. elim h [ inl e ↦ absurd (omega (arith, e, c.requires.some)) | inr i ↦ c.requires.apart (subst (IsIn c.args.slot) slots i) ]))

pub returns : goal.returns
returns c =
    let slots : ring_of c.self.inside.after.items ≡ c.args.self.now.slots = ap (λ (o : OrderData). o.slots) c.self.view_is in
    let places : length c.self.inside.after.items ≡ c.args.self.now.places = ap (λ (o : OrderData). o.places) c.self.view_is in
    let r = c.attach.ensures.ring (ring_of c.self.inside.after.items) c.self.invariant
    (λ h. elim h [ inl e ↦ absurd (omega (arith, e, c.requires.some)) | inr i ↦ c.requires.apart (subst (IsIn c.args.slot) slots i) ]) in
    let is : ring_of c.attach.new.after.items ≡ c.args.slot ∷ c.args.self.now.slots =
    ring_is _ _ _ r ∙ ap (λ (l : List ℕ). c.args.slot ∷ l) slots in
    let long : length c.attach.new.after.items ≡ c.args.self.now.places = c.attach.ensures.long ∙ places in
    λ j. order_data (is j) (long j)
