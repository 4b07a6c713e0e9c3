use Rattle.std.proofs.Common.{◌≡◌, ℕ, ◌++◌, ◌∷◌, List, arith, subst, sym, ap, ◌∙◌, length, inr}
use Rattle.slot_lists.specs.Links.{IsIn}
use Rattle.slot_lists.specs.Rings.{IsRing, OrderData, order_data, ring_of}
use Rattle.slot_lists.proofs.Links.{split_at, once_gone}
use Rattle.slot_lists.proofs.Rings.{ring_is, as_ring, inside}
use Rattle.slot_lists.proofs.order.Order.to_front.Goals as goal

pub detach-requires : goal.detach-requires
detach-requires c =
    let slots : ring_of c.self.inside.after.items ≡ c.args.self.now.slots = ap (λ (o : OrderData). o.slots) c.self.view_is in
    let w = split_at (ring_of c.self.inside.after.items) c.args.slot (subst (IsIn c.args.slot) (sym slots) c.requires) in
    (w.0, w.1, subst (λ (l : List ℕ). IsRing c.self.inside.before.items c.self.inside.after.items l) w.2 c.self.invariant)

pub attach-requires-clause-inside : goal.attach-requires-clause-inside
attach-requires-clause-inside c =
    let after = c.self.inside.after.items in
    let slots : ring_of after ≡ c.args.self.now.slots = ap (λ (o : OrderData). o.slots) c.self.view_is in
    let low = inside c.self.inside.before.items after (ring_of after) c.args.slot c.self.invariant (inr (subst (IsIn c.args.slot) (sym slots) c.requires)) in
    omega (arith, low, c.detach.ensures.long)

pub attach-requires-clause-ring : goal.attach-requires-clause-ring
attach-requires-clause-ring c =
    let after = c.self.inside.after.items in
    let slots : ring_of after ≡ c.args.self.now.slots = ap (λ (o : OrderData). o.slots) c.self.view_is in
    let w = split_at (ring_of after) c.args.slot (subst (IsIn c.args.slot) (sym slots) c.requires) in
    (w.0 ++ w.1, c.detach.ensures.ring w.0 w.1 (subst (λ (l : List ℕ). IsRing c.self.inside.before.items after l) w.2 c.self.invariant))

pub invariant_of-self : goal.invariant_of-self
invariant_of-self c =
    let after = c.self.inside.after.items in
    let slots : ring_of after ≡ c.args.self.now.slots = ap (λ (o : OrderData). o.slots) c.self.view_is in
    let w = split_at (ring_of after) c.args.slot (subst (IsIn c.args.slot) (sym slots) c.requires) in
    let r : IsRing c.self.inside.before.items after (w.0 ++ c.args.slot ∷ w.1) = subst (λ (l : List ℕ). IsRing c.self.inside.before.items after l) w.2 c.self.invariant in
    as_ring _ _ _ (c.attach.ensures.ring (w.0 ++ w.1) (c.detach.ensures.ring w.0 w.1 r) (once_gone (0 ∷ w.0) c.args.slot w.1 r.once))

pub returns : goal.returns
returns c = λ xs ys e.
    let after = c.self.inside.after.items in
    let slots : ring_of after ≡ c.args.self.now.slots = ap (λ (o : OrderData). o.slots) c.self.view_is in
    let places : length after ≡ c.args.self.now.places = ap (λ (o : OrderData). o.places) c.self.view_is in
    let r : IsRing c.self.inside.before.items after (xs ++ c.args.slot ∷ ys) = subst (λ (l : List ℕ). IsRing c.self.inside.before.items after l) (slots ∙ e) c.self.invariant in
    let is = ring_is _ _ _ (c.attach.ensures.ring (xs ++ ys) (c.detach.ensures.ring xs ys r) (once_gone (0 ∷ xs) c.args.slot ys r.once)) in
    let long : length c.attach.new.after.items ≡ c.args.self.now.places = c.attach.ensures.long ∙ c.detach.ensures.long ∙ places in
    λ j. order_data (is j) (long j)
