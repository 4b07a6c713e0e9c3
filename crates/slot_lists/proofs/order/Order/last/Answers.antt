use Rattle.std.proofs.Common.{◌≡◌, ℕ, ◌<◌, ◌++◌, ◌∷◌, [], List, arith, subst, sym, ap, ◌∙◌, length}
use Rattle.std.specs.Prelude.{slice_index}
use Rattle.std.proofs.lemmas.List.{get_or_read}
use Rattle.slot_lists.specs.Rings.{OrderData, ring_of}
use Rattle.slot_lists.proofs.Rings.{last_in}
use Rattle.slot_lists.proofs.order.Order.last.Goals as goal

pub returns : goal.returns
returns c =
    let before = c.self.inside.before.items in
    let slots : ring_of c.self.inside.after.items ≡ c.args.self.now.slots = ap (λ (o : OrderData). o.slots) c.self.view_is in
    let low : 0 < length before = omega (arith, c.self.invariant.path.1, c.self.invariant.long) in
    let is : c.index.result.now ≡ slice_index before 0 = get_or_read before _ _ low c.index.ensures 0 in
    let w = last_in before c.self.inside.after.items (ring_of c.self.inside.after.items) c.self.invariant
    (subst (λ (l : List ℕ). 0 < length l) (sym slots) c.requires) in
    (w.0, sym slots ∙ w.1 ∙ ap (λ (n : ℕ). w.0 ++ n ∷ []) (sym is))
