use Rattle.std.proofs.Common.{◌≡◌, ℕ, ◌<◌, arith, subst, sym, inl, refl, length, ◌∷◌}
use Rattle.std.specs.Prelude.{slice_index, slice_set}
use Rattle.std.proofs.lemmas.List.{get_or_read}
use Rattle.slot_lists.specs.Rings.{IsRing}
use Rattle.slot_lists.proofs.Rings.{attached, inside, onward}
use Rattle.slot_lists.proofs.order.attach.Goals as goal

pub index_mut-requires-4 : goal.index_mut-requires-4
index_mut-requires-4 c =
    let before = c.args.before.now.items in
    let after = c.args.after.now.items in
    let r = c.requires.ring in
    let zero : 0 < length after = r.1.path.1 in
    let is : c.index-first.result.now ≡ slice_index after 0 = get_or_read after _ _ zero c.index-first.ensures 0 in
    let low : slice_index after 0 < length after = inside before after r.0 (slice_index after 0) r.1 (onward before after r.0 0 r.1 (inl refl)) in
    omega (arith, low, is, r.1.long, c.args.before.now.ok.0)

pub returns-clause-ring : goal.returns-clause-ring
returns-clause-ring c = λ slots r out.
    let before = c.args.before.now.items in
    let after = c.args.after.now.items in
    let slot = c.args.slot in
    let is : c.index-first.result.now ≡ slice_index after 0 = get_or_read after _ _ r.path.1 c.index-first.ensures 0 in
    subst (λ (n : ℕ). IsRing (slice_set (slice_set before slot 0) n slot) (slice_set (slice_set after slot n) 0 slot) (slot ∷ slots)) (sym is)
    (attached before after slots slot r out c.requires.inside)
