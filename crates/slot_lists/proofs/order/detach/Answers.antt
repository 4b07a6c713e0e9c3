use Rattle.std.proofs.Common.{◌≡◌, ℕ, ◌<◌, ◌++◌, arith, subst, sym, length}
use Rattle.std.specs.Prelude.{slice_index, slice_set}
use Rattle.std.proofs.lemmas.List.{get_or_read}
use Rattle.slot_lists.specs.Rings.{IsRing}
use Rattle.slot_lists.proofs.Rings.{detached, low_front, low_slot, low_back}
use Rattle.slot_lists.proofs.order.detach.Goals as goal

pub index-front-requires : goal.index-front-requires
index-front-requires c =
    let r = c.requires in
    let low = low_slot c.args.before.now.items c.args.after.now.items r.0 r.1 c.args.slot r.2 in
    omega (arith, low, c.args.before.now.ok.0)

pub index-back-requires : goal.index-back-requires
index-back-requires c =
    let r = c.requires in
    let low = low_slot c.args.before.now.items c.args.after.now.items r.0 r.1 c.args.slot r.2 in
    omega (arith, low, r.2.long, c.args.after.now.ok.0)

pub index_mut-requires : goal.index_mut-requires
index_mut-requires c =
    let r = c.requires in
    let before = c.args.before.now.items in
    let low = low_slot before c.args.after.now.items r.0 r.1 c.args.slot r.2 in
    let is : c.index-front.result.now ≡ slice_index before c.args.slot = get_or_read before _ _ low c.index-front.ensures 0 in
    let there = low_front before c.args.after.now.items r.0 r.1 c.args.slot r.2 in
    omega (arith, there, is, c.args.after.now.ok.0)

pub index_mut-requires-2 : goal.index_mut-requires-2
index_mut-requires-2 c =
    let r = c.requires in
    let after = c.args.after.now.items in
    let low = low_slot c.args.before.now.items after r.0 r.1 c.args.slot r.2 in
    let in_after : c.args.slot < length after = omega (arith, low, r.2.long) in
    let is : c.index-back.result.now ≡ slice_index after c.args.slot = get_or_read after _ _ in_after c.index-back.ensures 0 in
    let there = low_back c.args.before.now.items after r.0 r.1 c.args.slot r.2 in
    omega (arith, there, is, c.args.before.now.ok.0)

pub returns-clause-ring : goal.returns-clause-ring
returns-clause-ring c = λ xs ys r.
    let before = c.args.before.now.items in
    let after = c.args.after.now.items in
    let slot = c.args.slot in
    let low = low_slot before after xs ys slot r in
    let in_after : slot < length after = omega (arith, low, r.long) in
    let front : c.index-front.result.now ≡ slice_index before slot = get_or_read before _ _ low c.index-front.ensures 0 in
    let back : c.index-back.result.now ≡ slice_index after slot = get_or_read after _ _ in_after c.index-back.ensures 0 in
    subst (λ (n : ℕ). IsRing (slice_set before c.index-back.result.now n) (slice_set after n c.index-back.result.now) (xs ++ ys)) (sym front)
    (subst (λ (m : ℕ). IsRing (slice_set before m (slice_index before slot)) (slice_set after (slice_index before slot) m) (xs ++ ys)) (sym back)
    (detached before after xs ys slot r))
