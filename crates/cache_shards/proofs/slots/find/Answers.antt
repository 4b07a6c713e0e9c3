use Rattle.std.proofs.Common.{◌≡◌, ℕ, ◌-◌, ◌<◌, length, subst, sym, ap, ◌∙◌, arith, Some}
use Rattle.std.specs.Prelude.{slice_index}
use Rattle.std.proofs.lemmas.Option.{slice_get-get_or}
use Rattle.slot_lists.specs.Links.{walked}
use Rattle.cache_shards.specs.Slots.{IsWalk}
use Rattle.cache_shards.proofs.Walks.{here, walk_steps, walk_shrinks, walk_ends}
use Rattle.cache_shards.proofs.slots.find.Goals as goal

pub bounds-pairs-slot : goal.bounds-pairs-slot
bounds-pairs-slot c =
    let h = here _ _ _ _ _ _ c.loop-slot.invariant c.loop-slot-test.true in
    let some = h.some in
    let few = h.few in
    omega (arith, some, few)

pub next-slot-requires : goal.next-slot-requires
next-slot-requires c = (here _ _ _ _ _ _ c.loop-slot.invariant c.loop-slot-test.true).low

pub returns-then-eq-clause-found : goal.returns-then-eq-clause-found
returns-then-eq-clause-found c =
    let h = here _ _ _ _ _ _ c.loop-slot.invariant c.loop-slot-test.true in
    let some = h.some in
    let few = h.few in
    let pairs = c.args.pairs.now in
    let inside : c.loop-slot.slot - 1 < length pairs = omega (arith, some, few) in
    record {
      pair = c.index-pairs-slot.result;
      some = some;
      is = slice_get-get_or pairs (c.loop-slot.slot - 1) c.index-pairs-slot.result inside ∙ ap Some (sym c.index-pairs-slot.is);
      same = sym c.eq.ensures ∙ c.if-eq.true;
    }

pub loop-slot-smaller : goal.loop-slot-smaller
loop-slot-smaller c =
    let nexts = c.args.chains.now.nexts.items in
    let e : c.next-slot.result ≡ slice_index nexts c.loop-slot.slot = c.next-slot.ensures in
    subst (λ (z : ℕ). length (walked (length nexts) nexts z) < length (walked (length nexts) nexts c.loop-slot.slot)) (sym e)
    (walk_shrinks _ _ _ _ _ _ c.loop-slot.invariant c.loop-slot-test.true)

pub loop-slot-preserved : goal.loop-slot-preserved
loop-slot-preserved c =
    let h = here _ _ _ _ _ _ c.loop-slot.invariant c.loop-slot-test.true in
    let some = h.some in
    let few = h.few in
    let pairs = c.args.pairs.now in
    let heads = c.args.chains.now.heads.items in
    let nexts = c.args.chains.now.nexts.items in
    let key = c.args.key.now in
    let slot = c.loop-slot.slot in
    let inside : slot - 1 < length pairs = omega (arith, some, few) in
    let e : c.next-slot.result ≡ slice_index nexts slot = c.next-slot.ensures in
    subst (IsWalk pairs heads nexts key c.args.at) (sym e)
    (walk_steps pairs heads nexts key c.args.at slot c.index-pairs-slot.result c.loop-slot.invariant c.loop-slot-test.true
    (slice_get-get_or pairs (slot - 1) c.index-pairs-slot.result inside ∙ ap Some (sym c.index-pairs-slot.is)) (sym c.eq.ensures ∙ c.if-eq.false))

pub returns-clause-none : goal.returns-clause-none
returns-clause-none c = walk_ends _ _ _ _ _ _ c.loop-slot.invariant (omega (arith, c.loop-slot-test.false))
