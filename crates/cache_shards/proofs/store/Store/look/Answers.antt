use Rattle.std.proofs.Common.{◌≡◌, ◌-◌, ◌<◌, length, subst, sym, ap, ◌∙◌, arith, None, Some, refl, cond, Bool, true, false, List}
use Rattle.std.specs.Prelude.{slice_index}
use Rattle.std.specs.Arc.{arc_value}
use Rattle.std.proofs.lemmas.Option.{slice_get-get_or, slice_get_within}
use Rattle.lru.specs.LruCache.{lru_cache}
use Rattle.outside.specs.{EntryData}
use Rattle.slot_lists.specs.Links.{IsIn, walked}
use Rattle.slot_lists.specs.Rings.{OrderData}
use Rattle.slot_lists.proofs.Links.{in_middle}
use Rattle.cache_shards.specs.Answers.{is_live}
use Rattle.cache_shards.specs.Steps.{live_in, promoted_in}
use Rattle.cache_shards.specs.Stores.{StoreData}
use Rattle.cache_shards.specs.Slots.{Pair, IsPairOf, AreOthers, IsStore, shown}
use Rattle.cache_shards.proofs.Keeping.{place_low, chain_is, none_live, placed_at, live_is, fronted, promoted_is}
use Rattle.cache_shards.proofs.store.Store.look.Goals as goal

pub find-requires-clause-at : goal.find-requires-clause-at
find-requires-clause-at c =
    let s = c.self.invariant in
    let low = place_low c.self.inside.seed c.self.inside.room c.args.key.now s.some in
    omega (arith, low, s.heads, c.place_of-at.ensures)

pub find-requires-clause-chain : goal.find-requires-clause-chain
find-requires-clause-chain c =
    let s = c.self.invariant in
    let low = place_low c.self.inside.seed c.self.inside.room c.args.key.now s.some in
    let at_low : c.place_of-at.result < c.self.inside.room = omega (arith, low, c.place_of-at.ensures) in
    rw c.as_slice.ensures.value (s.chain c.place_of-at.result, chain_is _ _ _ _ _ s c.place_of-at.result at_low)

pub returns-in_default : goal.returns-in_default
returns-in_default c =
    let i = c.self.inside in
    let others = subst (λ (l : List Pair). AreOthers l c.args.key.now (walked (length i.chains.nexts.items) i.chains.nexts.items (slice_index i.chains.heads.items c.place_of-at.result)))
    c.as_slice.ensures.value c.in_default.ensures.none in (
      subst (λ (s : StoreData). live_in s c.args.key.now c.args.now ≡ None) c.self.view_is
          (none_live i.seed i.pairs.items i.order i.chains i.room c.args.key.now c.place_of-at.result c.args.now c.self.invariant c.place_of-at.ensures others),
      refl,
    )

pub index-requires : goal.index-requires
index-requires c =
    let pairs = c.self.inside.pairs.items in
    let f : IsPairOf pairs c.args.key.now c.in-Some.hit = subst (λ (l : List Pair). IsPairOf l c.args.key.now c.in-Some.hit) c.as_slice.ensures.value c.in-Some.ensures.found in
    let inside = slice_get_within pairs (c.in-Some.hit - 1) f.pair f.is in
    omega (arith, inside, c.self.inside.pairs.ok.0)

pub returns-then-not-is_live : goal.returns-then-not-is_live
returns-then-not-is_live c =
    let i = c.self.inside in
    let pairs = i.pairs.items in
    let slot = c.in-Some.hit in
    let p = c.index.result.now in
    let f : IsPairOf pairs c.args.key.now slot = subst (λ (l : List Pair). IsPairOf l c.args.key.now slot) c.as_slice.ensures.value c.in-Some.ensures.found in
    let inside = slice_get_within pairs (slot - 1) f.pair f.is in
    let w = placed_at i.seed pairs i.order i.chains i.room c.args.key.now slot p c.self.invariant f (slice_get-get_or pairs (slot - 1) p inside ∙ ap Some (sym c.index.ensures)) in
    let dead : is_live (arc_value p.1) c.args.now ≡ false = ap (λ (e : EntryData). is_live e c.args.now) (sym c.deref.ensures) ∙ sym c.is_live.ensures ∙ c.if-not-is_live.true in (
      subst (λ (s : StoreData). live_in s c.args.key.now c.args.now ≡ None) c.self.view_is
          (live_is pairs i.order.slots c.args.key.now slot p i.room c.args.now w ∙ ap (λ (b : Bool). cond b (Some (arc_value p.1)) None) dead),
      refl,
    )

pub to_front-requires : goal.to_front-requires
to_front-requires c =
    let i = c.self.inside in
    let pairs = i.pairs.items in
    let slot = c.in-Some.hit in
    let p = c.index.result.now in
    let f : IsPairOf pairs c.args.key.now slot = subst (λ (l : List Pair). IsPairOf l c.args.key.now slot) c.as_slice.ensures.value c.in-Some.ensures.found in
    let inside = slice_get_within pairs (slot - 1) f.pair f.is in
    let w = placed_at i.seed pairs i.order i.chains i.room c.args.key.now slot p c.self.invariant f (slice_get-get_or pairs (slot - 1) p inside ∙ ap Some (sym c.index.ensures)) in
    subst (IsIn slot) (sym w.parts) (in_middle w.xs slot w.ys)

pub invariant_of-self : goal.invariant_of-self
invariant_of-self c =
    let i = c.self.inside in
    let pairs = i.pairs.items in
    let slot = c.in-Some.hit in
    let p = c.index.result.now in
    let f : IsPairOf pairs c.args.key.now slot = subst (λ (l : List Pair). IsPairOf l c.args.key.now slot) c.as_slice.ensures.value c.in-Some.ensures.found in
    let inside = slice_get_within pairs (slot - 1) f.pair f.is in
    let w = placed_at i.seed pairs i.order i.chains i.room c.args.key.now slot p c.self.invariant f (slice_get-get_or pairs (slot - 1) p inside ∙ ap Some (sym c.index.ensures)) in
    subst (λ (o : OrderData). IsStore i.seed pairs o i.chains i.room) (sym (c.to_front.ensures w.xs w.ys w.parts))
    (fronted i.seed pairs i.order i.chains i.room w.xs slot w.ys c.self.invariant w.parts)

pub returns : goal.returns
returns c =
    let i = c.self.inside in
    let pairs = i.pairs.items in
    let slot = c.in-Some.hit in
    let p = c.index.result.now in
    let f : IsPairOf pairs c.args.key.now slot = subst (λ (l : List Pair). IsPairOf l c.args.key.now slot) c.as_slice.ensures.value c.in-Some.ensures.found in
    let inside = slice_get_within pairs (slot - 1) f.pair f.is in
    let w = placed_at i.seed pairs i.order i.chains i.room c.args.key.now slot p c.self.invariant f (slice_get-get_or pairs (slot - 1) p inside ∙ ap Some (sym c.index.ensures)) in
    let alive : is_live (arc_value p.1) c.args.now ≡ true = ap (λ (e : EntryData). is_live e c.args.now) (sym c.deref.ensures) ∙ sym c.is_live.ensures ∙ c.if-not-is_live.false in (
      subst (λ (s : StoreData). live_in s c.args.key.now c.args.now ≡ Some (arc_value c.in-Ok.copy)) c.self.view_is
          (live_is pairs i.order.slots c.args.key.now slot p i.room c.args.now w ∙ ap (λ (b : Bool). cond b (Some (arc_value p.1)) None) alive
          ∙ ap (λ (e : EntryData). Some e) (sym c.in-Ok.ensures)),
      ap (λ (o : OrderData). lru_cache (shown pairs o.slots) i.room) (c.to_front.ensures w.xs w.ys w.parts)
          ∙ ap (λ (l : List Pair). lru_cache l i.room) (sym (promoted_is pairs i.order.slots c.args.key.now slot p w))
          ∙ ap (λ (s : StoreData). promoted_in s c.args.key.now) c.self.view_is,
    )
