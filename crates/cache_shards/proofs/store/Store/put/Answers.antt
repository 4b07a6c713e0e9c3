use Rattle.std.proofs.Common.{◌≡◌, ℕ, ◌+◌, ◌-◌, ◌<◌, ◌≤◌, ◌∷◌, ◌++◌, [], length, subst, sym, ap, ◌∙◌, arith, Some, List}
use Rattle.std.specs.Prelude.{slice_get, slice_index, slice_set}
use Rattle.std.proofs.lemmas.Option.{slice_get-get_or, slice_get_within}
use Rattle.lru.specs.LruCache.{lru_cache}
use Rattle.slot_lists.specs.Links.{IsIn, walked}
use Rattle.slot_lists.specs.Rings.{OrderData, order_data}
use Rattle.slot_lists.specs.Chained.{IsChainWith, IsCut}
use Rattle.slot_lists.proofs.Links.{in_middle}
use Rattle.slot_lists.proofs.Chained.{chain_with}
use Rattle.cache_shards.specs.Steps.{put_in}
use Rattle.cache_shards.specs.Stores.{StoreData}
use Rattle.cache_shards.specs.Slots.{Pair, IsPairOf, AreOthers, IsStore, shown, place_at}
use Rattle.cache_shards.proofs.Keeping.{place_low, place_is, chain_is, missing, in_use, placed_at, fronted, renewed, again_is, grown, more_is, cut_lengths, replaced, over_is}
use Rattle.cache_shards.proofs.store.Store.put.Goals as goal

pub find-requires-clause-at : goal.find-requires-clause-at
find-requires-clause-at c =
    let s = c.self.invariant in
    let low = place_low c.self.inside.seed c.self.inside.room c.args.key s.some in
    omega (arith, low, s.heads, c.place_of-at.ensures)

pub find-requires-clause-chain : goal.find-requires-clause-chain
find-requires-clause-chain c =
    let s = c.self.invariant in
    let low = place_low c.self.inside.seed c.self.inside.room c.args.key s.some in
    let at_low : c.place_of-at.result < c.self.inside.room = omega (arith, low, c.place_of-at.ensures) in
    rw c.as_slice.ensures.value (s.chain c.place_of-at.result, chain_is _ _ _ _ _ s c.place_of-at.result at_low)

pub index_mut-requires : goal.index_mut-requires
index_mut-requires c =
    let i = c.self.inside in
    let pairs = i.pairs.items in
    let slot = c.in-Some.slot in
    let f : IsPairOf pairs c.args.key slot = subst (λ (l : List Pair). IsPairOf l c.args.key slot) c.as_slice.ensures.value c.in-Some.ensures.found in
    let inside = slice_get_within pairs (slot - 1) f.pair f.is in
    omega (arith, inside, i.pairs.ok.0)

pub to_front-requires : goal.to_front-requires
to_front-requires c =
    let i = c.self.inside in
    let pairs = i.pairs.items in
    let slot = c.in-Some.slot in
    let f : IsPairOf pairs c.args.key slot = subst (λ (l : List Pair). IsPairOf l c.args.key slot) c.as_slice.ensures.value c.in-Some.ensures.found in
    let inside = slice_get_within pairs (slot - 1) f.pair f.is in
    let p = c.index_mut.result.now in
    let is : slice_get pairs (slot - 1) ≡ Some p = slice_get-get_or pairs (slot - 1) p inside ∙ ap Some (sym c.index_mut.ensures.value) in
    let w = placed_at i.seed pairs i.order i.chains i.room c.args.key slot p c.self.invariant f is in
    subst (IsIn slot) (sym w.parts) (in_middle w.xs slot w.ys)

pub invariant_of-self : goal.invariant_of-self
invariant_of-self c =
    let i = c.self.inside in
    let pairs = i.pairs.items in
    let slot = c.in-Some.slot in
    let f : IsPairOf pairs c.args.key slot = subst (λ (l : List Pair). IsPairOf l c.args.key slot) c.as_slice.ensures.value c.in-Some.ensures.found in
    let inside = slice_get_within pairs (slot - 1) f.pair f.is in
    let p = c.index_mut.result.now in
    let is : slice_get pairs (slot - 1) ≡ Some p = slice_get-get_or pairs (slot - 1) p inside ∙ ap Some (sym c.index_mut.ensures.value) in
    let w = placed_at i.seed pairs i.order i.chains i.room c.args.key slot p c.self.invariant f is in
    subst (λ (o : OrderData). IsStore i.seed (slice_set pairs (slot - 1) (p.0, c.args.entry)) o i.chains i.room) (sym (c.to_front.ensures w.xs w.ys w.parts))
    (fronted i.seed (slice_set pairs (slot - 1) (p.0, c.args.entry)) i.order i.chains i.room w.xs slot w.ys
    (renewed i.seed pairs i.order i.chains i.room slot p c.args.entry c.self.invariant is) w.parts)

pub returns-in-Some : goal.returns-in-Some
returns-in-Some c =
    let i = c.self.inside in
    let pairs = i.pairs.items in
    let slot = c.in-Some.slot in
    let f : IsPairOf pairs c.args.key slot = subst (λ (l : List Pair). IsPairOf l c.args.key slot) c.as_slice.ensures.value c.in-Some.ensures.found in
    let inside = slice_get_within pairs (slot - 1) f.pair f.is in
    let p = c.index_mut.result.now in
    let is : slice_get pairs (slot - 1) ≡ Some p = slice_get-get_or pairs (slot - 1) p inside ∙ ap Some (sym c.index_mut.ensures.value) in
    let w = placed_at i.seed pairs i.order i.chains i.room c.args.key slot p c.self.invariant f is in
    ap (λ (o : OrderData). lru_cache (shown (slice_set pairs (slot - 1) (p.0, c.args.entry)) o.slots) i.room) (c.to_front.ensures w.xs w.ys w.parts)
    ∙ again_is i.seed pairs i.order i.chains i.room c.args.key slot p c.args.entry c.self.invariant w f.some
    ∙ ap (λ (s : StoreData). put_in s c.args.key c.args.entry) c.self.view_is

pub link-requires-clause-at : goal.link-requires-clause-at
link-requires-clause-at c =
    let s = c.self.invariant in
    let low = place_low c.self.inside.seed c.self.inside.room c.args.key s.some in
    omega (arith, low, s.heads, c.place_of-at.ensures)

pub add-requires-clause-apart : goal.add-requires-clause-apart
add-requires-clause-apart c =
    let i = c.self.inside in
    let s = c.self.invariant in
    let pairs = i.pairs.items in
    let others0 = subst (λ (l : List Pair). AreOthers l c.args.key (walked (length i.chains.nexts.items) i.chains.nexts.items (slice_index i.chains.heads.items c.place_of-at.result)))
    c.as_slice.ensures.value c.in_default.ensures.none in
    let others = missing i.seed pairs i.order i.chains i.room c.args.key c.place_of-at.result s c.place_of-at.ensures others0 in
    let many : c.len-many.result ≡ length pairs = omega (arith, c.len-many.ensures, i.pairs.ok.0) in
    λ h. let high = s.high (c.len-many.result + 1) h in absurd (omega (arith, high, many))

pub invariant_of-self-then-many-self : goal.invariant_of-self-then-many-self
invariant_of-self-then-many-self c =
    let i = c.self.inside in
    let s = c.self.invariant in
    let pairs = i.pairs.items in
    let others0 = subst (λ (l : List Pair). AreOthers l c.args.key (walked (length i.chains.nexts.items) i.chains.nexts.items (slice_index i.chains.heads.items c.place_of-at.result)))
    c.as_slice.ensures.value c.in_default.ensures.none in
    let others = missing i.seed pairs i.order i.chains i.room c.args.key c.place_of-at.result s c.place_of-at.ensures others0 in
    let many : c.len-many.result ≡ length pairs = omega (arith, c.len-many.ensures, i.pairs.ok.0) in
    let more : length pairs < i.room = omega (arith, many, c.if-many-self.true) in
    let heads : c.link.new.self.heads.items ≡ slice_set i.chains.heads.items c.place_of-at.result (length pairs + 1) =
    c.link.ensures.heads ∙ ap (λ (n : ℕ). slice_set i.chains.heads.items c.place_of-at.result (n + 1)) many in
    let nexts : c.link.new.self.nexts.items ≡ slice_set i.chains.nexts.items (length pairs + 1) (slice_index i.chains.heads.items c.place_of-at.result) =
    c.link.ensures.nexts ∙ ap (λ (n : ℕ). slice_set i.chains.nexts.items (n + 1) (slice_index i.chains.heads.items c.place_of-at.result)) many in
    let order : c.add.new.self ≡ order_data ((length pairs + 1) ∷ i.order.slots) i.order.places =
    c.add.ensures ∙ ap (λ (n : ℕ). order_data ((n + 1) ∷ i.order.slots) i.order.places) many in
    subst (λ (l : List Pair). IsStore i.seed l c.add.new.self c.link.new.self i.room) (sym c.in-Ok.ensures.items)
    (subst (λ (o : OrderData). IsStore i.seed (pairs ++ (c.args.key, c.args.entry) ∷ []) o c.link.new.self i.room) (sym order)
    (grown i.seed pairs i.order i.chains c.link.new.self i.room c.args.key c.args.entry c.place_of-at.result s others more c.place_of-at.ensures heads nexts))

pub returns-then-many-self : goal.returns-then-many-self
returns-then-many-self c =
    let i = c.self.inside in
    let s = c.self.invariant in
    let pairs = i.pairs.items in
    let others0 = subst (λ (l : List Pair). AreOthers l c.args.key (walked (length i.chains.nexts.items) i.chains.nexts.items (slice_index i.chains.heads.items c.place_of-at.result)))
    c.as_slice.ensures.value c.in_default.ensures.none in
    let others = missing i.seed pairs i.order i.chains i.room c.args.key c.place_of-at.result s c.place_of-at.ensures others0 in
    let many : c.len-many.result ≡ length pairs = omega (arith, c.len-many.ensures, i.pairs.ok.0) in
    let more : length pairs < i.room = omega (arith, many, c.if-many-self.true) in
    let heads : c.link.new.self.heads.items ≡ slice_set i.chains.heads.items c.place_of-at.result (length pairs + 1) =
    c.link.ensures.heads ∙ ap (λ (n : ℕ). slice_set i.chains.heads.items c.place_of-at.result (n + 1)) many in
    let nexts : c.link.new.self.nexts.items ≡ slice_set i.chains.nexts.items (length pairs + 1) (slice_index i.chains.heads.items c.place_of-at.result) =
    c.link.ensures.nexts ∙ ap (λ (n : ℕ). slice_set i.chains.nexts.items (n + 1) (slice_index i.chains.heads.items c.place_of-at.result)) many in
    let order : c.add.new.self ≡ order_data ((length pairs + 1) ∷ i.order.slots) i.order.places =
    c.add.ensures ∙ ap (λ (n : ℕ). order_data ((n + 1) ∷ i.order.slots) i.order.places) many in
    ap (λ (l : List Pair). lru_cache (shown l c.add.new.self.slots) i.room) c.in-Ok.ensures.items
    ∙ ap (λ (o : OrderData). lru_cache (shown (pairs ++ (c.args.key, c.args.entry) ∷ []) o.slots) i.room) order
    ∙ more_is i.seed pairs i.order i.chains i.room c.args.key c.args.entry s others more
    ∙ ap (λ (t : StoreData). put_in t c.args.key c.args.entry) c.self.view_is

pub overflow_sub-slot-2 : goal.overflow_sub-slot-2
overflow_sub-slot-2 c =
    let i = c.self.inside in
    let s = c.self.invariant in
    let pairs = i.pairs.items in
    let slot = c.last-slot.result in
    let l = c.last-slot.ensures in
    let slot_in : IsIn slot i.order.slots = subst (IsIn slot) (sym l.1) (in_middle l.0 slot []) in
    let some = s.low slot slot_in in
    let few = s.high slot slot_in in
    let inside : slot - 1 < length pairs = omega (arith, some, few) in
    omega (arith, some)

pub index-requires : goal.index-requires
index-requires c =
    let i = c.self.inside in
    let s = c.self.invariant in
    let pairs = i.pairs.items in
    let slot = c.last-slot.result in
    let l = c.last-slot.ensures in
    let slot_in : IsIn slot i.order.slots = subst (IsIn slot) (sym l.1) (in_middle l.0 slot []) in
    let some = s.low slot slot_in in
    let few = s.high slot slot_in in
    let inside : slot - 1 < length pairs = omega (arith, some, few) in
    omega (arith, inside, i.pairs.ok.0)

pub unlink-requires-clause-at : goal.unlink-requires-clause-at
unlink-requires-clause-at c =
    let i = c.self.inside in
    let s = c.self.invariant in
    let pairs = i.pairs.items in
    let slot = c.last-slot.result in
    let l = c.last-slot.ensures in
    let slot_in : IsIn slot i.order.slots = subst (IsIn slot) (sym l.1) (in_middle l.0 slot []) in
    let some = s.low slot slot_in in
    let few = s.high slot slot_in in
    let inside : slot - 1 < length pairs = omega (arith, some, few) in
    let q = c.index.result.now in
    let is : slice_get pairs (slot - 1) ≡ Some q = slice_get-get_or pairs (slot - 1) q inside ∙ ap Some (sym c.index.ensures) in
    let was : place_at i.seed i.room pairs slot ≡ c.place_of-was.result = place_is i.seed i.room pairs slot q is ∙ sym c.place_of-was.ensures in
    let low = place_low i.seed i.room q.0 s.some in
    omega (arith, low, s.heads, c.place_of-was.ensures)

pub unlink-requires-clause-chain : goal.unlink-requires-clause-chain
unlink-requires-clause-chain c =
    let i = c.self.inside in
    let s = c.self.invariant in
    let pairs = i.pairs.items in
    let slot = c.last-slot.result in
    let l = c.last-slot.ensures in
    let slot_in : IsIn slot i.order.slots = subst (IsIn slot) (sym l.1) (in_middle l.0 slot []) in
    let some = s.low slot slot_in in
    let few = s.high slot slot_in in
    let inside : slot - 1 < length pairs = omega (arith, some, few) in
    let q = c.index.result.now in
    let is : slice_get pairs (slot - 1) ≡ Some q = slice_get-get_or pairs (slot - 1) q inside ∙ ap Some (sym c.index.ensures) in
    let was : place_at i.seed i.room pairs slot ≡ c.place_of-was.result = place_is i.seed i.room pairs slot q is ∙ sym c.place_of-was.ensures in
    let place = place_at i.seed i.room pairs slot in (
      s.chain place,
      subst (λ (z : ℕ). IsChainWith i.chains.heads.items i.chains.nexts.items z slot (s.chain place)) was
          (chain_with i.chains.heads.items i.chains.nexts.items (place_at i.seed i.room pairs) (length pairs) s.chain slot s.chained (in_use i.seed pairs i.order i.chains i.room s slot slot_in)),
    )

pub overflow_sub-slot-3 : goal.overflow_sub-slot-3
overflow_sub-slot-3 c =
    let i = c.self.inside in
    let s = c.self.invariant in
    let pairs = i.pairs.items in
    let slot = c.last-slot.result in
    let l = c.last-slot.ensures in
    let slot_in : IsIn slot i.order.slots = subst (IsIn slot) (sym l.1) (in_middle l.0 slot []) in
    let some = s.low slot slot_in in
    let few = s.high slot slot_in in
    let inside : slot - 1 < length pairs = omega (arith, some, few) in
    omega (arith, some)

pub index_mut-requires-2 : goal.index_mut-requires-2
index_mut-requires-2 c =
    let i = c.self.inside in
    let s = c.self.invariant in
    let pairs = i.pairs.items in
    let slot = c.last-slot.result in
    let l = c.last-slot.ensures in
    let slot_in : IsIn slot i.order.slots = subst (IsIn slot) (sym l.1) (in_middle l.0 slot []) in
    let some = s.low slot slot_in in
    let few = s.high slot slot_in in
    let inside : slot - 1 < length pairs = omega (arith, some, few) in
    omega (arith, inside, i.pairs.ok.0)

pub link-requires-2-clause-at : goal.link-requires-2-clause-at
link-requires-2-clause-at c =
    let i = c.self.inside in
    let s = c.self.invariant in
    let pairs = i.pairs.items in
    let slot = c.last-slot.result in
    let l = c.last-slot.ensures in
    let slot_in : IsIn slot i.order.slots = subst (IsIn slot) (sym l.1) (in_middle l.0 slot []) in
    let some = s.low slot slot_in in
    let few = s.high slot slot_in in
    let inside : slot - 1 < length pairs = omega (arith, some, few) in
    let lengths = cut_lengths i.chains.heads.items i.chains.nexts.items c.place_of-was.result slot c.unlink.new.self.heads.items c.unlink.new.self.nexts.items c.unlink.ensures in
    let low = place_low i.seed i.room c.args.key s.some in
    let len = lengths.0 in
    omega (arith, low, s.heads, c.place_of-at.ensures, len)

pub link-requires-2-clause-slot : goal.link-requires-2-clause-slot
link-requires-2-clause-slot c =
    let i = c.self.inside in
    let s = c.self.invariant in
    let pairs = i.pairs.items in
    let slot = c.last-slot.result in
    let l = c.last-slot.ensures in
    let slot_in : IsIn slot i.order.slots = subst (IsIn slot) (sym l.1) (in_middle l.0 slot []) in
    let some = s.low slot slot_in in
    let few = s.high slot slot_in in
    let inside : slot - 1 < length pairs = omega (arith, some, few) in
    let lengths = cut_lengths i.chains.heads.items i.chains.nexts.items c.place_of-was.result slot c.unlink.new.self.heads.items c.unlink.new.self.nexts.items c.unlink.ensures in
    let len = lengths.1 in
    omega (arith, few, s.few, s.nexts, len)

pub to_front-requires-2 : goal.to_front-requires-2
to_front-requires-2 c =
    let i = c.self.inside in
    let s = c.self.invariant in
    let pairs = i.pairs.items in
    let slot = c.last-slot.result in
    let l = c.last-slot.ensures in
    let slot_in : IsIn slot i.order.slots = subst (IsIn slot) (sym l.1) (in_middle l.0 slot []) in
    let some = s.low slot slot_in in
    let few = s.high slot slot_in in
    let inside : slot - 1 < length pairs = omega (arith, some, few) in
    slot_in

pub invariant_of-self-2 : goal.invariant_of-self-2
invariant_of-self-2 c =
    let i = c.self.inside in
    let s = c.self.invariant in
    let pairs = i.pairs.items in
    let slot = c.last-slot.result in
    let l = c.last-slot.ensures in
    let slot_in : IsIn slot i.order.slots = subst (IsIn slot) (sym l.1) (in_middle l.0 slot []) in
    let some = s.low slot slot_in in
    let few = s.high slot slot_in in
    let inside : slot - 1 < length pairs = omega (arith, some, few) in
    let q = c.index.result.now in
    let is : slice_get pairs (slot - 1) ≡ Some q = slice_get-get_or pairs (slot - 1) q inside ∙ ap Some (sym c.index.ensures) in
    let was : place_at i.seed i.room pairs slot ≡ c.place_of-was.result = place_is i.seed i.room pairs slot q is ∙ sym c.place_of-was.ensures in
    let others0 = subst (λ (l : List Pair). AreOthers l c.args.key (walked (length i.chains.nexts.items) i.chains.nexts.items (slice_index i.chains.heads.items c.place_of-at.result)))
    c.as_slice.ensures.value c.in_default.ensures.none in
    let others = missing i.seed pairs i.order i.chains i.room c.args.key c.place_of-at.result s c.place_of-at.ensures others0 in
    let pairs2 = slice_set pairs (slot - 1) (c.args.key, c.args.entry) in
    let order = c.to_front-2.ensures l.0 [] l.1 in
    let cut_is = subst (λ (z : ℕ). IsCut i.chains.heads.items i.chains.nexts.items z slot c.unlink.new.self.heads.items c.unlink.new.self.nexts.items) (sym was) c.unlink.ensures in
    subst (λ (o : OrderData). IsStore i.seed pairs2 o c.link-2.new.self i.room) (sym order)
    (fronted i.seed pairs2 i.order c.link-2.new.self i.room l.0 slot []
    (replaced i.seed pairs i.order i.chains c.unlink.new.self c.link-2.new.self i.room c.args.key c.args.entry c.place_of-at.result slot s others slot_in c.place_of-at.ensures
    cut_is c.link-2.ensures.heads c.link-2.ensures.nexts) l.1)

pub returns : goal.returns
returns c =
    let i = c.self.inside in
    let s = c.self.invariant in
    let pairs = i.pairs.items in
    let slot = c.last-slot.result in
    let l = c.last-slot.ensures in
    let slot_in : IsIn slot i.order.slots = subst (IsIn slot) (sym l.1) (in_middle l.0 slot []) in
    let some = s.low slot slot_in in
    let few = s.high slot slot_in in
    let inside : slot - 1 < length pairs = omega (arith, some, few) in
    let q = c.index.result.now in
    let is : slice_get pairs (slot - 1) ≡ Some q = slice_get-get_or pairs (slot - 1) q inside ∙ ap Some (sym c.index.ensures) in
    let was : place_at i.seed i.room pairs slot ≡ c.place_of-was.result = place_is i.seed i.room pairs slot q is ∙ sym c.place_of-was.ensures in
    let others0 = subst (λ (l : List Pair). AreOthers l c.args.key (walked (length i.chains.nexts.items) i.chains.nexts.items (slice_index i.chains.heads.items c.place_of-at.result)))
    c.as_slice.ensures.value c.in_default.ensures.none in
    let others = missing i.seed pairs i.order i.chains i.room c.args.key c.place_of-at.result s c.place_of-at.ensures others0 in
    let pairs2 = slice_set pairs (slot - 1) (c.args.key, c.args.entry) in
    let order = c.to_front-2.ensures l.0 [] l.1 in
    let many : c.len-many.result ≡ length pairs = omega (arith, c.len-many.ensures, i.pairs.ok.0) in
    let full : i.room ≤ length pairs = omega (arith, many, c.if-many-self.false) in
    ap (λ (o : OrderData). lru_cache (shown pairs2 o.slots) i.room) order
    ∙ over_is i.seed pairs i.order i.chains i.room c.args.key c.args.entry l.0 slot q s others full l.1 is
    ∙ ap (λ (t : StoreData). put_in t c.args.key c.args.entry) c.self.view_is
