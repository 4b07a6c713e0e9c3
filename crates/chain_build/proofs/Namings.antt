-- Which caches serve blocks, and what new ones leave of those that are held.
use Rattle.std.proofs.Common.{◌≡◌, ◌≢◌, ◌≤◌, ◌<◌, ◌∙◌, inl, inr, ℕ, zero, suc, ◌+◌, true, false, List, [], ◌∷◌, ◌++◌, map, length, is_some, option_map, Option, Some, None, Result, Ok, Err, IfOk, refl, sym, ap, subst, arith, append_assoc}
use Rattle.std.specs.Prelude.{slice_get}
use Rattle.std.proofs.lemmas.List.{append-nil, append_cancel_left}
use Rattle.std.proofs.lemmas.List.Elements.{All-nil}
use Rattle.std.proofs.lemmas.Option.{same_Some}
use Rattle.block_readings.specs.Behind.{block_behind, steps_behind}
use Rattle.block_readings.specs.PlansLaws.{bare_plan}
use Rattle.block_readings.specs.Readings.{BlockReading, block_reading}
use Rattle.block_readings.specs.SameMeaningLaws.{behind_stays}
use Rattle.cache_shards.specs.Planned.{planned_capacities}
use Rattle.dns_data.specs.declared.block.Block.{Block}
use Rattle.dns_lists.specs.declared.memory.NoMemory.{NoMemory}
use Rattle.dns_data.specs.declared.file.FileText.{FileText}
use Rattle.dns_data.specs.declared.query.Query.{Query}
use Rattle.lent_caches.specs.ApartLaws.{both, same_is}
use Rattle.lent_caches.specs.Held.{AreApart, HeldData, IsAbsent}
use Rattle.lent_caches.specs.Judging.{judge_reading, plan_read}
use Rattle.lent_caches.specs.Ledger.{Each, count_named, IsNamed as IsHeldName}
use Rattle.lent_caches.specs.Made.{IsMade}
use Rattle.lent_caches.specs.Named.{IsHeldBy, NamedData}
use Rattle.lent_caches.specs.NamedLaws.{by_last, by_more}
use Rattle.lent_caches.specs.Names.{same_name}
use Rattle.lent_caches.specs.PlanLaws.{cached_stays, plan_stays, room_stays}
use Rattle.lent_caches.specs.declared.judge.BlockJudge.{BlockJudge}
use Rattle.lent_caches.specs.declared.name.CacheName.{CacheName}
use Rattle.lent_caches.specs.declared.name.NamedCache.{NamedCache}
use Rattle.outside.specs.Meanings.{Meaning}
use Rattle.outside.specs.declared.mark.Mark.{Mark}
use Rattle.plugin_api.specs.{PlanData, Sayings, Takings}
use Rattle.chain_meaning.specs.Mean.{mean}
use Rattle.chain_meaning.specs.declared.decision.Decision.{Decision}
use Rattle.chain_build.specs.Judges.{Judges}
use Rattle.chain_build.specs.Lending.{AreHeldBy, IsNamed, names_in}
use Rattle.chain_build.specs.Naming.{AbsentFrom, AddsCaches, AreMadeFor, AreUsedBy, BeginsCache, FindsSame, GenerationData, GoesOn, IsMadeFor, IsNewFrom, IsCachedAs, NameBlocks, NamesBlock, NamesChains, NamesReadings, Precedes, SameChain, SameChains, UsesNew, change, generation_data, name_at}
use Rattle.chain_build.specs.Plans.{ArePlans, PlansData, behind_of, block_cache, cache_in}
use Rattle.chain_build.specs.Uses.{chain_named}
use Rattle.chain_build.specs.declared.block.BlockChain.{BlockChain}
use Rattle.chain_build.specs.declared.naming.Generation.{Generation}
use Rattle.chain_build.specs.declared.naming.Naming.{Naming}

-- the judge of a cache that was made for a block judges by what stands behind the block's cache
pub judges_block : (files : List FileText) (block : Block) (chain : BlockChain) (n : NamedData) → behind_of chain ≡ block_behind files block → chain.cache ≡ block_cache block → IsMadeFor (block_reading files block) n
    → Judges n.cache.judge chain.cache chain.rewrites chain.back
judges_block files block chain n behind cached made =
    subst (λ (r : BlockReading). ((q : Query) (marks : List Mark) → mean (steps_behind r) q marks ≡ mean (behind_of chain) q marks) × (plan_read r ≡ option_map bare_plan chain.cache)) (sym made.judge) (
      λ q marks. ap (λ (m : Query → List Mark → Meaning Decision). m q marks) (behind_stays files block ∙ sym (ap mean behind)),
      plan_stays files block ∙ ap (option_map bare_plan) (sym cached),
    )

-- a name is no other's
not_same : (a b : CacheName) → same_name a b ≡ false → same_name b a ≡ false
not_same a b e = both (same_name b a)
    (λ t.
    let is : b ≡ a = same_is b a t in
    absurd (cc (e, subst (λ (m : CacheName). same_name m b ≡ true) is (subst (λ (m : CacheName). same_name b m ≡ true) (sym is) t))))
    (λ f. f)

absent_more : (name : CacheName) (hs : List HeldData) (one : HeldData) → IsAbsent name hs → same_name one.name name ≡ false → IsAbsent name (hs ++ one ∷ [])
absent_more name [] one absent apart = (apart, tt)
absent_more name (h ∷ hs) one absent apart = (absent.0, absent_more name hs one absent.1 apart)

pub apart_push : (hs : List HeldData) (one : HeldData) → AreApart hs → IsAbsent one.name hs → AreApart (hs ++ one ∷ [])
apart_push [] one apart absent = (tt, tt)
apart_push (h ∷ hs) one apart absent = (absent_more h.name hs one apart.0 (not_same h.name one.name absent.0), apart_push hs one apart.1 absent.1)

-- one new cache is held besides
pub adds_one : (serial at : ℕ) (plan : PlanData) (judge : BlockJudge) (before after : List HeldData) → IsMade (name_at serial at) plan judge before after → AbsentFrom serial at before → AreApart before → AddsCaches serial at before after
adds_one serial at plan judge before after made absent apart =
    let name = made.new.name_is in
    record {
      fresh = made.one ∷ [];
      behind = made.behind;
      new = (
        record { serial_is = ap (λ (n : CacheName). n.serial) name; block_is = subst (λ (n : CacheName). at ≤ n.block) (sym name) (omega arith); none_out = made.new.none_out; none_back = made.new.none_back },
        tt,
      );
      apart = subst AreApart (sym made.behind) (apart_push before made.one apart (subst (λ (n : CacheName). IsAbsent n before) (sym name) (absent at (omega arith))));
    }

pub adds_none : (serial at : ℕ) (held : List HeldData) → AreApart held → AddsCaches serial at held held
adds_none serial at held apart = record { fresh = []; behind = sym (append-nil held); new = tt; apart = apart }

later : (serial at : ℕ) (fresh : List HeldData) → Each (IsNewFrom serial (at + 1)) fresh → Each (IsNewFrom serial at) fresh
later serial at [] new = tt
later serial at (h ∷ fresh) new =
    let low = new.0.block_is in
    (record { serial_is = new.0.serial_is; block_is = omega (arith, low); none_out = new.0.none_out; none_back = new.0.none_back }, later serial at fresh new.1)

each-append : (P : HeldData → Type 0) (hs more : List HeldData) → Each P hs → Each P more → Each P (hs ++ more)
each-append P [] more one other = other
each-append P (h ∷ hs) more one other = (one.0, each-append P hs more one.1 other)

pub adds_then : (serial at : ℕ) (before mid after : List HeldData) → AddsCaches serial at before mid → AddsCaches serial (at + 1) mid after → AddsCaches serial at before after
adds_then serial at before mid after one other = record {
  fresh = one.fresh ++ other.fresh;
  behind = other.behind ∙ ap (λ (h : List HeldData). h ++ other.fresh) one.behind ∙ append_assoc before one.fresh other.fresh;
  new = each-append (IsNewFrom serial at) one.fresh other.fresh one.new (later serial at other.fresh other.new);
  apart = other.apart;
}

-- where only a cache of one block is new, none is held under the names of those behind it
absent_one : (serial at block : ℕ) (h : HeldData) → h.name ≡ name_at serial at → at + 1 ≤ block → same_name h.name (name_at serial block) ≡ false
absent_one serial at block h is more = both (same_name h.name (name_at serial block))
    (λ t.
    let e : at ≡ block = ap (λ (n : CacheName). n.block) (sym is ∙ same_is h.name (name_at serial block) t) in
    absurd (omega (arith, e, more)))
    (λ f. f)

pub absent_behind : (serial at : ℕ) (before after : List HeldData) (one : HeldData) → after ≡ before ++ one ∷ [] → one.name ≡ name_at serial at → AbsentFrom serial at before → AbsentFrom serial (at + 1) after
absent_behind serial at before after one behind is absent block more =
    subst (IsAbsent (name_at serial block)) (sym behind) (absent_more (name_at serial block) before one (absent block (omega (arith, more))) (absent_one serial at block one is more))

pub absent_still : (serial at : ℕ) (held : List HeldData) → AbsentFrom serial at held → AbsentFrom serial (at + 1) held
absent_still serial at held absent block more = absent block (omega (arith, more))

-- the new cache under a name is what was made
pub begins : (name : CacheName) (files : List FileText) (block : Block) (plan : PlanData) (judge : BlockJudge) (n : NamedData) (before after : List HeldData) → IsMade name plan judge before after
    → judge_reading judge ≡ block_reading files block → block_cache block ≡ Some plan → IsAbsent name before → n.name ≡ name → IsHeldBy n after → BeginsCache name (block_reading files block) n before after
begins name files block plan judge n before after made reads is absent named by =
    let cache = by_last n before made.one (subst (λ (m : CacheName). IsAbsent m before) (sym named) absent) (subst (IsHeldBy n) made.behind by) in
    record {
      name_is = named;
      made = record {
        judge = ap (λ c. judge_reading c.judge) cache ∙ ap judge_reading made.new.judge_is ∙ reads;
        room = λ other reads_other.
            let same : bare_plan plan ≡ other = same_Some (bare_plan plan) other (sym (plan_stays files block ∙ ap (option_map bare_plan) is) ∙ reads_other) in
            ap (λ c. c.capacities) cache ∙ made.new.room ∙ sym (room_stays plan) ∙ ap planned_capacities same;
      };
      by = by;
      one = made.one;
      behind = made.behind;
      one_is = made.new.name_is;
    }

-- a look among one block more
pub finds_more : (reading other : BlockReading) (o : Option NamedData) (readings : List BlockReading) (named : List (Option NamedData)) (result : Option NamedCache) → (other ≢ reading) → FindsSame readings named reading result → FindsSame (other ∷ readings) (o ∷ named) reading result
finds_more reading other o readings named None differs finds = λ at. by at
  where
    by : (at : ℕ) → slice_get (other ∷ readings) at ≢ Some reading
    by zero is = differs (same_Some other reading is)
    by (suc at) is = finds at is
finds_more reading other o readings named (Some n) differs finds =
    record { other = suc finds.other; named = finds.named; reads = finds.reads }

-- what is read and named at a place
made_at : (readings : List BlockReading) (named : List (Option NamedData)) (at : ℕ) (r : BlockReading) (n : NamedData) → AreMadeFor readings named → slice_get readings at ≡ Some r → slice_get named at ≡ Some (Some n) → IsMadeFor r n
made_at [] named at r n made reads is = absurd cc
made_at (s ∷ readings) [] at r n made reads is = absurd made
made_at (s ∷ readings) (None ∷ named) zero r n made reads is = absurd cc
made_at (s ∷ readings) (Some m ∷ named) zero r n made reads is =
    let read : s ≡ r = same_Some s r reads in
    let same : m ≡ n = same_Some m n (same_Some (Some m) (Some n) is) in
    subst (λ (t : BlockReading). IsMadeFor t n) read (subst (IsMadeFor s) same made.0)
made_at (s ∷ readings) (None ∷ named) (suc at) r n made reads is = made_at readings named at r n made reads is
made_at (s ∷ readings) (Some m ∷ named) (suc at) r n made reads is = made_at readings named at r n made.1 reads is

by_at : (named : List (Option NamedData)) (held : List HeldData) (at : ℕ) (n : NamedData) → AreHeldBy named held → slice_get named at ≡ Some (Some n) → IsHeldBy n held
by_at [] held at n by is = absurd cc
by_at (None ∷ named) held zero n by is = absurd cc
by_at (Some m ∷ named) held zero n by is = subst (λ (k : NamedData). IsHeldBy k held) (same_Some m n (same_Some (Some m) (Some n) is)) by.0
by_at (None ∷ named) held (suc at) n by is = by_at named held at n by is
by_at (Some m ∷ named) held (suc at) n by is = by_at named held at n by.1 is

-- those that are held stay so
by_behind : (named : List (Option NamedData)) (held fresh : List HeldData) → AreHeldBy named held → AreHeldBy named (held ++ fresh)
by_behind [] held fresh by = tt
by_behind (None ∷ named) held fresh by = by_behind named held fresh by
by_behind (Some n ∷ named) held fresh by = (by_more n held fresh by.0, by_behind named held fresh by.1)

pub still_precedes : (g : Generation) (serial at : ℕ) (before after : List HeldData) → Precedes g before → AddsCaches serial at before after → Precedes g after
still_precedes g serial at before after p adds = record {
  short = p.short;
  cached = p.cached;
  served = record {
    named = p.served.named;
    made = p.served.made;
    by = subst (AreHeldBy (map chain_named g.chains.now)) (sym adds.behind) (by_behind (map chain_named g.chains.now) before adds.fresh p.served.by);
  };
}

-- nothing is new where nothing changed
none_new : (held fresh : List HeldData) → held ≡ held ++ fresh → fresh ≡ []
none_new held fresh is = append_cancel_left held fresh [] (sym is ∙ sym (append-nil held))

pub uses_none : (named : List (Option NamedData)) (held : List HeldData) → UsesNew named (change held held)
uses_none named held fresh is = subst (AreUsedBy (names_in named)) (sym (none_new held fresh is)) tt

one_counted : (name : CacheName) → 0 < count_named name (name ∷ [])
one_counted name = let same : same_name name name ≡ true = grind arith in rw same (omega arith)

-- one that is new is used under its name
uses_one : (n : NamedData) (before after : List HeldData) (one : HeldData) → after ≡ before ++ one ∷ [] → one.name ≡ n.name → UsesNew (Some n ∷ []) (change before after)
uses_one n before after one behind is fresh other =
    let same : one ∷ [] ≡ fresh = append_cancel_left before (one ∷ []) fresh (sym behind ∙ other) in
    subst (AreUsedBy (n.name ∷ [])) same (subst (λ (m : CacheName). 0 < count_named m (n.name ∷ [])) (sym is) (one_counted n.name), tt)

-- a block without a cache
pub names_none : (naming : Naming) (at : ℕ) (r : BlockReading) (o : Option NamedData) (held : List HeldData) → o ≡ None → NamesReadings naming at (r ∷ []) (o ∷ []) (change held held)
names_none naming at r None held is = record { made = tt; by = tt; names = tt; used = uses_none (None ∷ []) held }
names_none naming at r (Some n) held is = absurd cc

-- a block that goes on with a cache
pub names_on : (naming : Naming) (at : ℕ) (r : BlockReading) (n : NamedData) (held : List HeldData) → Precedes naming.before held → GoesOn (generation_data naming.before) r n → NamesReadings naming at (r ∷ []) (Some n ∷ []) (change held held)
names_on naming at r n held p goes = record {
  made = (made_at (generation_data naming.before).readings (generation_data naming.before).named goes.other r n p.served.made goes.reads goes.named, tt);
  by = (by_at (generation_data naming.before).named held goes.other n p.served.by goes.named, tt);
  names = (inl goes, tt);
  used = uses_none (Some n ∷ []) held;
}

-- and one that begins with a new one
pub names_new : (naming : Naming) (at : ℕ) (r : BlockReading) (n : NamedData) (before after : List HeldData) → ((other : ℕ) → slice_get (generation_data naming.before).readings other ≢ Some r) → BeginsCache (name_at naming.serial at) r n before after
    → NamesReadings naming at (r ∷ []) (Some n ∷ []) (change before after)
names_new naming at r n before after none begun = record {
  made = (begun.made, tt);
  by = (begun.by, tt);
  names = (inr (record { name_is = begun.name_is; none = none }), tt);
  used = uses_one n before after begun.one begun.behind (begun.one_is ∙ sym begun.name_is);
}

-- one block more
made_more : (r : BlockReading) (readings : List BlockReading) (o : Option NamedData) (named : List (Option NamedData)) → AreMadeFor (r ∷ []) (o ∷ []) → AreMadeFor readings named → AreMadeFor (r ∷ readings) (o ∷ named)
made_more r readings None named one rest = rest
made_more r readings (Some n) named one rest = (one.0, rest)

by_cons : (o : Option NamedData) (named : List (Option NamedData)) (held : List HeldData) → AreHeldBy (o ∷ []) held → AreHeldBy named held → AreHeldBy (o ∷ named) held
by_cons None named held one rest = rest
by_cons (Some n) named held one rest = (one.0, rest)

blocks_more : (before : GenerationData) (serial at : ℕ) (r : BlockReading) (readings : List BlockReading) (o : Option NamedData) (named : List (Option NamedData)) → NameBlocks before serial at (r ∷ []) (o ∷ []) → NameBlocks before serial (at + 1) readings named → NameBlocks before serial at (r ∷ readings) (o ∷ named)
blocks_more before serial at r readings None named one rest = rest
blocks_more before serial at r readings (Some n) named one rest = (one.0, rest)

used_first : (o : Option NamedData) (named : List (Option NamedData)) (fresh : List HeldData) → AreUsedBy (names_in (o ∷ [])) fresh → AreUsedBy (names_in (o ∷ named)) fresh
used_first o named [] used = tt
used_first None named (h ∷ fresh) used = let some = used.0 in absurd (omega (arith, some))
used_first (Some n) named (h ∷ fresh) used = let some = used.0 in (omega (arith, some), used_first (Some n) named fresh used.1)

used_rest : (o : Option NamedData) (named : List (Option NamedData)) (fresh : List HeldData) → AreUsedBy (names_in named) fresh → AreUsedBy (names_in (o ∷ named)) fresh
used_rest o named [] used = tt
used_rest None named (h ∷ fresh) used = used
used_rest (Some n) named (h ∷ fresh) used = let some = used.0 in (omega (arith, some), used_rest (Some n) named fresh used.1)

pub names_more : (naming : Naming) (at : ℕ) (r : BlockReading) (readings : List BlockReading) (o : Option NamedData) (named : List (Option NamedData)) (before mid after : List HeldData)
    → AddsCaches naming.serial at before mid → AddsCaches naming.serial (at + 1) mid after → NamesReadings naming at (r ∷ []) (o ∷ []) (change before mid) → NamesReadings naming (at + 1) readings named (change mid after)
    → NamesReadings naming at (r ∷ readings) (o ∷ named) (change before after)
names_more naming at r readings o named before mid after first then one rest = record {
  made = made_more r readings o named one.made rest.made;
  by = by_cons o named after (subst (AreHeldBy (o ∷ [])) (sym then.behind) (by_behind (o ∷ []) mid then.fresh one.by)) rest.by;
  names = blocks_more (generation_data naming.before) naming.serial at r readings o named one.names rest.names;
  used = λ fresh is.
      let both : after ≡ before ++ (first.fresh ++ then.fresh) = then.behind ∙ ap (λ (h : List HeldData). h ++ then.fresh) first.behind ∙ append_assoc before first.fresh then.fresh in
      let same : first.fresh ++ then.fresh ≡ fresh = append_cancel_left before (first.fresh ++ then.fresh) fresh (sym both ∙ is) in
      subst (AreUsedBy (names_in (o ∷ named))) same
      (each-append (λ h. 0 < count_named h.name (names_in (o ∷ named))) first.fresh then.fresh (used_first o named first.fresh (one.used first.fresh first.behind)) (used_rest o named then.fresh (rest.used then.fresh then.behind)));
}

pub names_nobody : (naming : Naming) (at : ℕ) (held : List HeldData) → NamesReadings naming at [] [] (change held held)
names_nobody naming at held = record { made = tt; by = tt; names = tt; used = uses_none [] held }

-- chains that are others by their caches alone
pub same_more : (old new : BlockChain) (olds news : List BlockChain) → SameChain old new → SameChains olds news → SameChains (old ∷ olds) (new ∷ news)
same_more old new olds news one rest = record {
  steps = λ said. λ i. one.steps said i ∷ rest.steps said i;
  behind = λ i. one.behind i ∷ rest.behind i;
  cached = λ i. one.cached i ∷ rest.cached i;
  extras = λ i. one.extras i ∷ rest.extras i;
  pools = λ i. one.pools i ∷ rest.pools i;
}

pub same_still : (chains : List BlockChain) → SameChains chains chains
same_still chains = record { steps = λ said. refl; behind = refl; cached = refl; extras = refl; pools = refl }

-- so plans stay those of their bundle
pub still_plans : (taken : Takings) (said : Sayings) (old : PlansData) (chains : List BlockChain) → ArePlans taken said old → SameChains old.chains chains → ArePlans taken said (record old { chains = chains })
still_plans taken said old chains are same = record {
  readable = are.readable;
  accepted = are.accepted;
  keyed = are.keyed;
  index = are.index;
  chains = same.steps said ∙ are.chains;
  behind = same.behind ∙ are.behind;
  cached = same.cached ∙ are.cached;
  extras = are.extras ∙ sym same.extras;
  extras_are = same.extras ∙ are.extras_are;
  taken_are = are.taken_are;
  few = are.few;
  ports = are.ports;
}

-- a cache that was made is held under its name
pub made_named : (name : CacheName) (plan : PlanData) (judge : BlockJudge) (before after : List HeldData) → IsMade name plan judge before after → IsHeldName name after
made_named name plan judge before after made = subst (IsHeldName name) (sym made.behind) (by before)
  where
    by : (hs : List HeldData) → IsHeldName name (hs ++ made.one ∷ [])
    by [] = inl (let is = made.new.name_is in subst (λ (n : CacheName). same_name n name ≡ true) (sym is) (grind arith))
    by (h ∷ hs) = inr (by hs)

-- a chain with a cache has a block that has one
pub is_cached : (files : List FileText) (block : Block) (cache : Option PlanData) (plan : PlanData) → cache ≡ block_cache block → cache ≡ Some plan → IsCachedAs (block_reading files block)
is_cached files block cache plan of is = cached_stays files block ∙ ap is_some (sym of ∙ is)

-- and one without has none, and reads otherwise than one that has
pub differs_none : (files : List FileText) (block : Block) (chain : BlockChain) (reading : BlockReading) → chain.cache ≡ block_cache block → IsNamed chain → chain.named ≡ None → IsCachedAs reading → block_reading files block ≢ reading
differs_none files block chain reading of named none cached = λ same.
    let has : is_some (plan_read (block_reading files block)) ≡ true = subst IsCachedAs (sym same) cached in
    let off : is_some (plan_read (block_reading files block)) ≡ false = cached_stays files block ∙ ap is_some (sym of) ∙ sym named ∙ ap is_some none in
    absurd (cc (has, off))

pub finds_next : (reading other : BlockReading) (o : Option NamedData) (readings : List BlockReading) (named : List (Option NamedData)) (result : Result (Option NamedCache) NoMemory) → (other ≢ reading) → IfOk result (FindsSame readings named reading) → IfOk result (FindsSame (other ∷ readings) (o ∷ named) reading)
finds_next reading other o readings named (Ok found) differs finds = finds_more reading other o readings named found differs finds
finds_next reading other o readings named (Err starved) differs finds = finds

pub map_tail : {A B C : Type 0} (f : A → C) (g : B → C) (x : A) (y : B) (xs : List A) (ys : List B) → map f (x ∷ xs) ≡ map g (y ∷ ys) → map f xs ≡ map g ys
map_tail {C} f g x y xs ys is = let rest : map f xs ≡ map g ys = cc in rest

pub map_head : {A B C : Type 0} (f : A → C) (g : B → C) (x : A) (y : B) (xs : List A) (ys : List B) → map f (x ∷ xs) ≡ map g (y ∷ ys) → f x ≡ g y
map_head {C} f g x y xs ys is = let first : f x ≡ g y = cc in first

pub names_empty : (naming : Naming) (at : ℕ) (files : List FileText) (blocks : List Block) (chains : List BlockChain) (held : List HeldData) → length chains ≡ 0 → map cache_in chains ≡ map block_cache blocks → NamesChains naming at (map (block_reading files) blocks) chains (change held held)
names_empty naming at files [] [] held none of = record { has = All-nil IsNamed; reads = names_nobody naming at held }
names_empty naming at files (block ∷ blocks) [] held none of = absurd cc
names_empty naming at files blocks (chain ∷ chains) held none of = absurd (omega (arith, none))

-- behind one block's naming no cache has a name of a block further on
fresh_absent : (naming : Naming) (at block : ℕ) (r : BlockReading) (o : Option NamedData) (before fresh : List HeldData) → Precedes naming.before before → AbsentFrom naming.serial at before → at + 1 ≤ block → NameBlocks (generation_data naming.before) naming.serial at (r ∷ []) (o ∷ []) → AreUsedBy (names_in (o ∷ [])) fresh
    → IsAbsent (name_at naming.serial block) fresh
fresh_absent naming at block r o before [] p absent more names used = tt
fresh_absent naming at block r None before (h ∷ fresh) p absent more names used = let some = used.0 in absurd (omega (arith, some))
fresh_absent naming at block r (Some n) before (h ∷ fresh) p absent more names used = (
  both (same_name h.name (name_at naming.serial block))
      (λ t. absurd (clash (same_is h.name (name_at naming.serial block) t) names.0))
      (λ f. f),
  fresh_absent naming at block r (Some n) before fresh p absent more names used.1,
)
  where
    same_one : h.name ≡ n.name
    same_one = both (same_name h.name n.name)
        (λ t. same_is h.name n.name t)
        (λ f. let none : count_named h.name (n.name ∷ []) ≡ 0 = rw f refl in let some = used.0 in absurd (omega (arith, none, some)))

    not_held : (m : CacheName) (hs : List HeldData) → IsHeldBy n hs → n.name ≡ m → IsAbsent m hs → ⊥
    not_held m [] by is none = by
    not_held m (k ∷ hs) (inl by) is none = absurd (cc (subst (λ (l : CacheName). same_name k.name l ≡ true) is by.0, none.0))
    not_held m (k ∷ hs) (inr other) is none = not_held m hs other is none.1

    clash : h.name ≡ name_at naming.serial block → NamesBlock (generation_data naming.before) (name_at naming.serial at) r n → ⊥
    clash is (inl goes) =
        not_held (name_at naming.serial block) before (by_at (generation_data naming.before).named before goes.other n p.served.by goes.named) (sym same_one ∙ is) (absent block (omega (arith, more)))
    clash is (inr begun) =
        let e : at ≡ block = ap (λ (m : CacheName). m.block) (sym begun.name_is ∙ sym same_one ∙ is) in
        absurd (omega (arith, e, more))

absent_both : (name : CacheName) (hs fresh : List HeldData) → IsAbsent name hs → IsAbsent name fresh → IsAbsent name (hs ++ fresh)
absent_both name [] fresh one other = other
absent_both name (h ∷ hs) fresh one other = (one.0, absent_both name hs fresh one.1 other)

pub absent_next : (naming : Naming) (at : ℕ) (r : BlockReading) (o : Option NamedData) (before mid : List HeldData) → Precedes naming.before before → AbsentFrom naming.serial at before → AddsCaches naming.serial at before mid → NamesReadings naming at (r ∷ []) (o ∷ []) (change before mid)
    → AbsentFrom naming.serial (at + 1) mid
absent_next naming at r o before mid p absent adds names = λ block more.
    subst (IsAbsent (name_at naming.serial block)) (sym adds.behind)
    (absent_both (name_at naming.serial block) before adds.fresh (absent block (omega (arith, more)))
    (fresh_absent naming at block r o before adds.fresh p absent more names.names (names.used adds.fresh adds.behind)))

pub if_both : {A B : Type 0} (r : Result A B) (P Q S : A → Type 0) → ((x : A) → P x → Q x → S x) → IfOk r P → IfOk r Q → IfOk r S
if_both (Ok x) P Q S to one other = to x one other
if_both (Err e) P Q S to one other = one

pub made_on : (naming : Naming) (r : BlockReading) (n : NamedData) (held : List HeldData) → Precedes naming.before held → GoesOn (generation_data naming.before) r n → IsMadeFor r n
made_on naming r n held p goes = made_at (generation_data naming.before).readings (generation_data naming.before).named goes.other r n p.served.made goes.reads goes.named
