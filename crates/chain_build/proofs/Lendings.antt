-- Uses of caches that are lent to chains, and that come back.
use Rattle.std.proofs.Common.{◌≡◌, ◌∙◌, ℕ, zero, suc, List, [], ◌∷◌, ◌++◌, map, length, is_some, option_map, reverse, Option, Some, None, Result, Ok, Err, true, false, refl, sym, ap, subst, append_assoc}
use Rattle.std.specs.Prelude.{slice_index_or}
use Rattle.std.specs.List.{All}
use Rattle.std.proofs.lemmas.Option.{same_Some}
use Rattle.std.proofs.lemmas.List.{append-nil, reverse-append}
use Rattle.std.proofs.lemmas.List.Elements.{All-cons, All-nil}
use Rattle.dns_lists.specs.declared.memory.NoMemory.{NoMemory}
use Rattle.cache_plugin.specs.{use_logs}
use Rattle.cache_plugin.specs.Uses as cache
use Rattle.forward_plugin.specs.PoolParts as pool
use Rattle.forward_plugin.specs.declared.pool_use.PoolUse.{PoolUse}
use Rattle.outside.specs.declared.mark.Mark.{Mark}
use Rattle.lent_caches.specs.ApartLaws.{all_given_all, apart_all, given-append}
use Rattle.lent_caches.specs.Building.{AreNewUses, CanLendEach}
use Rattle.lent_caches.specs.Held.{AreApart, HeldData, IsNewUse, LentData, given_all, lent_data, lent_one, no_log}
use Rattle.lent_caches.specs.Ledger.{AllHeld, lent_each, use_names}
use Rattle.lent_caches.specs.LendingLaws.{apart_each, apart_lent, held_each, undo_all, uses_back, uses_held}
use Rattle.lent_caches.specs.Named.{IsHeldBy, NamedData, named_data}
use Rattle.lent_caches.specs.NamedLaws.{by_lent, held_one}
use Rattle.lent_caches.specs.declared.name.CacheName.{CacheName}
use Rattle.lent_caches.specs.declared.name.NamedCache.{NamedCache}
use Rattle.lent_caches.specs.declared.uses.LentCache.{LentCache}
use Rattle.chain_build.specs.Lending.{AreHeldBy, IsNamed, Lends, LendsAll, LendsCache, chain_names, lents_in, names_in, uses_lents}
use Rattle.chain_build.specs.Shares.{AreUncalled, IfCached}
use Rattle.chain_build.specs.Uses.{ArePooled, AreUsed, UseShape, chain_named, chain_pools, chain_shape, lent_cache, use_shape}
use Rattle.chain_build.specs.declared.block.BlockChain.{BlockChain}
use Rattle.chain_build.specs.declared.block_uses.BlockUses.{BlockUses}

-- the names of these with one more in front, where there is one
abbrev by_option : Option NamedData → List CacheName → List CacheName
by_option None names = names
by_option (Some n) names = n.name ∷ names

-- pools that were not called, and a cache
abbrev pub AreUncalledPools : List PoolUse → Type 0
AreUncalledPools pools = All pool.IsUncalled pools

abbrev pub IfUncalled : Option LentCache → Type 0
IfUncalled o = IfCached (λ u. cache.IsUncalled u.of) o

-- what has no mark at any shard has made no call
empty_logs : (lists : List (List Mark)) → ((n : ℕ) → slice_index_or lists n [] ≡ []) → All (λ (part : List Mark). part ≡ []) lists
empty_logs [] none = All-nil (λ (part : List Mark). part ≡ [])
empty_logs (marks ∷ lists) none = All-cons (λ (part : List Mark). part ≡ []) marks lists (none zero) (empty_logs lists (λ n. none (suc n)))

no_marks : (u : LentCache) → (lent_data u).log ≡ no_log → cache.IsUncalled u.of
no_marks u none = empty_logs (use_logs u.of) (λ n. λ i. none i n)

-- the uses of chains have the names of their caches
lents_names : (cache : Option LentCache) (named : Option NamedData) (lents : List LentData) (more : List CacheName) → option_map lent_cache cache ≡ named → use_names lents ≡ more
    → use_names (lents_in cache ++ lents) ≡ by_option named more
lents_names None None lents more is rest = rest
lents_names None (Some n) lents more is rest = absurd cc
lents_names (Some u) None lents more is rest = absurd cc
lents_names (Some u) (Some n) lents more is rest = let it : lent_cache u ≡ n = cc in λ i. (it i).name ∷ rest i

names_cons : (o : Option NamedData) (named : List (Option NamedData)) → by_option o (names_in named) ≡ names_in (o ∷ named)
names_cons None named = refl
names_cons (Some n) named = refl

pub names_lents : (chains : List BlockChain) (blocks : List BlockUses) → AreUsed chains blocks → use_names (uses_lents blocks) ≡ chain_names chains
names_lents [] [] used = refl
names_lents [] (uses ∷ blocks) used = absurd cc
names_lents (chain ∷ chains) [] used = absurd cc
names_lents (chain ∷ chains) (uses ∷ blocks) used =
    let first : use_shape uses ≡ chain_shape chain = cc in
    let rest : AreUsed chains blocks = cc in
    lents_names uses.cache (chain_named chain) (uses_lents blocks) (chain_names chains) (ap (λ (s : UseShape). s.cache) first) (names_lents chains blocks rest) ∙ names_cons (chain_named chain) (map chain_named chains)

pub lents-append : (blocks others : List BlockUses) → uses_lents (blocks ++ others) ≡ uses_lents blocks ++ uses_lents others
lents-append [] others = refl
lents-append (uses ∷ blocks) others =
    ap (λ (l : List LentData). lents_in uses.cache ++ l) (lents-append blocks others) ∙ sym (append_assoc (lents_in uses.cache) (uses_lents blocks) (uses_lents others))

-- what is held of several is held of the first, and of the others
pub held_front : (us vs : List LentData) (hs : List HeldData) → AllHeld (us ++ vs) hs → AllHeld us hs
held_front [] vs hs all = tt
held_front (u ∷ us) vs hs all = (all.0, held_front us vs hs all.1)

pub held_back_of : (us vs : List LentData) (hs : List HeldData) → AllHeld (us ++ vs) hs → AllHeld vs hs
held_back_of [] vs hs all = all
held_back_of (u ∷ us) vs hs all = held_back_of us vs hs all.1

pub held_both : (us vs : List LentData) (hs : List HeldData) → AllHeld us hs → AllHeld vs hs → AllHeld (us ++ vs) hs
held_both [] vs hs one other = other
held_both (u ∷ us) vs hs one other = (one.0, held_both us vs hs one.1 other)

-- a use of each chain's cache is held, with one use more or less out
pub by_after : (named : List (Option NamedData)) (m : CacheName) (hs : List HeldData) → AreHeldBy named hs → AreHeldBy named (lent_one m hs)
by_after [] m hs by = tt
by_after (None ∷ named) m hs by = by_after named m hs by
by_after (Some n ∷ named) m hs by = (by_lent n m hs by.0, by_after named m hs by.1)

used_more : (chain : BlockChain) (chains : List BlockChain) (uses : BlockUses) (more : List BlockUses) (result : Result (Unit {0}) NoMemory) → use_shape uses ≡ chain_shape chain → LendsAll chains more result → LendsAll (chain ∷ chains) (uses ∷ more) result
used_more chain chains uses more (Ok done) shape all = λ i. shape i ∷ all i
used_more chain chains uses more (Err e) shape all = tt

-- a chain without a cache has no use of one
pub lends_none : (chain : BlockChain) (chains : List BlockChain) (uses : BlockUses) (old new : List BlockUses) (before after : List HeldData) (result : Result (Unit {0}) NoMemory)
    → use_shape uses ≡ chain_shape chain → AreUncalled uses → uses.cache ≡ None → Lends chains before after (old ++ uses ∷ []) new result → Lends (chain ∷ chains) before after old new result
lends_none chain chains uses old new before after result shape fresh none l =
    let names : uses_lents (uses ∷ l.more) ≡ uses_lents l.more = ap (λ (o : Option LentCache). lents_in o ++ uses_lents l.more) none in
    record {
      more = uses ∷ l.more;
      behind = l.behind ∙ append_assoc old (uses ∷ []) l.more;
      fresh = All-cons AreUncalled uses l.more fresh l.fresh;
      lent = l.lent ∙ ap (λ (us : List LentData). lent_each (use_names us) before) (sym names);
      are = subst (λ (us : List LentData). AreNewUses (use_names us) before us) (sym names) l.are;
      all = used_more chain chains uses l.more result shape l.all;
    }

pub lends_one : (chain : BlockChain) (chains : List BlockChain) (uses : BlockUses) (u : LentCache) (name : CacheName) (old new : List BlockUses) (before mid after : List HeldData) (result : Result (Unit {0}) NoMemory)
    → use_shape uses ≡ chain_shape chain → AreUncalled uses → uses.cache ≡ Some u → IsNewUse name before (lent_data u) → mid ≡ lent_one name before
    → Lends chains mid after (old ++ uses ∷ []) new result → Lends (chain ∷ chains) before after old new result
lends_one chain chains uses u name old new before mid after result shape fresh some out is l =
    let names : uses_lents (uses ∷ l.more) ≡ lent_data u ∷ uses_lents l.more = ap (λ (o : Option LentCache). lents_in o ++ uses_lents l.more) some in
    let rest : AreNewUses (use_names (uses_lents l.more)) (lent_one name before) (uses_lents l.more) = subst (λ (h : List HeldData). AreNewUses (use_names (uses_lents l.more)) h (uses_lents l.more)) is l.are in
    let own : IsNewUse (lent_data u).name before (lent_data u) = subst (λ (n : CacheName). IsNewUse n before (lent_data u)) (sym out.name_is) out in
    record {
      more = uses ∷ l.more;
      behind = l.behind ∙ append_assoc old (uses ∷ []) l.more;
      fresh = All-cons AreUncalled uses l.more fresh l.fresh;
      lent = l.lent ∙ (ap (λ (h : List HeldData). lent_each (use_names (uses_lents l.more)) h) (is ∙ ap (λ (n : CacheName). lent_one n before) (sym out.name_is)) ∙ ap (λ (us : List LentData). lent_each (use_names us) before) (sym names));
      are = subst (λ (us : List LentData). AreNewUses (use_names us) before us) (sym names) (own, uses_back (use_names (uses_lents l.more)) (uses_lents l.more) name before rest);
      all = used_more chain chains uses l.more result shape l.all;
    }

-- nothing was lent
pub lends_nothing : (chains : List BlockChain) (old : List BlockUses) (hs : List HeldData) (result : Result (Unit {0}) NoMemory) → LendsAll chains [] result → Lends chains hs hs old old result
lends_nothing chains old hs result all = record {
  more = [];
  behind = sym (append-nil old);
  fresh = All-nil AreUncalled;
  lent = refl;
  are = tt;
  all = all;
}

-- all uses of a chain are back, as if none had been lent
pub undone : (chains : List BlockChain) (before after : List HeldData) (uses : List BlockUses) (result : Result (Unit {0}) NoMemory) → Lends chains before after [] uses result
    → AllHeld (uses_lents uses) after × (given_all (uses_lents uses) after ≡ before)
undone chains before after uses result l =
    let ns = use_names (uses_lents l.more) in
    let held : AllHeld (uses_lents l.more) (lent_each ns before) = uses_held ns before (lent_each ns before) (uses_lents l.more) (λ u is. held_each u ns before is) l.are in
    let back : given_all (uses_lents l.more) (lent_each ns before) ≡ before = undo_all ns before (uses_lents l.more) l.are in
    subst (λ (us : List BlockUses). AllHeld (uses_lents us) after × (given_all (uses_lents us) after ≡ before)) (sym l.behind)
    (subst (λ (h : List HeldData). AllHeld (uses_lents l.more) h × (given_all (uses_lents l.more) h ≡ before)) (sym l.lent) (held, back))

-- and where all were lent
pub lent_all : (chains : List BlockChain) (before after : List HeldData) (uses : List BlockUses) (done : Unit {0}) → Lends chains before after [] uses (Ok done)
    → AreUsed chains uses × (All AreUncalled uses × ((after ≡ lent_each (chain_names chains) before) × AreNewUses (chain_names chains) before (uses_lents uses)))
lent_all chains before after uses done l =
    let used : AreUsed chains uses = subst (AreUsed chains) (sym l.behind) l.all in
    let names = names_lents chains l.more l.all in (
      used,
      (
        subst (All AreUncalled) (sym l.behind) l.fresh,
        (
          l.lent ∙ ap (λ (ns : List CacheName). lent_each ns before) names,
          subst (λ (us : List BlockUses). AreNewUses (chain_names chains) before (uses_lents us)) (sym l.behind) (subst (λ (ns : List CacheName). AreNewUses ns before (uses_lents l.more)) names l.are),
        ),
      ),
    )

-- the use that was lent under a chain's name is of its cache
pub shape_lent : (chain : BlockChain) (named : NamedCache) (pools : List PoolUse) (u : LentCache) (hs : List HeldData) → chain.named ≡ Some named → IsNamed chain → length pools ≡ chain_pools chain → AreApart hs
    → IsHeldBy (named_data named) hs → IsNewUse named.name hs (lent_data u) → use_shape (record { pools = pools; cache = Some u }) ≡ chain_shape chain
shape_lent chain named pools u hs some has long apart by out =
    let cache : (lent_data u).cache ≡ (named_data named).cache = held_one (named_data named) (lent_data u) hs apart by out.of out.name_is in
    let it : lent_cache u ≡ named_data named = λ i. record { name = out.name_is i; cache = cache i } in
    let one : Some (lent_cache u) ≡ chain_named chain = ap (λ (n : NamedData). Some n) it ∙ sym (ap (option_map named_data) some) in
    let two : true ≡ is_some chain.cache = sym (ap is_some some) ∙ has in
    λ i. record { pools = long i; cache = one i; cached = two i }

pub shape_none : (chain : BlockChain) (pools : List PoolUse) → chain.named ≡ None → IsNamed chain → length pools ≡ chain_pools chain → use_shape (record { pools = pools; cache = None }) ≡ chain_shape chain
shape_none chain pools none has long =
    let one : None ≡ chain_named chain = sym (ap (option_map named_data) none) in
    let two : false ≡ is_some chain.cache = sym (ap is_some none) ∙ has in
    λ i. record { pools = long i; cache = one i; cached = two i }

-- one chain's uses more
pub lends_more : (chain : BlockChain) (chains : List BlockChain) (uses : BlockUses) (old new : List BlockUses) (before mid after : List HeldData) (result : Result (Unit {0}) NoMemory)
    → IsNamed chain → length uses.pools ≡ chain_pools chain → AreUncalledPools uses.pools → IfUncalled uses.cache → AreApart before → AreHeldBy (chain_named chain ∷ []) before → LendsCache chain before mid (Ok uses.cache)
    → Lends chains mid after (old ++ uses ∷ []) new result → Lends (chain ∷ chains) before after old new result
lends_more chain chains uses old new before mid after result has long pools cache apart by lends l = by_cache uses.cache refl lends
  where
    fresh : AreUncalled uses
    fresh = record { pools = pools; cache = cache }

    by_named : (o : Option NamedData) (n : NamedData) → o ≡ Some n → AreHeldBy (o ∷ []) before → IsHeldBy n before
    by_named None n is b = absurd cc
    by_named (Some m) n is b = subst (λ (k : NamedData). IsHeldBy k before) (same_Some m n is) b.0

    by_cache : (o : Option LentCache) → uses.cache ≡ o → LendsCache chain before mid (Ok o) → Lends (chain ∷ chains) before after old new result
    by_cache None is none =
        let shape : use_shape uses ≡ chain_shape chain = ap (λ (c : Option LentCache). use_shape (record { pools = uses.pools; cache = c })) is ∙ shape_none chain uses.pools none.0 has long in
        lends_none chain chains uses old new before after result shape fresh is (subst (λ (h : List HeldData). Lends chains h after (old ++ uses ∷ []) new result) none.1 l)
    by_cache (Some u) is one =
        let held = by_named (chain_named chain) (named_data one.named) (ap (option_map named_data) one.is) by in
        let shape : use_shape uses ≡ chain_shape chain = ap (λ (c : Option LentCache). use_shape (record { pools = uses.pools; cache = c })) is ∙ shape_lent chain one.named uses.pools u before one.is has long apart held one.lent in
        lends_one chain chains uses u one.named.name old new before mid after result shape fresh is one.lent one.after_is l

-- a use that was just lent made no call
pub new_uncalled : (chain : BlockChain) (before after : List HeldData) (o : Option LentCache) → LendsCache chain before after (Ok o) → IfUncalled o
new_uncalled chain before after None lends = tt
new_uncalled chain before after (Some u) lends = no_marks u lends.lent.none

pub lends_apart : (chains : List BlockChain) (before after : List HeldData) (old new : List BlockUses) (result : Result (Unit {0}) NoMemory) → Lends chains before after old new result → AreApart before → AreApart after
lends_apart chains before after old new result l apart = subst AreApart (sym l.lent) (apart_each (use_names (uses_lents l.more)) before apart)

-- the next use of several is back
turned : (items rest : List BlockUses) (u : BlockUses) → items ≡ rest ++ u ∷ [] → uses_lents (reverse items) ≡ lents_in u.cache ++ uses_lents (reverse rest)
turned items rest u is = ap (λ (l : List BlockUses). uses_lents (reverse l)) is ∙ ap uses_lents (reverse-append rest (u ∷ []))

module _ (items rest : List BlockUses) (u : BlockUses) (hs : List HeldData) (is : items ≡ rest ++ u ∷ []) (held : AllHeld (uses_lents (reverse items)) hs) where
  pub first_held : AllHeld (lents_in u.cache) hs
  first_held = held_front (lents_in u.cache) (uses_lents (reverse rest)) hs (subst (λ (us : List LentData). AllHeld us hs) (turned items rest u is) held)

  pub others_held : (after : List HeldData) → after ≡ given_all (lents_in u.cache) hs → AllHeld (uses_lents (reverse rest)) after
  others_held after given =
      subst (AllHeld (uses_lents (reverse rest))) (sym given)
      (all_given_all (uses_lents (reverse rest)) (lents_in u.cache) hs (held_back_of (lents_in u.cache) (uses_lents (reverse rest)) hs (subst (λ (us : List LentData). AllHeld us hs) (turned items rest u is) held)))

  pub others_given : (after : List HeldData) → after ≡ given_all (lents_in u.cache) hs → given_all (uses_lents (reverse rest)) after ≡ given_all (uses_lents (reverse items)) hs
  others_given after given =
      ap (given_all (uses_lents (reverse rest))) given
      ∙ (sym (given-append (lents_in u.cache) (uses_lents (reverse rest)) hs) ∙ ap (λ (us : List LentData). given_all us hs) (sym (turned items rest u is)))

pub given_apart : (us : List LentData) (hs after : List HeldData) → after ≡ given_all us hs → AreApart hs → AreApart after
given_apart us hs after is apart = subst AreApart (sym is) (apart_all us hs apart)

-- what stays to be lent to the other chains
by_option_held : (o : Option NamedData) (named : List (Option NamedData)) (hs : List HeldData) → AreHeldBy (o ∷ named) hs → AreHeldBy named hs
by_option_held None named hs by = by
by_option_held (Some n) named hs by = by.1

pub held_tail : (chain : BlockChain) (named : List (Option NamedData)) (before mid : List HeldData) (o : Option LentCache) → LendsCache chain before mid (Ok o) → AreHeldBy (chain_named chain ∷ named) before → AreHeldBy named mid
held_tail chain named before mid None lends by = subst (AreHeldBy named) (sym lends.1) (by_option_held (chain_named chain) named before by)
held_tail chain named before mid (Some u) lends by =
    subst (AreHeldBy named) (sym lends.after_is) (by_after named lends.named.name before (by_option_held (chain_named chain) named before by))

pub held_head : (o : Option NamedData) (named : List (Option NamedData)) (hs : List HeldData) → AreHeldBy (o ∷ named) hs → AreHeldBy (o ∷ []) hs
held_head None named hs by = tt
held_head (Some n) named hs by = (by.0, tt)

can_option : (o : Option NamedData) (named : List (Option NamedData)) (hs : List HeldData) → o ≡ None → CanLendEach (names_in (o ∷ named)) hs → CanLendEach (names_in named) hs
can_option None named hs is can = can
can_option (Some n) named hs is can = absurd cc

can_one : (o : Option NamedData) (n : NamedData) (named : List (Option NamedData)) (hs : List HeldData) → o ≡ Some n → CanLendEach (names_in (o ∷ named)) hs → CanLendEach (names_in named) (lent_one n.name hs)
can_one None n named hs is can = absurd cc
can_one (Some m) n named hs is can = subst (λ (k : NamedData). CanLendEach (names_in named) (lent_one k.name hs)) (same_Some m n is) can.1

pub can_tail : (chain : BlockChain) (named : List (Option NamedData)) (before mid : List HeldData) (o : Option LentCache) → LendsCache chain before mid (Ok o) → CanLendEach (names_in (chain_named chain ∷ named)) before → CanLendEach (names_in named) mid
can_tail chain named before mid None lends can =
    subst (CanLendEach (names_in named)) (sym lends.1) (can_option (chain_named chain) named before (ap (option_map named_data) lends.0) can)
can_tail chain named before mid (Some u) lends can =
    subst (CanLendEach (names_in named)) (sym lends.after_is) (can_one (chain_named chain) (named_data lends.named) named before (ap (option_map named_data) lends.is) can)

pub apart_tail : (chain : BlockChain) (before mid : List HeldData) (o : Option LentCache) → LendsCache chain before mid (Ok o) → AreApart before → AreApart mid
apart_tail chain before mid None lends apart = subst AreApart (sym lends.1) apart
apart_tail chain before mid (Some u) lends apart = subst AreApart (sym lends.after_is) (apart_lent lends.named.name before apart)

-- pools block by block
pub pooled_head : (chain : BlockChain) (chains : List BlockChain) (pools : List PoolUse) (shared : List (List PoolUse)) → ArePooled (chain ∷ chains) (pools ∷ shared) → length pools ≡ chain_pools chain
pooled_head chain chains pools shared is = let first : length pools ≡ chain_pools chain = cc in first

pub pooled_tail : (chain : BlockChain) (chains : List BlockChain) (pools : List PoolUse) (shared : List (List PoolUse)) → ArePooled (chain ∷ chains) (pools ∷ shared) → ArePooled chains shared
pooled_tail chain chains pools shared is = let rest : ArePooled chains shared = cc in rest

pub none_shared : (chains : List BlockChain) (shared : List (List PoolUse)) → chains ≡ [] → ArePooled chains shared → shared ≡ []
none_shared chains [] none is = refl
none_shared [] (pools ∷ shared) none is = absurd cc
none_shared (chain ∷ chains) (pools ∷ shared) none is = absurd cc
