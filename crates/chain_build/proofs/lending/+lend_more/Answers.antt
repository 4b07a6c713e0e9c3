use Rattle.std.proofs.Common.{◌-◌, ◌≡◌, ◌∙◌, ◌++◌, [], ◌∷◌, rules, refl, sym, subst, map, Ok, List}
use Rattle.std.specs.List.{All}
use Rattle.std.proofs.lemmas.List.Elements.{All-cons, All-nil}
use Rattle.std.proofs.lemmas.List.{nil_from_length}
use Rattle.std.proofs.lemmas.Result.{on_ok_weaker}
use Rattle.lent_caches.specs.Building.{CanLendEach}
use Rattle.lent_caches.specs.Held.{caches_data}
use Rattle.chain_build.specs.Lending.{AreHeldBy, IsNamed, Lends, chain_names}
use Rattle.chain_build.specs.Shares.{HaveMore, HaveParts}
use Rattle.chain_build.specs.Uses.{ArePooled, AreUsed, chain_named}
use Rattle.chain_build.specs.declared.block.BlockChain.{BlockChain}
use Rattle.chain_build.specs.declared.block_uses.BlockUses.{BlockUses}
use Rattle.chain_build.proofs.Lendings.{apart_tail, can_tail, held_head, held_tail, lends_more, lends_nothing, new_uncalled, none_shared, pooled_head, pooled_tail}
use Rattle.chain_build.proofs.Parts.{first_of, rest_of}
use Rattle.chain_build.proofs.lending.+lend_more.Goals as goal

pub split-requires : goal.split-requires
split-requires t c = first_of HaveMore c.args.shared.now c.in-Some-split_first_mut.pools.now c.in-Some-split_first_mut.shared.now c.in-Some-split_first_mut.ensures.cases.0 c.requires.more

pub returns-in_default-clause-lends : goal.returns-in_default-clause-lends
returns-in_default-clause-lends t c =
    let none = nil_from_length c.args.chains.now c.in_default.ensures.cases in
    lends_nothing c.args.chains.now c.args.all.now.items (caches_data c.args.caches.now) (Ok tt) (subst (λ (chains : List BlockChain). AreUsed chains []) (sym none) refl)

pub returns-in_default-clause-parts : goal.returns-in_default-clause-parts
returns-in_default-clause-parts t c parts all =
    let none = nil_from_length c.args.chains.now c.in_default.ensures.cases in
    subst (All (HaveParts (parts - 1))) (sym (none_shared c.args.chains.now c.args.shared.now none c.requires.pooled)) (All-nil (HaveParts (parts - 1)))

pub lend_more-requires : goal.lend_more-requires
lend_more-requires t c =
    let chain = c.in-Some.chain.now in
    let chains = c.in-Some.chains.now in
    let pools = c.in-Some-split_first_mut.pools.now in
    let shared = c.in-Some-split_first_mut.shared.now in
    let before = caches_data c.args.caches.now in
    let mid = caches_data c.lend_cache.new.caches in
    let o = c.in_ok-cache.cache in
    let is = c.in-Some.ensures.cases.0 in
    let pooled = subst (λ (cs : List BlockChain). ArePooled cs c.args.shared.now) is c.requires.pooled in (
      search rules,
      (
        pooled_tail chain chains pools shared (subst (ArePooled (chain ∷ chains)) c.in-Some-split_first_mut.ensures.cases.0 pooled),
        (
          rest_of HaveMore c.args.shared.now pools shared c.in-Some-split_first_mut.ensures.cases.0 c.requires.more,
          (
            rest_of IsNamed c.args.chains.now chain chains is c.requires.named,
            (
              held_tail chain (map chain_named chains) before mid o c.in_ok-cache.ensures (subst (λ (cs : List BlockChain). AreHeldBy (map chain_named cs) before) is c.requires.held),
              (
                can_tail chain (map chain_named chains) before mid o c.in_ok-cache.ensures (subst (λ (cs : List BlockChain). CanLendEach (chain_names cs) before) is c.requires.can),
                apart_tail chain before mid o c.in_ok-cache.ensures c.requires.apart,
              ),
            ),
          ),
        ),
      ),
    )

pub returns-clause-lends : goal.returns-clause-lends
returns-clause-lends t c =
    let chain = c.in-Some.chain.now in
    let chains = c.in-Some.chains.now in
    let pools = c.in-Some-split_first_mut.pools.now in
    let shared = c.in-Some-split_first_mut.shared.now in
    let before = caches_data c.args.caches.now in
    let mid = caches_data c.lend_cache.new.caches in
    let after = caches_data c.lend_more.new.caches in
    let o = c.in_ok-cache.cache in
    let is = c.in-Some.ensures.cases.0 in
    let uses : BlockUses = record { pools = c.in_ok-pools.pools; cache = o } in
    let pooled = subst (λ (cs : List BlockChain). ArePooled cs c.args.shared.now) is c.requires.pooled in
    let long = pooled_head chain chains pools shared (subst (ArePooled (chain ∷ chains)) c.in-Some-split_first_mut.ensures.cases.0 pooled) in
    let pushed : c.push_reserved.new.self.items ≡ c.args.all.now.items ++ uses ∷ [] = search rules in
    subst (λ (cs : List BlockChain). Lends cs before after c.args.all.now.items c.lend_more.new.all.items c.lend_more.result) (sym is)
    (lends_more chain chains uses c.args.all.now.items c.lend_more.new.all.items before mid after c.lend_more.result
    (first_of IsNamed c.args.chains.now chain chains is c.requires.named) (c.in_ok-pools.ensures.count ∙ long) c.in_ok-pools.ensures.fresh (new_uncalled chain before mid o c.in_ok-cache.ensures) c.requires.apart
    (held_head (chain_named chain) (map chain_named chains) before (subst (λ (cs : List BlockChain). AreHeldBy (map chain_named cs) before) is c.requires.held)) c.in_ok-cache.ensures
    (subst (λ (l : List BlockUses). Lends chains mid after l c.lend_more.new.all.items c.lend_more.result) pushed c.lend_more.ensures.lends))

pub returns-clause-parts : goal.returns-clause-parts
returns-clause-parts t c parts all =
    let is = c.in-Some-split_first_mut.ensures.cases.0 in
    on_ok_weaker c.lend_more.result
    (λ rest. All-cons (HaveParts (parts - 1)) c.split.new.self c.lend_more.new.shared (c.in_ok-pools.ensures.parts parts (first_of (HaveParts parts) c.args.shared.now c.in-Some-split_first_mut.pools.now c.in-Some-split_first_mut.shared.now is all)) rest)
    (c.lend_more.ensures.parts parts (rest_of (HaveParts parts) c.args.shared.now c.in-Some-split_first_mut.pools.now c.in-Some-split_first_mut.shared.now is all))
