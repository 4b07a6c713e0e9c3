use Rattle.std.proofs.Common.{◌≡◌, ◌∙◌, ◌+◌, rules, sym, subst, ap, map, length, List, ◌∷◌, OnOk, arith}
use Rattle.std.proofs.lemmas.List.Elements.{All-cons}
use Rattle.std.proofs.lemmas.Result.{on_ok_weaker}
use Rattle.block_readings.specs.Behind.{block_behind}
use Rattle.block_readings.specs.Readings.{block_reading}
use Rattle.dns_data.specs.declared.block.Block.{Block}
use Rattle.lent_caches.specs.Held.{caches_data}
use Rattle.chain_build.specs.Lending.{IsNamed}
use Rattle.chain_build.specs.Naming.{NamesChains, change}
use Rattle.chain_build.specs.Plans.{behind_of, block_cache, cache_in}
use Rattle.chain_build.specs.Uses.{chain_named}
use Rattle.chain_build.specs.declared.block.BlockChain.{BlockChain}
use Rattle.chain_build.proofs.Namings.{absent_next, adds_then, map_tail, names_empty, names_more, still_precedes}
use Rattle.chain_build.proofs.naming.+name_chains.Goals as goal

pub returns-in_default-clause-named : goal.returns-in_default-clause-named
returns-in_default-clause-named t c =
    let none : length c.args.chains.now ≡ 0 = search rules in
    names_empty c.args.naming.now c.args.at c.args.files.now c.args.blocks.now c.args.chains.now (caches_data c.args.caches.now) none c.requires.cached

pub name_chains-requires : goal.name_chains-requires
name_chains-requires t c =
    let naming = c.args.naming.now in
    let chain = c.in-Some.chain.now in
    let chains = c.in-Some.chains.now in
    let block = c.in-Some-split_first.block.now in
    let blocks = c.in-Some-split_first.blocks.now in
    let before = caches_data c.args.caches.now in
    let mid = caches_data c.name_chain.new.caches in
    let is = c.in-Some.ensures.cases.0 in
    let of_is = c.in-Some-split_first.ensures.cases.0 in
    let cached = subst (λ (bs : List Block). map cache_in (chain ∷ chains) ≡ map block_cache bs) of_is (subst (λ (cs : List BlockChain). map cache_in cs ≡ map block_cache c.args.blocks.now) is c.requires.cached) in
    let behind = subst (λ (bs : List Block). map behind_of (chain ∷ chains) ≡ map (block_behind c.args.files.now) bs) of_is (subst (λ (cs : List BlockChain). map behind_of cs ≡ map (block_behind c.args.files.now) c.args.blocks.now) is c.requires.behind) in
    let long : length c.args.blocks.now ≡ length blocks + 1 = ap (λ (bs : List Block). length bs) of_is ∙ omega arith in
    let few = c.requires.few in
    let adds = c.in_ok-name_chain.ensures.adds in (
      search rules,
      (
        c.requires.short,
        (
          still_precedes naming.before naming.serial c.args.at before mid c.requires.last adds,
          (
            map_tail cache_in block_cache chain block chains blocks cached,
            (
              map_tail behind_of (block_behind c.args.files.now) chain block chains blocks behind,
              (
                omega (arith, long, few),
                (
                  absent_next naming c.args.at (block_reading c.args.files.now block) (chain_named c.name_chain.new.chain) before mid c.requires.last c.requires.absent adds c.in_ok-name_chain.ensures.named.reads,
                  adds.apart,
                ),
              ),
            ),
          ),
        ),
      ),
    )

pub returns-clause-adds : goal.returns-clause-adds
returns-clause-adds t c = adds_then c.args.naming.now.serial c.args.at (caches_data c.args.caches.now) (caches_data c.name_chain.new.caches) (caches_data c.name_chains.new.caches) c.in_ok-name_chain.ensures.adds c.name_chains.ensures.adds

pub returns-clause-named : goal.returns-clause-named
returns-clause-named t c =
    let naming = c.args.naming.now in
    let block = c.in-Some-split_first.block.now in
    let blocks = c.in-Some-split_first.blocks.now in
    let chain = c.name_chain.new.chain in
    let chains = c.name_chains.new.chains in
    let before = caches_data c.args.caches.now in
    let mid = caches_data c.name_chain.new.caches in
    let after = caches_data c.name_chains.new.caches in
    let first = c.in_ok-name_chain.ensures.named in
    subst (λ (bs : List Block). OnOk c.name_chains.result (NamesChains naming c.args.at (map (block_reading c.args.files.now) bs) (chain ∷ chains) (change before after))) (sym c.in-Some-split_first.ensures.cases.0)
    (on_ok_weaker c.name_chains.result
    (λ (rest : NamesChains naming (c.args.at + 1) (map (block_reading c.args.files.now) blocks) chains (change mid after)). record {
      has = All-cons IsNamed chain chains first.has rest.has;
      reads = names_more naming c.args.at (block_reading c.args.files.now block) (map (block_reading c.args.files.now) blocks) (chain_named chain) (map chain_named chains) before mid after c.in_ok-name_chain.ensures.adds c.name_chains.ensures.adds first.reads rest.reads;
    })
    c.name_chains.ensures.named)
