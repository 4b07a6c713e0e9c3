use Rattle.std.proofs.Common.{◌≡◌, ◌≢◌, rules, sym, subst, map, List, ◌∷◌, IfOk}
use Rattle.block_readings.specs.Readings.{block_reading}
use Rattle.dns_data.specs.declared.block.Block.{Block}
use Rattle.chain_build.specs.Lending.{IsNamed}
use Rattle.chain_build.specs.Naming.{FindsSame}
use Rattle.chain_build.specs.Plans.{block_cache, cache_in}
use Rattle.chain_build.specs.Uses.{chain_named}
use Rattle.chain_build.specs.declared.block.BlockChain.{BlockChain}
use Rattle.chain_build.proofs.Namings.{differs_none, finds_next, map_head, map_tail}
use Rattle.chain_build.proofs.Parts.{first_of, rest_of}
use Rattle.chain_build.proofs.naming.+find_same.Goals.{in-Some-named+else-read_the_same, in_default-named}
use Rattle.chain_build.proofs.naming.+find_same.Goals as goal

pub returns : goal.returns
returns t c =
    let block = c.in-Some.block.now in
    let blocks = c.in-Some.blocks.now in
    let chain = c.in-Some-split_first.chain.now in
    let chains = c.in-Some-split_first.chains.now in
    let reading = block_reading c.args.here.files.now c.args.here.block.now in
    let of = subst (λ (bs : List Block). map cache_in (chain ∷ chains) ≡ map block_cache bs) c.in-Some.ensures.cases.0 (subst (λ (cs : List BlockChain). map cache_in cs ≡ map block_cache c.args.blocks.now) c.in-Some-split_first.ensures.cases.0 c.requires.caches) in
    let named = first_of IsNamed c.args.chains.now chain chains c.in-Some-split_first.ensures.cases.0 c.requires.named in
    let differs : block_reading c.args.files.now block ≢ reading = elim c.match-chain.branch [
      | in-Some-named+else-read_the_same w ↦ λ same. absurd (cc (w.read_the_same.ensures.same.1 same, w.if-read_the_same.false))
      | in_default-named w ↦ differs_none c.args.files.now block chain reading (map_head cache_in block_cache chain block chains blocks of) named (search rules) c.requires.cached
    ] in
    subst (λ (bs : List Block). IfOk c.find_same.result (FindsSame (map (block_reading c.args.files.now) bs) (map chain_named c.args.chains.now) reading)) (sym c.in-Some.ensures.cases.0)
    (subst (λ (cs : List BlockChain). IfOk c.find_same.result (FindsSame (map (block_reading c.args.files.now) (block ∷ blocks)) (map chain_named cs) reading)) (sym c.in-Some-split_first.ensures.cases.0)
    (finds_next reading (block_reading c.args.files.now block) (chain_named chain) (map (block_reading c.args.files.now) blocks) (map chain_named chains) c.find_same.result differs c.find_same.ensures))

pub find_same-requires : goal.find_same-requires
find_same-requires t c =
    let block = c.in-Some.block.now in
    let blocks = c.in-Some.blocks.now in
    let chain = c.in-Some-split_first.chain.now in
    let chains = c.in-Some-split_first.chains.now in
    let of = subst (λ (bs : List Block). map cache_in (chain ∷ chains) ≡ map block_cache bs) c.in-Some.ensures.cases.0 (subst (λ (cs : List BlockChain). map cache_in cs ≡ map block_cache c.args.blocks.now) c.in-Some-split_first.ensures.cases.0 c.requires.caches) in (
      search rules,
      (
        c.requires.others,
        (
          c.requires.short,
          (
            rest_of IsNamed c.args.chains.now chain chains c.in-Some-split_first.ensures.cases.0 c.requires.named,
            (map_tail cache_in block_cache chain block chains blocks of, c.requires.cached),
          ),
        ),
      ),
    )
