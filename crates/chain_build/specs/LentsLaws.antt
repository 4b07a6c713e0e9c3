-- The uses that chains have of caches are of those that serve their plans.
use Rattle.std.proofs.Common.{◌≡◌, ◌⊎◌, inl, inr, List, [], ◌∷◌, ◌++◌, map, option_map, Option, Some, None, refl, sym, ap, ◌∙◌, subst}
use Rattle.std.specs.Arc.{arc_value}
use Rattle.std.specs.Box.{box_value}
use Rattle.std.specs.List.{All}
use Rattle.std.proofs.lemmas.List.Elements.{All-head, All-tail}
use Rattle.block_readings.specs.Readings.{block_reading}
use Rattle.corefile_blocks.specs.Readable.{HasShortBytes}
use Rattle.dns_data.specs.declared.block.Block.{Block}
use Rattle.dns_data.specs.declared.file.FileText.{FileText}
use Rattle.lent_caches.specs.Held.{HeldData, IsHeldAs, LentData}
use Rattle.lent_caches.specs.KeptLaws.{names_are}
use Rattle.lent_caches.specs.Ledger.{AllHeld, use_names}
use Rattle.lent_caches.specs.Named.{IsHeldBy, NamedData, named_of}
use Rattle.lent_caches.specs.declared.name.CacheName.{CacheName}
use Rattle.lent_caches.specs.declared.uses.LentCache.{LentCache}
use Rattle.plugin_api.specs.{Sayings, Takings}
use Rattle.plugin_api.specs.declared.extra.Extra as extra
use Rattle.plugin_api.specs.declared.rulebook.Rulebook as rulebook
use Rattle.chain_build.specs.Lending.{AreHeldBy, IsNamed, chain_names, lents_in, names_in, uses_lents}
use Rattle.chain_build.specs.Naming.{AreMadeFor, Change, IsOfPlans, NamesPlans, PlansServed, Precedes}
use Rattle.chain_build.specs.Plans.{ArePlans, PlansData, block_cache, cache_in}
use Rattle.chain_build.specs.Uses.{AreUsed, UseShape, chain_named, chain_shape, lent_cache, use_shape}
use Rattle.chain_build.specs.Workers.{chain_lents, chains_lents, plans_of}
use Rattle.chain_build.specs.declared.block.BlockChain.{BlockChain}
use Rattle.chain_build.specs.declared.block_uses.BlockUses.{BlockUses}
use Rattle.chain_build.specs.declared.chain.Chain.{Chain}
use Rattle.chain_build.specs.declared.naming.Generation.{Generation}
use Rattle.chain_build.specs.declared.naming.Naming.{Naming}

-- the caches among these
abbrev pub somes : List (Option NamedData) → List NamedData
somes [] = []
somes (None ∷ named) = somes named
somes (Some n ∷ named) = n ∷ somes named

-- those that serve plans
abbrev pub plans_caches : PlansData → List NamedData
plans_caches plans = somes (map chain_named plans.chains)

names_somes : (named : List (Option NamedData)) → names_in named ≡ map (λ (n : NamedData). n.name) (somes named)
names_somes [] = refl
names_somes (None ∷ named) = names_somes named
names_somes (Some n ∷ named) = ap (λ (l : List CacheName). n.name ∷ l) (names_somes named)

one_use : (cache : Option LentCache) (o : Option NamedData) (us : List LentData) (ns : List NamedData) → option_map lent_cache cache ≡ o → map named_of us ≡ ns → map named_of (lents_in cache ++ us) ≡ somes (o ∷ []) ++ ns
one_use None None us ns is rest = rest
one_use None (Some n) us ns is rest = absurd cc
one_use (Some u) None us ns is rest = absurd cc
one_use (Some u) (Some n) us ns is rest = let it : lent_cache u ≡ n = cc in λ i. it i ∷ rest i

somes_cons : (o : Option NamedData) (named : List (Option NamedData)) → somes (o ∷ []) ++ somes named ≡ somes (o ∷ named)
somes_cons None named = refl
somes_cons (Some n) named = refl

blocks_uses : (chains : List BlockChain) (blocks : List BlockUses) → AreUsed chains blocks → map named_of (uses_lents blocks) ≡ somes (map chain_named chains)
blocks_uses [] [] used = refl
blocks_uses [] (uses ∷ blocks) used = absurd cc
blocks_uses (chain ∷ chains) [] used = absurd cc
blocks_uses (chain ∷ chains) (uses ∷ blocks) used =
    let first : use_shape uses ≡ chain_shape chain = cc in
    let rest : AreUsed chains blocks = cc in
    one_use uses.cache (chain_named chain) (uses_lents blocks) (somes (map chain_named chains)) (ap (λ (s : UseShape). s.cache) first) (blocks_uses chains blocks rest) ∙ somes_cons (chain_named chain) (map chain_named chains)

-- what is held of some is held of their uses
held_uses : (us : List LentData) (named : List (Option NamedData)) (held : List HeldData) → map named_of us ≡ somes named → AreHeldBy named held → AllHeld us held
held_uses [] [] held is by = tt
held_uses (u ∷ us) [] held is by = absurd cc
held_uses us (None ∷ named) held is by = held_uses us named held is by
held_uses [] (Some n ∷ named) held is by = absurd cc
held_uses (u ∷ us) (Some n ∷ named) held is by =
    let first : named_of u ≡ n = cc in
    let rest : map named_of us ≡ somes named = cc in
    (at held (subst (λ (m : NamedData). IsHeldBy m held) (sym first) by.0), held_uses us named held rest by.1)
  where
    at : (hs : List HeldData) → IsHeldBy (named_of u) hs → IsHeldAs u hs
    at [] is_by = is_by
    at (h ∷ hs) (inl is_by) = inl is_by
    at (h ∷ hs) (inr other) = inr (at hs other)

held_both : (us vs : List LentData) (hs : List HeldData) → AllHeld us hs → AllHeld vs hs → AllHeld (us ++ vs) hs
held_both [] vs hs one other = other
held_both (u ∷ us) vs hs one other = (one.0, held_both us vs hs one.1 other)

-- one cache is among these
abbrev pub IsIn : NamedData → List NamedData → Type 0
IsIn n [] = ⊥
IsIn n (m ∷ ms) = (m ≡ n) ⊎ IsIn n ms

-- caches of which each is held
pub all_by : (named : List (Option NamedData)) (held : List HeldData) → ((n : NamedData) → IsIn n (somes named) → IsHeldBy n held) → AreHeldBy named held
all_by [] held by = tt
all_by (None ∷ named) held by = all_by named held by
all_by (Some n ∷ named) held by = (by n (inl refl), all_by named held (λ m is. by m (inr is)))

-- plans whose blocks were named are served
pub named_served : (naming : Naming) (c : Change) (plans : PlansData) → NamesPlans naming c plans → PlansServed plans c.after
named_served naming c plans names = record { named = names.has; made = names.reads.made; by = names.reads.by }

-- and may be looked through for blocks that read the same
pub plans_precede : (taken : Takings) (said : Sayings) (plans : PlansData) (g : Generation) (held : List HeldData) → IsOfPlans plans g → ArePlans taken said plans → PlansServed plans held → Precedes g held
plans_precede taken said plans g held of are served = record {
  short = subst (All HasShortBytes) (sym of.files) are.readable.files;
  cached = ap (map cache_in) of.chains ∙ are.cached ∙ ap (map block_cache) (sym of.blocks);
  served = record {
    named = subst (All IsNamed) (sym of.chains) served.named;
    made = subst (λ (fs : List FileText). AreMadeFor (map (block_reading fs) g.blocks.now) (map chain_named g.chains.now)) (sym of.files)
        (subst (λ (bs : List Block). AreMadeFor (map (block_reading plans.bundle.files) bs) (map chain_named g.chains.now)) (sym of.blocks)
        (subst (λ (cs : List BlockChain). AreMadeFor (map (block_reading plans.bundle.files) plans.blocks) (map chain_named cs)) (sym of.chains) served.made));
    by = subst (λ (cs : List BlockChain). AreHeldBy (map chain_named cs) held) (sym of.chains) served.by;
  };
}

module _ {B E : Type 0} {b : rulebook.Ghosts B} {e : extra.Ghosts E} where
  -- a chain's uses
  pub chain_uses : (chain : Chain B E b e) → map named_of (chain_lents chain) ≡ plans_caches (plans_of chain)
  chain_uses chain = blocks_uses (arc_value chain.plans).chains (box_value chain.held).uses.items chain.used

  pub chain_use_names : (chain : Chain B E b e) → use_names (chain_lents chain) ≡ chain_names (plans_of chain).chains
  chain_use_names chain = names_are (chain_lents chain) ∙ ap (map (λ (n : NamedData). n.name)) (chain_uses chain) ∙ sym (names_somes (map chain_named (plans_of chain).chains))

  -- the uses of chains that serve by plans are of the caches of these
  pub chains_held : (plans : PlansData) (chains : List (Chain B E b e)) (held : List HeldData) → AreHeldBy (map chain_named plans.chains) held → All (λ chain. plans_of chain ≡ plans) chains → AllHeld (chains_lents chains) held
  chains_held plans [] held by all = tt
  chains_held plans (chain ∷ chains) held by all =
      let first = All-head (λ (c : Chain B E b e). plans_of c ≡ plans) chain chains all in
      held_both (chain_lents chain) (chains_lents chains) held
      (held_uses (chain_lents chain) (map chain_named plans.chains) held (chain_uses chain ∙ ap plans_caches first) by)
      (chains_held plans chains held by (All-tail (λ (c : Chain B E b e). plans_of c ≡ plans) chain chains all))
