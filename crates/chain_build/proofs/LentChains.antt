-- Chains to which uses of caches are lent, and that give them back.
use Rattle.std.proofs.Common.{◌≡◌, ◌∙◌, ℕ, List, [], ◌∷◌, ◌++◌, length, map, reverse, Some, None, Option, sym, ap, subst, append_assoc}
use Rattle.std.proofs.lemmas.List.{append-nil, length-map, reverse-append}
use Rattle.forward_plugin.specs.declared.pool_use.PoolUse.{PoolUse}
use Rattle.lent_caches.specs.ApartLaws.{all_given_all, given-append}
use Rattle.lent_caches.specs.Building.{lent_times}
use Rattle.lent_caches.specs.Held.{HeldData, LentData, given_all}
use Rattle.lent_caches.specs.Ledger.{AllHeld}
use Rattle.lent_caches.specs.Named.{NamedData}
use Rattle.lent_caches.specs.NamedLaws.{by_times}
use Rattle.lent_caches.specs.declared.name.CacheName.{CacheName}
use Rattle.plugin_api.specs.declared.extra.Extra as extra
use Rattle.plugin_api.specs.declared.rulebook.Rulebook as rulebook
use Rattle.chain_build.specs.Lending.{AreHeldBy}
use Rattle.chain_build.specs.Workers.{chain_lents, chains_lents}
use Rattle.chain_build.specs.declared.chain.Chain.{Chain}
use Rattle.chain_build.proofs.Lendings.{held_back_of, held_front}

-- with one chain more
pub lents_push : {B E : Type 0} {b : rulebook.Ghosts B} {e : extra.Ghosts E} (cs : List (Chain B E b e)) (c : Chain B E b e) → chains_lents (cs ++ c ∷ []) ≡ chains_lents cs ++ chain_lents c
lents_push [] c = append-nil (chain_lents c)
lents_push (k ∷ cs) c =
    ap (λ (l : List LentData). chain_lents k ++ l) (lents_push cs c) ∙ sym (append_assoc (chain_lents k) (chains_lents cs) (chain_lents c))

-- the caches of chains stay held while uses are lent to workers
pub held_times : (named : List (Option NamedData)) (k : ℕ) (ns : List CacheName) (hs : List HeldData) → AreHeldBy named hs → AreHeldBy named (lent_times k ns hs)
held_times [] k ns hs by = tt
held_times (None ∷ named) k ns hs by = held_times named k ns hs by
held_times (Some n ∷ named) k ns hs by = (by_times n k ns hs by.0, held_times named k ns hs by.1)

-- the next of several chains is back
turned : {B E : Type 0} {b : rulebook.Ghosts B} {e : extra.Ghosts E} (items rest : List (Chain B E b e)) (c : Chain B E b e) → items ≡ rest ++ c ∷ [] → chains_lents (reverse items) ≡ chain_lents c ++ chains_lents (reverse rest)
turned {B} {E} {b} {e} items rest c is =
    ap (λ (l : List (Chain B E b e)). chains_lents (reverse l)) is ∙ ap (λ (l : List (Chain B E b e)). chains_lents l) (reverse-append rest (c ∷ []))

pub first_home : {B E : Type 0} {b : rulebook.Ghosts B} {e : extra.Ghosts E} (items rest : List (Chain B E b e)) (c : Chain B E b e) (hs : List HeldData) → items ≡ rest ++ c ∷ []
    → AllHeld (chains_lents (reverse items)) hs → AllHeld (chain_lents c) hs
first_home items rest c hs is held =
    held_front (chain_lents c) (chains_lents (reverse rest)) hs (subst (λ (us : List LentData). AllHeld us hs) (turned items rest c is) held)

pub others_home : {B E : Type 0} {b : rulebook.Ghosts B} {e : extra.Ghosts E} (items rest : List (Chain B E b e)) (c : Chain B E b e) (hs after : List HeldData) → items ≡ rest ++ c ∷ []
    → AllHeld (chains_lents (reverse items)) hs → after ≡ given_all (chain_lents c) hs → AllHeld (chains_lents (reverse rest)) after
others_home items rest c hs after is held given =
    subst (AllHeld (chains_lents (reverse rest))) (sym given)
    (all_given_all (chains_lents (reverse rest)) (chain_lents c) hs (held_back_of (chain_lents c) (chains_lents (reverse rest)) hs (subst (λ (us : List LentData). AllHeld us hs) (turned items rest c is) held)))

pub others_given : {B E : Type 0} {b : rulebook.Ghosts B} {e : extra.Ghosts E} (items rest : List (Chain B E b e)) (c : Chain B E b e) (hs after : List HeldData) → items ≡ rest ++ c ∷ []
    → after ≡ given_all (chain_lents c) hs → given_all (chains_lents (reverse rest)) after ≡ given_all (chains_lents (reverse items)) hs
others_given items rest c hs after is given =
    ap (λ (l : List HeldData). given_all (chains_lents (reverse rest)) l) given
    ∙ (sym (given-append (chain_lents c) (chains_lents (reverse rest)) hs) ∙ ap (λ (us : List LentData). given_all us hs) (sym (turned items rest c is)))

-- pools of as many blocks
pub pooled_long : (xs ys : List (List PoolUse)) → map (λ (pools : List PoolUse). length pools) xs ≡ map (λ (pools : List PoolUse). length pools) ys → length xs ≡ length ys
pooled_long xs ys same =
    sym (length-map xs (λ (pools : List PoolUse). length pools)) ∙ (ap (λ (l : List ℕ). length l) same ∙ length-map ys (λ (pools : List PoolUse). length pools))
