-- Where the parts of what workers share stand in the log of a chain.
use Rattle.std.proofs.Common.{◌≡◌, ◌≢◌, ◌<◌, ◌≤◌, ◌⊎◌, inl, inr, ◌∙◌, ℕ, zero, suc, ◌+◌, ◌==◌, Bool, true, false, List, [], ◌∷◌, ◌++◌, length, is_some, Option, Some, None, if◌then◌else◌, refl, sym, ap, subst, arith, append_assoc}
use Rattle.std.proofs.lemmas.Bool.{and_from, and_left, and_right, eq-eqb, ne_eqb}
use Rattle.std.proofs.lemmas.List.{length-map}
use Rattle.outside.specs.declared.mark.Mark.{Mark}
use Rattle.cache_shards.specs.Seats.{own_marks}
use Rattle.one_history.specs.Logs.{Place, is_place, part_at}
use Rattle.one_history.specs.Runs.{SHARDS}
use Rattle.one_history.specs.Shared.{log_at}
use Rattle.plugin_api.specs.{PlanData}
use Rattle.chain_meaning.specs.CallsByRun.{pool_part, shard_part}
use Rattle.chain_build.specs.Logs.{block_log, block_places, held_log, numbered, places_from, pool_logs, shard_logs, shards_in, use_log}
use Rattle.chain_build.specs.Uses.{AreUsed, IsUsed, UseShape, chain_pools, chain_shape, use_shape}
use Rattle.chain_build.specs.declared.block.BlockChain.{BlockChain}
use Rattle.chain_build.specs.declared.block_uses.BlockUses.{BlockUses}
use Rattle.lent_caches.specs.declared.uses.LentCache.{LentCache}

-- a part that stands first, and one that doesn't
first_part : (p : Place) (ps : List Place) (notes : List Mark) (log : List (List Mark)) (block part : ℕ) → is_place block part p ≡ true → part_at (p ∷ ps) (notes ∷ log) block part ≡ notes
first_part p ps notes log block part is = ap (λ (t : Bool). if t then notes else part_at ps log block part) is

later_part : (p : Place) (ps : List Place) (notes : List Mark) (log : List (List Mark)) (block part : ℕ) → is_place block part p ≡ false
    → part_at (p ∷ ps) (notes ∷ log) block part ≡ part_at ps log block part
later_part p ps notes log block part is = ap (λ (t : Bool). if t then notes else part_at ps log block part) is

-- parts that stand one behind the other
module _ (at : ℕ → Place) (block part : ℕ) (ps : List Place) (log : List (List Mark)) where
  -- none of them is the one, so they are passed over
  past_parts : (first : ℕ) (ls : List (List Mark)) → ((n : ℕ) → n < first + length ls → is_place block part (at n) ≡ false)
      → part_at (numbered at first (length ls) ++ ps) (ls ++ log) block part ≡ part_at ps log block part
  past_parts first [] other = refl
  past_parts first (l ∷ ls) other =
      later_part (at first) (numbered at (first + 1) (length ls) ++ ps) l (ls ++ log) block part (other first (omega arith))
      ∙ past_parts (first + 1) ls (λ n low. other n (omega (arith, low)))

  -- one of them is
  in_parts : (first k : ℕ) (ls : List (List Mark)) → is_place block part (at (first + k)) ≡ true → ((n : ℕ) → n ≢ first + k → is_place block part (at n) ≡ false) → part_at ps log block part ≡ []
      → part_at (numbered at first (length ls) ++ ps) (ls ++ log) block part ≡ log_at ls k
  in_parts first k [] hit other none = none
  in_parts first zero (l ∷ ls) hit other none =
      let here : first + 0 ≡ first = omega arith in
      first_part (at first) (numbered at (first + 1) (length ls) ++ ps) l (ls ++ log) block part (subst (λ (n : ℕ). is_place block part (at n) ≡ true) here hit)
  in_parts first (suc k) (l ∷ ls) hit other none =
      let next : first + suc k ≡ first + 1 + k = omega arith in
      later_part (at first) (numbered at (first + 1) (length ls) ++ ps) l (ls ++ log) block part (other first (λ e. absurd (omega (arith, e))))
      ∙ in_parts (first + 1) k ls (subst (λ (n : ℕ). is_place block part (at n) ≡ true) next hit) (λ n h. other n (λ e. h (e ∙ next))) none

-- a part is a shard's or a pool's
abbrev pub Kind : ℕ → Type 0
Kind part = (part < SHARDS) ⊎ ((pool : ℕ) × (part ≡ SHARDS + pool))

pub kind_of : (part : ℕ) → Kind part
kind_of zero = inl (omega arith)
kind_of (suc zero) = inl (omega arith)
kind_of (suc (suc zero)) = inl (omega arith)
kind_of (suc (suc (suc zero))) = inl (omega arith)
kind_of (suc (suc (suc (suc zero)))) = inl (omega arith)
kind_of (suc (suc (suc (suc (suc zero))))) = inl (omega arith)
kind_of (suc (suc (suc (suc (suc (suc zero)))))) = inl (omega arith)
kind_of (suc (suc (suc (suc (suc (suc (suc zero))))))) = inl (omega arith)
kind_of (suc (suc (suc (suc (suc (suc (suc (suc pool)))))))) = inr (pool, omega arith)

-- the log of it
abbrev pub part_log : BlockUses → (part : ℕ) → Kind part → List Mark
part_log uses part (inl low) = log_at (shard_logs uses.cache) part
part_log uses part (inr found) = log_at (pool_logs uses.pools) found.0

-- as many shards and pools as a chain has
pub shards_long : (chain : BlockChain) (cache : Option LentCache) → is_some cache ≡ is_some chain.cache → length (shard_logs cache) ≡ shards_in chain.cache
shards_long chain cache is = by_plan cache chain.cache is
  where
    by_plan : (cache : Option LentCache) (plan : Option PlanData) → is_some cache ≡ is_some plan → length (shard_logs cache) ≡ shards_in plan
    by_plan None None e = refl
    by_plan None (Some plan) e = absurd cc
    by_plan (Some u) None e = absurd cc
    by_plan (Some u) (Some plan) e = length-map u.of.views own_marks ∙ u.lent.0

pub few_shards : (plan : Option PlanData) → shards_in plan ≤ SHARDS
few_shards None = omega arith
few_shards (Some plan) = omega arith

module _ (b : ℕ) (chain : BlockChain) (uses : BlockUses) (used : IsUsed chain uses) (ps : List Place) (log : List (List Mark)) where
  shards_are : length (shard_logs uses.cache) ≡ shards_in chain.cache
  shards_are = shards_long chain uses.cache (ap (λ (s : UseShape). s.cached) used)

  pools_are : length (pool_logs uses.pools) ≡ chain_pools chain
  pools_are = length-map uses.pools use_log ∙ ap (λ (s : UseShape). s.pools) used

  -- the places and the log of a block in front of others
  opened : (block part : ℕ) → part_at (block_places b chain ++ ps) (block_log uses ++ log) block part
      ≡ part_at (numbered (shard_part b) 0 (length (shard_logs uses.cache)) ++ (numbered (pool_part b) 0 (length (pool_logs uses.pools)) ++ ps)) (shard_logs uses.cache ++ (pool_logs uses.pools ++ log)) block part
  opened block part =
      (λ i. part_at (append_assoc (numbered (shard_part b) 0 (shards_in chain.cache)) (numbered (pool_part b) 0 (chain_pools chain)) ps i) (append_assoc (shard_logs uses.cache) (pool_logs uses.pools) log i) block part)
      ∙ (λ i. part_at (numbered (shard_part b) 0 (sym shards_are i) ++ (numbered (pool_part b) 0 (sym pools_are i) ++ ps)) (shard_logs uses.cache ++ (pool_logs uses.pools ++ log)) block part)

  -- the parts of another block
  pub past_block : (block part : ℕ) → b ≢ block → part_at (block_places b chain ++ ps) (block_log uses ++ log) block part ≡ part_at ps log block part
  past_block block part other =
      opened block part
      ∙ past_parts (shard_part b) block part (numbered (pool_part b) 0 (length (pool_logs uses.pools)) ++ ps) (pool_logs uses.pools ++ log) 0 (shard_logs uses.cache)
      (λ n low. and_left (b == block) (n == part) (ne_eqb b block other))
      ∙ past_parts (pool_part b) block part ps log 0 (pool_logs uses.pools) (λ n low. and_left (b == block) (SHARDS + n == part) (ne_eqb b block other))

  -- and those of this one
  pub in_block : (part : ℕ) (kind : Kind part) → part_at ps log b part ≡ [] → part_at (block_places b chain ++ ps) (block_log uses ++ log) b part ≡ part_log uses part kind
  in_block part (inl low) none =
      opened b part
      ∙ in_parts (shard_part b) b part (numbered (pool_part b) 0 (length (pool_logs uses.pools)) ++ ps) (pool_logs uses.pools ++ log) 0 part (shard_logs uses.cache)
      (and_from (b == b) (0 + part == part) (eq-eqb b b refl) (eq-eqb (0 + part) part (omega arith)))
      (λ n h. and_right (b == b) (n == part) (ne_eqb n part (λ e. h (omega (arith, e)))))
      (past_parts (pool_part b) b part ps log 0 (pool_logs uses.pools) (λ n few. and_right (b == b) (SHARDS + n == part) (ne_eqb (SHARDS + n) part (λ e. absurd (omega (arith, e, low))))) ∙ none)
  in_block part (inr found) none =
      let is = found.1 in
      let few = few_shards chain.cache in
      opened b part
      ∙ past_parts (shard_part b) b part (numbered (pool_part b) 0 (length (pool_logs uses.pools)) ++ ps) (pool_logs uses.pools ++ log) 0 (shard_logs uses.cache)
      (λ n low. and_right (b == b) (n == part) (ne_eqb n part (λ e. absurd (omega (arith, e, low, is, shards_are, few)))))
      ∙ in_parts (pool_part b) b part ps log 0 found.0 (pool_logs uses.pools)
      (and_from (b == b) (SHARDS + (0 + found.0) == part) (eq-eqb b b refl) (eq-eqb (SHARDS + (0 + found.0)) part (omega (arith, is))))
      (λ n h. and_right (b == b) (SHARDS + n == part) (ne_eqb (SHARDS + n) part (λ e. h (omega (arith, e, is)))))
      none

-- the uses of the first block, and of the others
pub used_head : (chain : BlockChain) (uses : BlockUses) (chains : List BlockChain) (blocks : List BlockUses) → AreUsed (chain ∷ chains) (uses ∷ blocks) → IsUsed chain uses
used_head chain uses chains blocks used = let first : use_shape uses ≡ chain_shape chain = cc in first

pub used_tail : (chain : BlockChain) (uses : BlockUses) (chains : List BlockChain) (blocks : List BlockUses) → AreUsed (chain ∷ chains) (uses ∷ blocks) → AreUsed chains blocks
used_tail chain uses chains blocks used = let rest : AreUsed chains blocks = cc in rest

-- no part is in front of the blocks
pub before_all : (b block part : ℕ) (chains : List BlockChain) (blocks : List BlockUses) → AreUsed chains blocks → block < b → part_at (places_from b chains) (held_log blocks) block part ≡ []
before_all b block part [] [] used less = refl
before_all b block part [] (uses ∷ blocks) used less = absurd cc
before_all b block part (chain ∷ chains) [] used less = absurd cc
before_all b block part (chain ∷ chains) (uses ∷ blocks) used less =
    past_block b chain uses (used_head chain uses chains blocks used) (places_from (b + 1) chains) (held_log blocks) block part (λ is. absurd (omega (arith, is, less)))
    ∙ before_all (b + 1) block part chains blocks (used_tail chain uses chains blocks used) (omega (arith, less))
