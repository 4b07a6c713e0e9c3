-- What a chain's log has at a shard of a block is what the seat of its use there knows.
use Rattle.std.proofs.Common.{◌≡◌, ◌≢◌, ◌<◌, ◌∙◌, inl, ℕ, ◌+◌, ◌==◌, ◌&&◌, Bool, List, [], ◌∷◌, ◌++◌, Option, Some, None, if◌then◌else◌, eqb-true, refl, sym, ap, subst, arith}
use Rattle.std.proofs.lemmas.Bool.{and_from, and_right, eq-eqb, eqb-false, ne_eqb}
use Rattle.one_history.specs.Logs.{part_at}
use Rattle.one_history.specs.Runs.{SHARDS}
use Rattle.one_history.specs.Seats.{SeatLog, is_chains, seat_log}
use Rattle.one_history.specs.Shared.{log_at}
use Rattle.outside.specs.declared.mark.Mark.{Mark}
use Rattle.lent_caches.specs.ApartLaws.{both}
use Rattle.lent_caches.specs.declared.uses.LentCache.{LentCache}
use Rattle.chain_build.specs.Logs.{held_log, places_from, shard_logs}
use Rattle.chain_build.specs.PartsLaws.{before_all, in_block, past_block, used_head, used_tail}
use Rattle.chain_build.specs.Seats.{Owner, seat_in, seat_of, seats_from}
use Rattle.chain_build.specs.Uses.{AreUsed}
use Rattle.chain_build.specs.declared.block.BlockChain.{BlockChain}
use Rattle.chain_build.specs.declared.block_uses.BlockUses.{BlockUses}

-- in front of the blocks is no seat
no_seat : (owner : Owner) (b block shard : ℕ) (blocks : List BlockUses) → block < b → seat_log (seats_from owner shard b blocks) owner.worker owner.serial block ≡ []
no_seat owner b block shard [] less = refl
no_seat owner b block shard (uses ∷ blocks) less = by_cache uses.cache (no_seat owner (b + 1) block shard blocks (omega (arith, less)))
  where
    by_cache : (cache : Option LentCache) → seat_log (seats_from owner shard (b + 1) blocks) owner.worker owner.serial block ≡ [] → seat_log (seat_in owner shard b cache ++ seats_from owner shard (b + 1) blocks) owner.worker owner.serial block ≡ []
    by_cache None rest = rest
    by_cache (Some u) rest =
        let off = ne_eqb b block (λ e. absurd (omega (arith, e, less))) in
        let not = and_right (is_chains owner.worker owner.serial (seat_of owner shard b u)) (b == block) off in
        ap (λ (t : Bool). if t then (seat_of owner shard b u).marks else seat_log (seats_from owner shard (b + 1) blocks) owner.worker owner.serial block) not ∙ rest

-- what the first block's seat knows, and what others do
seat_here : (owner : Owner) (b shard : ℕ) (cache : Option LentCache) (rest : List (SeatLog Mark)) → seat_log rest owner.worker owner.serial b ≡ [] → seat_log (seat_in owner shard b cache ++ rest) owner.worker owner.serial b ≡ log_at (shard_logs cache) shard
seat_here owner b shard None rest none = none
seat_here owner b shard (Some u) rest none =
    let own = and_from (owner.worker == owner.worker) (owner.serial == owner.serial) (eq-eqb owner.worker owner.worker refl) (eq-eqb owner.serial owner.serial refl) in
    let on = and_from (owner.worker == owner.worker && owner.serial == owner.serial) (b == b) own (eq-eqb b b refl) in
    ap (λ (t : Bool). if t then (seat_of owner shard b u).marks else seat_log rest owner.worker owner.serial b) on

seat_there : (owner : Owner) (b block shard : ℕ) (cache : Option LentCache) (rest : List (SeatLog Mark)) → b ≢ block → seat_log (seat_in owner shard b cache ++ rest) owner.worker owner.serial block ≡ seat_log rest owner.worker owner.serial block
seat_there owner b block shard None rest other = refl
seat_there owner b block shard (Some u) rest other =
    let off = and_right (owner.worker == owner.worker && owner.serial == owner.serial) (b == block) (ne_eqb b block other) in
    ap (λ (t : Bool). if t then (seat_of owner shard b u).marks else seat_log rest owner.worker owner.serial block) off

-- a shard of a log is what the seat of its block knows there
pub shard_laid : (owner : Owner) (b block shard : ℕ) (chains : List BlockChain) (blocks : List BlockUses) → shard < SHARDS → AreUsed chains blocks
    → seat_log (seats_from owner shard b blocks) owner.worker owner.serial block ≡ part_at (places_from b chains) (held_log blocks) block shard
shard_laid owner b block shard [] [] low used = refl
shard_laid owner b block shard [] (uses ∷ blocks) low used = absurd cc
shard_laid owner b block shard (chain ∷ chains) [] low used = absurd cc
shard_laid owner b block shard (chain ∷ chains) (uses ∷ blocks) low used =
    let first = used_head chain uses chains blocks used in
    let others = used_tail chain uses chains blocks used in
    let ps = places_from (b + 1) chains in
    let log = held_log blocks in
    both (b == block)
    (λ e.
    subst (λ (n : ℕ). seat_log (seats_from owner shard b (uses ∷ blocks)) owner.worker owner.serial n ≡ part_at (places_from b (chain ∷ chains)) (held_log (uses ∷ blocks)) n shard) (eqb-true b block e)
    (seat_here owner b shard uses.cache (seats_from owner shard (b + 1) blocks) (no_seat owner (b + 1) b shard blocks (omega arith))
    ∙ sym (in_block b chain uses first ps log shard (inl low) (before_all (b + 1) b shard chains blocks others (omega arith)))))
    (λ e.
    let other : b ≢ block = eqb-false b block e in
    seat_there owner b block shard uses.cache (seats_from owner shard (b + 1) blocks) other
    ∙ (shard_laid owner (b + 1) block shard chains blocks low others ∙ sym (past_block b chain uses first ps log block shard other)))
