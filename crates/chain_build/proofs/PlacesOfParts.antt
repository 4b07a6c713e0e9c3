-- How the log of a chain grows where the uses of one block are called.
use Rattle.std.proofs.Common.{◌≡◌, ◌≢◌, eqb-true, ◌≤◌, inl, inr, ◌∙◌, ℕ, zero, suc, ◌+◌, ◌==◌, ◌&&◌, Bool, true, false, List, [], ◌∷◌, ◌++◌, map, length, Some, slice_set, slice_get, if◌then◌else◌, refl, sym, ap, subst, arith}
use Rattle.std.proofs.lemmas.Bool.{and_from, and_left, and_right, eq-eqb, ne_eqb}
use Rattle.std.proofs.lemmas.List.{append-nil}
use Rattle.outside.specs.declared.mark.Mark.{Mark}
use Rattle.one_history.specs.Calls.{Call, marks_at}
use Rattle.one_history.specs.Logs.{GrowsBy, Place, is_place, part_at}
use Rattle.one_history.specs.Shared.{log_at}
use Rattle.chain_meaning.specs.CallsByRun.{NumberedMark, Pools, Shards, Shared, block_calls, call_of, pool_part, shard_part}
use Rattle.chain_build.specs.Logs.{LoggedCalls, at_number, held_log, logs_of, places_from, pool_logs, shard_logs}
use Rattle.chain_build.specs.PartsLaws.{Kind, before_all, few_shards, in_block, kind_of, part_log, past_block, shards_long, used_head, used_tail}
use Rattle.chain_build.specs.Uses.{AreUsed, IsUsed, UseShape}
use Rattle.chain_build.specs.declared.block.BlockChain.{BlockChain}
use Rattle.chain_build.specs.declared.block_uses.BlockUses.{BlockUses}
use Rattle.chain_build.proofs.Logging.{differ}

-- where the uses of one block grew, the chain's log has grown by just that
module _ (f : ℕ → ℕ → List Mark) (uses old : BlockUses) where
  grows_at : (b n : ℕ) (chains : List BlockChain) (blocks : List BlockUses) → AreUsed chains blocks → AreUsed chains (slice_set blocks n uses) → slice_get blocks n ≡ Some old
      → ((block part : ℕ) → block ≢ b + n → f block part ≡ []) → ((part : ℕ) (kind : Kind part) → part_log uses part kind ≡ part_log old part kind ++ f (b + n) part) → (block part : ℕ)
      → part_at (places_from b chains) (held_log (slice_set blocks n uses)) block part ≡ part_at (places_from b chains) (held_log blocks) block part ++ f block part
  grows_at b n [] [] used after at other own block part = absurd cc
  grows_at b n [] (first ∷ blocks) used after at other own block part = absurd cc
  grows_at b n (chain ∷ chains) [] used after at other own block part = absurd cc
  grows_at b zero (chain ∷ chains) (first ∷ blocks) used after at other own block part = by_test (b == block) refl
    where
      here : b ≡ b + 0
      here = omega arith

      is_old : first ≡ old
      is_old = cc

      rest : part_at (places_from (b + 1) chains) (held_log blocks) b part ≡ []
      rest = before_all (b + 1) b part chains blocks (used_tail chain first chains blocks used) (omega arith)

      grown : part_at (places_from b (chain ∷ chains)) (held_log (uses ∷ blocks)) b part ≡ part_at (places_from b (chain ∷ chains)) (held_log (first ∷ blocks)) b part ++ f b part
      grown =
          in_block b chain uses (used_head chain uses chains blocks after) (places_from (b + 1) chains) (held_log blocks) part (kind_of part) rest
          ∙ subst (λ (m : ℕ). part_log uses part (kind_of part) ≡ part_log old part (kind_of part) ++ f m part) (sym here) (own part (kind_of part))
          ∙ ap (λ (l : List Mark). l ++ f b part) ((λ i. part_log (sym is_old i) part (kind_of part)) ∙ sym (in_block b chain first (used_head chain first chains blocks used) (places_from (b + 1) chains) (held_log blocks) part (kind_of part) rest))

      by_test : (t : Bool) → (b == block) ≡ t → part_at (places_from b (chain ∷ chains)) (held_log (uses ∷ blocks)) block part ≡ part_at (places_from b (chain ∷ chains)) (held_log (first ∷ blocks)) block part ++ f block part
      by_test true is =
          subst (λ (m : ℕ). part_at (places_from b (chain ∷ chains)) (held_log (uses ∷ blocks)) m part ≡ part_at (places_from b (chain ∷ chains)) (held_log (first ∷ blocks)) m part ++ f m part) (eqb-true b block is) grown
      by_test false is =
          let apart_it : b ≢ block = differ b block is in
          past_block b chain uses (used_head chain uses chains blocks after) (places_from (b + 1) chains) (held_log blocks) block part apart_it
          ∙ sym (append-nil (part_at (places_from (b + 1) chains) (held_log blocks) block part))
          ∙ (λ i. sym (past_block b chain first (used_head chain first chains blocks used) (places_from (b + 1) chains) (held_log blocks) block part apart_it) i ++ sym (other block part (λ e. apart_it (here ∙ sym e))) i)
  grows_at b (suc n) (chain ∷ chains) (first ∷ blocks) used after at other own block part =
      by_test (b == block) refl
      (grows_at (b + 1) n chains blocks (used_tail chain first chains blocks used) (used_tail chain first chains (slice_set blocks n uses) after) at (λ block part h. other block part (λ e. h (e ∙ later)))
      (λ part kind. subst (λ (m : ℕ). part_log uses part kind ≡ part_log old part kind ++ f m part) later (own part kind)) block part)
    where
      later : b + suc n ≡ b + 1 + n
      later = omega arith

      by_test : (t : Bool) → (b == block) ≡ t
          → part_at (places_from (b + 1) chains) (held_log (slice_set blocks n uses)) block part ≡ part_at (places_from (b + 1) chains) (held_log blocks) block part ++ f block part
          → part_at (places_from b (chain ∷ chains)) (held_log (first ∷ slice_set blocks n uses)) block part ≡ part_at (places_from b (chain ∷ chains)) (held_log (first ∷ blocks)) block part ++ f block part
      by_test true is rest =
          let here : b ≡ block = eqb-true b block is in
          subst (λ (m : ℕ). part_at (places_from b (chain ∷ chains)) (held_log (first ∷ slice_set blocks n uses)) m part ≡ part_at (places_from b (chain ∷ chains)) (held_log (first ∷ blocks)) m part ++ f m part) here
          (in_block b chain first (used_head chain first chains (slice_set blocks n uses) after) (places_from (b + 1) chains) (held_log (slice_set blocks n uses)) part (kind_of part) (before_all (b + 1) b part chains (slice_set blocks n uses) (used_tail chain first chains (slice_set blocks n uses) after) (omega arith))
          ∙ sym (append-nil (part_log first part (kind_of part)))
          ∙ (λ i. sym (in_block b chain first (used_head chain first chains blocks used) (places_from (b + 1) chains) (held_log blocks) part (kind_of part) (before_all (b + 1) b part chains blocks (used_tail chain first chains blocks used) (omega arith))) i
          ++ sym (other b part (λ e. absurd (omega (arith, e)))) i))
      by_test false is rest =
          let apart_it : b ≢ block = differ b block is in
          past_block b chain first (used_head chain first chains (slice_set blocks n uses) after) (places_from (b + 1) chains) (held_log (slice_set blocks n uses)) block part apart_it
          ∙ rest
          ∙ ap (λ (l : List Mark). l ++ f block part) (sym (past_block b chain first (used_head chain first chains blocks used) (places_from (b + 1) chains) (held_log blocks) block part apart_it))

marks_both : (serial block part : ℕ) (xs ys : List (Call Mark)) → marks_at serial block part (xs ++ ys) ≡ marks_at serial block part xs ++ marks_at serial block part ys
marks_both serial block part [] ys = refl
marks_both serial block part (x ∷ xs) ys = by_test (x.serial == serial && (x.block == block && x.part == part)) (marks_both serial block part xs ys)
  where
    by_test : (t : Bool) → marks_at serial block part (xs ++ ys) ≡ marks_at serial block part xs ++ marks_at serial block part ys
        → (if t then x.mark ∷ marks_at serial block part (xs ++ ys) else marks_at serial block part (xs ++ ys))
        ≡ (if t then x.mark ∷ marks_at serial block part xs else marks_at serial block part xs) ++ marks_at serial block part ys
    by_test true rest = ap (λ (ms : List Mark). x.mark ∷ ms) rest
    by_test false rest = rest

-- calls of parts of a block: those of another block, and those of each part
module _ (serial n : ℕ) (at : ℕ → Place) (in_it : (k : ℕ) → (at k).block ≡ n) where
  abbrev marks_of : ℕ → ℕ → List NumberedMark → List Mark
  marks_of block part cs = marks_at serial block part (map (call_of serial at) cs)

  marks_here : (block part : ℕ) (c : NumberedMark) (cs : List NumberedMark) → is_place block part (at c.number) ≡ true → marks_of block part (c ∷ cs) ≡ c.mark ∷ marks_of block part cs
  marks_here block part c cs is =
      ap (λ (t : Bool). if t then c.mark ∷ marks_of block part cs else marks_of block part cs) (and_from (serial == serial) (is_place block part (at c.number)) (eq-eqb serial serial refl) is)

  marks_there : (block part : ℕ) (c : NumberedMark) (cs : List NumberedMark) → is_place block part (at c.number) ≡ false → marks_of block part (c ∷ cs) ≡ marks_of block part cs
  marks_there block part c cs is =
      ap (λ (t : Bool). if t then c.mark ∷ marks_of block part cs else marks_of block part cs) (and_right (serial == serial) (is_place block part (at c.number)) is)

  other_block : (block part : ℕ) (cs : List NumberedMark) → block ≢ n → marks_of block part cs ≡ []
  other_block block part [] other = refl
  other_block block part (c ∷ cs) other =
      marks_there block part c cs (and_left ((at c.number).block == block) ((at c.number).part == part) (ne_eqb (at c.number).block block (λ e. other (sym e ∙ in_it c.number)))) ∙ other_block block part cs other

  other_part : (block part : ℕ) (cs : List NumberedMark) → ((k : ℕ) → (at k).part ≢ part) → marks_of block part cs ≡ []
  other_part block part [] other = refl
  other_part block part (c ∷ cs) other =
      marks_there block part c cs (and_right ((at c.number).block == block) ((at c.number).part == part) (ne_eqb (at c.number).part part (other c.number))) ∙ other_part block part cs other

  own_part : (j part : ℕ) (cs : List NumberedMark) → (at j).part ≡ part → ((k : ℕ) → (at k).part ≡ part → k ≡ j) → marks_of n part cs ≡ at_number j cs
  own_part j part [] here one = refl
  own_part j part (c ∷ cs) here one = by_test (c.number == j) (own_part j part cs here one) refl
    where
      by_test : (t : Bool) → marks_of n part cs ≡ at_number j cs → (c.number == j) ≡ t → marks_of n part (c ∷ cs) ≡ (if t then c.mark ∷ at_number j cs else at_number j cs)
      by_test true rest is =
          let it : c.number ≡ j = eqb-true c.number j is in
          marks_here n part c cs (and_from ((at c.number).block == n) ((at c.number).part == part) (eq-eqb (at c.number).block n (in_it c.number)) (eq-eqb (at c.number).part part (ap (λ (m : ℕ). (at m).part) it ∙ here)))
          ∙ ap (λ (ms : List Mark). c.mark ∷ ms) rest
      by_test false rest is =
          marks_there n part c cs (and_right ((at c.number).block == n) ((at c.number).part == part) (ne_eqb (at c.number).part part (λ e. differ c.number j is (one c.number e)))) ∙ rest

-- nothing stands behind the last part
log_behind : (logs : List (List Mark)) (k : ℕ) → length logs ≤ k → log_at logs k ≡ []
log_behind [] k long = refl
log_behind (l ∷ logs) zero long = absurd (omega (arith, long))
log_behind (l ∷ logs) (suc k) long = log_behind logs k (omega (arith, long))

calls_behind : (calls : List NumberedMark) (old new : List (List Mark)) → LoggedCalls calls old new → (k : ℕ) → length old ≤ k → length new ≤ k → at_number k calls ≡ []
calls_behind calls old new logged k long after = ap (λ (l : List Mark). l ++ at_number k calls) (sym (log_behind old k long)) ∙ sym (logged.each k) ∙ log_behind new k after

module _ (serial n : ℕ) (calls : Shared → List NumberedMark) (chain : BlockChain) (uses old : BlockUses) (used : IsUsed chain old) (after : IsUsed chain uses)
    (logged : (which : Shared) → LoggedCalls (calls which) (logs_of which old) (logs_of which uses)) where
  abbrev shard_marks : ℕ → ℕ → List Mark
  shard_marks block part = marks_of serial n (shard_part n) (λ k. refl) block part (calls Shards)

  abbrev pool_marks : ℕ → ℕ → List Mark
  pool_marks block part = marks_of serial n (pool_part n) (λ k. refl) block part (calls Pools)

  abbrev own_calls : ℕ → ℕ → List Mark
  own_calls block part = marks_at serial block part (block_calls serial n (calls Shards) (calls Pools))

  split_calls : (block part : ℕ) → own_calls block part ≡ shard_marks block part ++ pool_marks block part
  split_calls block part = marks_both serial block part (map (call_of serial (shard_part n)) (calls Shards)) (map (call_of serial (pool_part n)) (calls Pools))

  calls_other : (block part : ℕ) → block ≢ 0 + n → own_calls block part ≡ []
  calls_other block part other =
      let apart_it : block ≢ n = λ e. other (omega (arith, e)) in
      split_calls block part
      ∙ (λ i. other_block serial n (shard_part n) (λ k. refl) block part (calls Shards) apart_it i ++ other_block serial n (pool_part n) (λ k. refl) block part (calls Pools) apart_it i)

  grown_part : (part : ℕ) (kind : Kind part) → part_log uses part kind ≡ part_log old part kind ++ own_calls n part
  grown_part part (inl low) =
      (logged Shards).each part
      ∙ ap (λ (ms : List Mark). log_at (shard_logs old.cache) part ++ ms)
      (sym (split_calls n part
      ∙ (λ i. own_part serial n (shard_part n) (λ k. refl) part part (calls Shards) refl (λ k e. e) i
      ++ other_part serial n (pool_part n) (λ k. refl) n part (calls Pools) (λ k e. absurd (omega (arith, e, low))) i)
      ∙ append-nil (at_number part (calls Shards))))
  grown_part part (inr found) =
      let is = found.1 in
      let before = shards_long chain old.cache (ap (λ (s : UseShape). s.cached) used) in
      let behind = shards_long chain uses.cache (ap (λ (s : UseShape). s.cached) after) in
      let few = few_shards chain.cache in
      (logged Pools).each found.0
      ∙ ap (λ (ms : List Mark). log_at (pool_logs old.pools) found.0 ++ ms)
      (sym (split_calls n part
      ∙ (λ i. (own_part serial n (shard_part n) (λ k. refl) part part (calls Shards) refl (λ k e. e)
      ∙ calls_behind (calls Shards) (shard_logs old.cache) (shard_logs uses.cache) (logged Shards) part (omega (arith, is, before, few)) (omega (arith, is, behind, few))) i
      ++ own_part serial n (pool_part n) (λ k. refl) found.0 part (calls Pools) (sym is) (λ k e. omega (arith, e, is)) i)))

  -- where the uses of a block were called, the chain's log has grown by just these calls
  pub chain_grows : (chains : List BlockChain) (blocks : List BlockUses) → AreUsed chains blocks → AreUsed chains (slice_set blocks n uses) → slice_get blocks n ≡ Some old
      → GrowsBy (places_from 0 chains) serial (block_calls serial n (calls Shards) (calls Pools)) (held_log blocks) (held_log (slice_set blocks n uses))
  chain_grows chains blocks are then_are at block part =
      let here : n ≡ 0 + n = omega arith in
      grows_at own_calls uses old 0 n chains blocks are then_are at calls_other (λ part kind. subst (λ (m : ℕ). part_log uses part kind ≡ part_log old part kind ++ own_calls m part) here (grown_part part kind)) block part
