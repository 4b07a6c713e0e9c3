-- The parts that the blocks of a run's generations share, and the one history of each. This
-- server's own rule.
use Rattle.std.specs.Prelude.{◌≡◌, ◌<◌, ℕ, ◌+◌, Bool, List, [], ◌∷◌, Some, slice_get}
use Rattle.outside.specs.declared.mark.Mark.{Mark}
use Rattle.one_history.specs.Runs.{CacheRun, IsRun, SHARDS, reading}
use Rattle.audit_run.specs.declared.part.SharedPart.{SharedPart}
use Rattle.audit_run.specs.Rules.{IsLegal}

-- one of the parts is that of these blocks, from this serial on, and what is legal by it is so
pub record HasPart (parts : List SharedPart) (first : ℕ) (blocks : List ℕ) (number : ℕ)
    (legal : List Mark → Type 0) : Type 0 where
  pub at : ℕ
  pub part : SharedPart
  pub is : slice_get parts at ≡ Some part
  pub first_is : part.first ≡ first
  pub blocks_are : part.blocks ≡ blocks
  pub number_is : part.part ≡ number
  pub legal_is : (marks : List Mark) → IsLegal part.rule marks → legal marks

-- What the blocks of each generation read; which of them have a cache, and how many pools; and
-- which histories of these are legal.
module _ {R : Type 0} (generations : List (List R)) (parts : List SharedPart) where
  -- each shard of each cache is one of the parts
  abbrev pub HaveShards : (R → Bool) → (R → List Mark → Type 0) → Type 0
  HaveShards cached legal = (run : CacheRun R) → IsRun cached generations run → (shard : ℕ)
      → shard < SHARDS → HasPart parts run.first run.blocks shard (legal run.reads)

  -- and so is each pool
  abbrev pub HavePools : (R → ℕ) → (R → ℕ → List Mark → Type 0) → Type 0
  HavePools pools legal = (serial block : ℕ) (reads : R)
      → reading generations serial block ≡ Some reads → (pool : ℕ) → pool < pools reads
      → HasPart parts serial (block ∷ []) (SHARDS + pool) (legal reads pool)
