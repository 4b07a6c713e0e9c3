-- The uses of caches that are out, and what their holders keep of the parts.
use Rattle.std.specs.Prelude.{◌≡◌, ℕ, ◌+◌, List, [], length, slice_get, Some}
use Rattle.cache_plugin.specs.{UseData}
use Rattle.cache_shards.specs.Seats.{ShardView, met_marks, own_marks}
use Rattle.one_history.specs.Runs.{SHARDS}
use Rattle.lent_caches.specs.declared.judge.BlockJudge.{BlockJudge}
use Rattle.lent_caches.specs.declared.uses.TheConstants.{PARTS}

-- something holds at each shard
abbrev pub EachAt : (ShardView BlockJudge → Type 0) → List (ShardView BlockJudge) → Type 0
EachAt P views = (at : ℕ) (v : ShardView BlockJudge) → slice_get views at ≡ Some v → P v

-- a shard of a use that is lent: it has one part, and no other has met it
abbrev pub IsLentAt : ShardView BlockJudge → Type 0
IsLentAt v = (v.parts ≡ 1) × (met_marks v ≡ [])

abbrev pub IsLent : UseData BlockJudge → Type 0
IsLent u = (length u.views ≡ SHARDS) × EachAt IsLentAt u.views

-- a shard of what is held, of which so many are out: it has all other parts, and makes no call
abbrev pub IsHeldAt : ℕ → ShardView BlockJudge → Type 0
IsHeldAt out v = (v.parts + out ≡ PARTS) × ((v.all ≡ PARTS) × (own_marks v ≡ []))

abbrev pub IsRest : ℕ → UseData BlockJudge → Type 0
IsRest out u = (length u.views ≡ SHARDS) × EachAt (IsHeldAt out) u.views
