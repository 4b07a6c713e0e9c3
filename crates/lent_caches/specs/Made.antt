-- A cache that was just made.
use Rattle.std.specs.Prelude.{◌≡◌, ℕ, List, [], ◌∷◌, ◌++◌}
use Rattle.cache_shards.specs.Planned.{planned_capacities}
use Rattle.plugin_api.specs.{PlanData}
use Rattle.lent_caches.specs.declared.judge.BlockJudge.{BlockJudge}
use Rattle.lent_caches.specs.declared.name.CacheName.{CacheName}
use Rattle.lent_caches.specs.Held.{HeldData}

-- no use of it is out, and none came back
pub record IsNewCache (name : CacheName) (plan : PlanData) (judge : BlockJudge) (h : HeldData)
    : Type 0 where
  pub name_is : h.name ≡ name
  pub judge_is : h.cache.judge ≡ judge
  pub room : h.cache.capacities ≡ planned_capacities plan
  pub none_out : h.out ≡ 0
  pub none_back : (shard : ℕ) → h.logs shard ≡ []

-- it stands behind those that are held
pub record IsMade (name : CacheName) (plan : PlanData) (judge : BlockJudge)
    (before after : List HeldData) : Type 0 where
  pub one : HeldData
  pub new : IsNewCache name plan judge one
  pub behind : after ≡ before ++ one ∷ []
