-- What is kept of the history of a shared part. This server's own rule.
use Rattle.std.specs.Prelude.{◌↔◌, Bool, IsTrue, List, [], ◌∷◌, ◌++◌}
use Rattle.std.specs.NonZero.{non_zero_usize_get}
use Rattle.outside.specs.declared.mark.Mark.{Mark}
use Rattle.cache_shards.specs.Answers.{Capacities, IsAnswered, capacities_of}
use Rattle.upstream_health.specs.Pools.{LegalBehind}
use Rattle.audit_run.specs.declared.history.History.{History}
use Rattle.audit_run.specs.declared.history.History.TheVariants as history
use Rattle.audit_run.specs.declared.pool_history.PoolHistory.{PoolHistory}
use Rattle.audit_run.specs.declared.pool_rule.PoolRule.{PoolRule}
use Rattle.audit_run.specs.declared.shard_history.ShardHistory.{ShardHistory}
use Rattle.audit_run.specs.declared.part.PartRule.{PartRule}
use Rattle.audit_run.specs.declared.part.PartRule.TheVariants.{Pool, Shard}
use Rattle.audit_run.specs.PoolHistories.{ShowsPool}
use Rattle.audit_run.specs.Rules.{Allows, all_events, events_of}
use Rattle.audit_run.specs.ShardHistories.{StoresShow}

-- what is kept behind these marks
abbrev pub Shows : PartRule → List Mark → History → Type 0
Shows (Shard success denial) marks (history.Shard h) =
    StoresShow (λ e. e.now) (capacities_of (non_zero_usize_get success) (non_zero_usize_get denial))
    marks h.success h.denial
Shows (Pool rule) marks (history.Pool h) = ShowsPool rule (all_events marks) h
Shows rule marks other = ⊥

-- a mark may stand there, and is among the marks then
pub record TakesMark (rule : PartRule) (marks : List Mark) (mark : Mark) (taken : Bool)
    (new : History) : Type 0 where
  pub exact : IsTrue taken ↔ Allows rule marks mark
  pub shows : IsTrue taken → Shows rule (marks ++ mark ∷ []) new

-- the same of a shard with these capacities
abbrev pub TakesOfShard : Capacities → List Mark → Mark → Bool → ShardHistory → Type 0
TakesOfShard capacities marks mark taken h =
    (IsTrue taken ↔ IsAnswered capacities marks mark)
    × (IsTrue taken → StoresShow (λ e. e.now) capacities (marks ++ mark ∷ []) h.success h.denial)

-- and of a pool
abbrev pub TakesOfPool : PoolRule → List Mark → Mark → Bool → PoolHistory → Type 0
TakesOfPool rule marks mark taken h =
    (IsTrue taken ↔ LegalBehind rule.most rule.size (all_events marks) (events_of mark))
    × (IsTrue taken → ShowsPool rule (all_events (marks ++ mark ∷ [])) h)
