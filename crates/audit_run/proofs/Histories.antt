-- What is kept of the history of a part stays right.
use Rattle.std.proofs.Common.{◌≡◌, ℕ, Bool, true, false, List, [], ◌∷◌, ◌++◌, Option, refl}
use Rattle.std.proofs.Common.{sym, ap, ◌∙◌, subst, append-nil, append_assoc}
use Rattle.std.specs.NonZero.{non_zero_usize_get}
use Rattle.outside.specs.{EntryData}
use Rattle.outside.specs.declared.entry.InnerMark.TheVariants.{Drawn, Reported}
use Rattle.outside.specs.declared.entry.Key.{Key}
use Rattle.outside.specs.declared.mark.Mark.{Mark}
use Rattle.outside.specs.declared.mark.Mark.TheVariants.{Inner, Looked, Put}
use Rattle.cache_shards.specs.Answers.{Capacities, capacities_of}
use Rattle.upstream_health.specs.Pools.{noted_event}
use Rattle.audit_run.specs.declared.pool_history.PoolHistory.{PoolHistory}
use Rattle.audit_run.specs.declared.pool_rule.PoolRule.{PoolRule}
use Rattle.audit_run.specs.declared.shard_history.ShardHistory.{ShardHistory}
use Rattle.audit_run.specs.declared.history.History.TheVariants as history
use Rattle.audit_run.specs.declared.part.PartRule.{PartRule}
use Rattle.audit_run.specs.declared.part.PartRule.TheVariants.{Pool, Shard}
use Rattle.audit_run.specs.Histories.{Shows, TakesMark, TakesOfPool, TakesOfShard}
use Rattle.audit_run.specs.PoolHistories.{ShowsPool, TakesDraw}
use Rattle.audit_run.specs.Rules.{all_events, events_of}
use Rattle.audit_run.specs.ShardHistories.{StoresShow, TakesLook}
use Rattle.audit_run.proofs.Shards.{idle}

pub events-then : (marks ys : List Mark)
    → all_events (marks ++ ys) ≡ all_events marks ++ all_events ys
events-then [] ys = refl
events-then (x ∷ marks) ys =
    ap (λ l. events_of x ++ l) (events-then marks ys)
    ∙ sym (append_assoc (events_of x) (all_events marks) (all_events ys))

pub events-one : (marks : List Mark) (m : Mark)
    → all_events (marks ++ m ∷ []) ≡ all_events marks ++ events_of m
events-one marks m =
    events-then marks (m ∷ []) ∙ ap (λ l. all_events marks ++ l) (append-nil (events_of m))

module _ (rule : PoolRule) (marks : List Mark) (h : PoolHistory) where
  pub drawn_takes : (number down : ℕ) (taken : Bool)
      → TakesDraw rule (all_events marks) number down taken h
      → TakesOfPool rule marks (Inner (Drawn number down)) taken h
  drawn_takes number down taken t = (
    (λ yes. (t.exact.0 yes, tt), λ legal. t.exact.1 legal.0),
    λ yes. subst (λ l. ShowsPool rule l h) (sym (events-one marks (Inner (Drawn number down))))
        (t.shows yes),
  )

  pub reported_takes : (upstream : ℕ) (agreed : Bool)
      → ShowsPool rule (all_events marks ++ noted_event upstream agreed ∷ []) h
      → TakesOfPool rule marks (Inner (Reported upstream agreed)) true h
  reported_takes upstream agreed shows = (
    (λ yes. (tt, tt), λ legal. refl),
    λ yes. subst (λ l. ShowsPool rule l h)
        (sym (events-one marks (Inner (Reported upstream agreed)))) shows,
  )

module _ (capacities : Capacities) (marks : List Mark) (h : ShardHistory) where
  pub looked_takes : (key : Key) (now : ℕ) (told : Option EntryData) (taken : Bool)
      → TakesLook (λ e. e.now) capacities marks key now told taken h.success h.denial
      → TakesOfShard capacities marks (Looked key now told) taken h
  looked_takes key now told taken t = (t.exact, t.shows)

  pub put_takes : (key : Key) (entry : EntryData)
      → StoresShow (λ e. e.now) capacities (marks ++ Put key entry true ∷ []) h.success h.denial
      → TakesOfShard capacities marks (Put key entry true) true h
  put_takes key entry shows = ((λ yes. tt, λ a. refl), λ yes. shows)

  -- a mark that is no call of a store that it changes
  module _ (shows : StoresShow (λ e. e.now) capacities marks h.success h.denial) where
    pub unkept_takes : (key : Key) (entry : EntryData)
        → TakesOfShard capacities marks (Put key entry false) true h
    unkept_takes key entry = (
      (λ yes. tt, λ a. refl),
      λ yes. idle (λ e. e.now) capacities marks h.success h.denial shows (Put key entry false)
          (λ stands_in. refl) (λ stands_in k. refl),
    )

    pub other_takes : (m : Mark)
        → ((key : Key) (now : ℕ) (told : Option EntryData) → m ≡ Looked key now told → ⊥)
        → ((key : Key) (entry : EntryData) (kept : Bool) → m ≡ Put key entry kept → ⊥)
        → TakesOfShard capacities marks m true h
    other_takes (Looked key now told) no_look no_put = absurd (no_look key now told refl)
    other_takes (Put key entry kept) no_look no_put = absurd (no_put key entry kept refl)
    other_takes m no_look no_put = (
      (λ yes. tt, λ a. refl),
      λ yes. idle (λ e. e.now) capacities marks h.success h.denial shows m
          (λ stands_in. refl) (λ stands_in k. refl),
    )

module _ (marks : List Mark) (m : Mark) (taken : Bool) where
  pub shard_takes : (rule : PartRule) (old new : ShardHistory)
      → Shows rule marks (history.Shard old)
      → ((capacities : Capacities) (before : List Mark)
      → StoresShow (λ e. e.now) capacities before old.success old.denial
      → TakesOfShard capacities before m taken new)
      → TakesMark rule marks m taken (history.Shard new)
  shard_takes (Shard success denial) old new shows takes =
      let t = takes (capacities_of (non_zero_usize_get success) (non_zero_usize_get denial)) marks
      shows in
      record { exact = t.0; shows = t.1 }
  shard_takes (Pool rule) old new shows takes = absurd shows

  pub pool_takes : (rule : PartRule) (old new : PoolHistory) → Shows rule marks (history.Pool old)
      → ((rule : PoolRule) (before : List Mark) → ShowsPool rule (all_events before) old
      → TakesOfPool rule before m taken new)
      → TakesMark rule marks m taken (history.Pool new)
  pool_takes (Shard success denial) old new shows takes = absurd shows
  pool_takes (Pool rule) old new shows takes =
      let t = takes rule marks shows in
      record { exact = t.0; shows = t.1 }
