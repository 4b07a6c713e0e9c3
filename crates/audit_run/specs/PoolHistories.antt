-- What is kept of a pool's history. This server's own rule.
use Rattle.std.specs.Prelude.{◌≡◌, ◌<◌, ◌%◌, ◌^◌, ◌↔◌, ℕ, min, Bool, IsTrue, List, [], ◌∷◌, ◌++◌}
use Rattle.std.specs.Prelude.{length, slice_index_or}
use Rattle.upstream_health.specs.Pools.{Event, IsDraw, draws, drew_event, failed}
use Rattle.upstream_health.specs.declared.drawn.Drawn.{Drawn}
use Rattle.audit_run.specs.declared.pool_rule.PoolRule.{PoolRule}
use Rattle.audit_run.specs.declared.pool_history.PoolHistory.{PoolHistory}

-- what is kept behind these events
pub record ShowsPool (rule : PoolRule) (events : List Event) (h : PoolHistory) : Type 0 where
  pub most : h.rule.most ≡ rule.most
  pub long : length h.fails.items ≡ rule.size
  pub number : h.draws ≡ draws events % 2 ^ 64
  pub each : (u : ℕ) → u < rule.size
      → slice_index_or h.fails.items u 0 ≡ min rule.most (failed u events)

abbrev pub drawn_of : ℕ → ℕ → Drawn
drawn_of number down = record { number = number; down = down }

-- a draw tells what it should, and is among the events then
pub record TakesDraw (rule : PoolRule) (events : List Event) (number down : ℕ) (told : Bool)
    (new : PoolHistory) : Type 0 where
  pub exact : IsTrue told ↔ IsDraw rule.most rule.size events (drawn_of number down)
  pub shows : IsTrue told → ShowsPool rule (events ++ drew_event number down ∷ []) new
