-- What a seat of a pool has seen. This server's own rule.
use Rattle.std.specs.Prelude.{◌≡◌, ℕ, ◌+◌, ◌-◌, List, [], ◌∷◌, ◌++◌, length, map, Some, replicate}
use Rattle.ruled_lock.specs.declared.rule.View.{View}
use Rattle.ruled_lock.specs.Calls.{InOrder, met_calls, own_calls}
use Rattle.ruled_lock.specs.Held.{owned}
use Rattle.ruled_lock.specs.Histories.{Begins}
use Rattle.ruled_lock.specs.Places.{once_below}
use Rattle.ruled_lock.specs.Shuffles.{MergesTo}
use Rattle.ruled_lock.specs.Steps.{OwnsApart}
use Rattle.upstream_health.specs.declared.state.Health.{Health}
use Rattle.upstream_health.specs.declared.state.PoolAsk.{PoolAsk}
use Rattle.upstream_health.specs.declared.state.PoolTold.{PoolTold}
use Rattle.upstream_health.specs.Pools.{Event, Legal}

abbrev pub PoolView : Type 0
PoolView = View Health PoolAsk PoolTold

-- a seat of a pool of so many upstreams, of which so many failed tries leave one out
pub record IsSeatOf (most size : ℕ) (v : PoolView) : Type 0 where
  pub start : Health
  pub is : v.start ≡ Some start
  pub number : start.number ≡ 0
  pub most_is : start.most ≡ most
  pub fails : start.fails.items ≡ replicate {A = ℕ} size 0

-- the call stands once in the history, last, behind all that the seat had seen; the history is
-- legal
pub record Calls (v : PoolView) (e : Event) (w : PoolView) : Type 0 where
  pub between : List Event
  pub seen : w.seen ≡ (v.seen ++ between) ++ e ∷ []
  pub own : own_calls w ≡ own_calls v ++ Some e ∷ []
  pub met : met_calls w ≡ met_calls v
  pub start : w.start ≡ v.start
  pub parts : w.parts ≡ v.parts
  pub all : w.all ≡ v.all
  pub legal : (most size : ℕ) → IsSeatOf most size v → Legal most size w.seen

-- a seat with all parts of a pool that was not called
pub record IsNewView (all : ℕ) (v : PoolView) : Type 0 where
  pub seen : v.seen ≡ []
  pub own : own_calls v ≡ []
  pub met : met_calls v ≡ []
  pub parts : (v.parts ≡ all) × (v.all ≡ all)

-- a seat is cut in two, at one pool: the right one has one part and no calls, and both have seen
-- what the seat had seen
pub record Splits (v left right : PoolView) : Type 0 where
  pub seats : (most size : ℕ) → IsSeatOf most size v
      → IsSeatOf most size left × IsSeatOf most size right
  pub seen : (left.seen ≡ v.seen) × (right.seen ≡ v.seen)
  pub parts : (left.parts ≡ v.parts - 1) × (right.parts ≡ 1)
  pub all : (left.all ≡ v.all) × (right.all ≡ v.all)
  pub own : (own_calls left ≡ own_calls v) × (own_calls right ≡ [])
  pub met : (met_calls left ≡ met_calls v) × (met_calls right ≡ [])

-- a seat takes over the parts and calls of another, and what that one has seen; no call stands in
-- two of its lists, or twice in one
pub record Meets (v other w : PoolView) : Type 0 where
  pub seats : (most size : ℕ) → IsSeatOf most size v → IsSeatOf most size w
  pub own : own_calls w ≡ own_calls v
  pub met : met_calls w ≡ met_calls v ++ own_calls other ∷ met_calls other
  pub parts : (w.parts ≡ v.parts + other.parts) × (w.all ≡ v.all)
  pub begins : Begins v.seen w.seen × Begins other.seen w.seen
  pub apart : OwnsApart w

-- a seat that knows the whole history of its pool: it is legal, each place of it stands once in the
-- lists of the seat, each of which rises, so it has each call of the lists once, in the order of
-- each
pub record IsWhole (v : PoolView) : Type 0 where
  pub legal : (most size : ℕ) → IsSeatOf most size v → Legal most size v.seen
  pub once : (p : ℕ) → owned p v ≡ once_below p (length v.seen)
  pub ordered : InOrder v
  pub merges : MergesTo (own_calls v ∷ met_calls v) (map Some v.seen)
