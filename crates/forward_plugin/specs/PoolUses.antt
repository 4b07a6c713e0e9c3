-- A worker's uses of pools, and which of them a query takes.
use Rattle.std.specs.Prelude.{◌≡◌, ℕ, ◌+◌, Bool, true, false, List, [], ◌∷◌, ◌++◌, map, Option, Some, None, slice_get, slice_set, if◌then◌else◌}
use Rattle.ruled_lock.specs.Calls.{met_calls, own_calls}
use Rattle.ruled_lock.specs.Histories.{Begins}
use Rattle.upstream_health.specs.Pools.{Event, Legal, PoolCall}
use Rattle.upstream_health.specs.Seats.{IsSeatOf, PoolView}
use Rattle.forward_plugin.specs.declared.pool_use.PoolUse.{PoolUse}
use Rattle.forward_plugin.specs.declared.deciding.Used.{Used}
use Rattle.forward_plugin.specs.Options.{ForwardData, is_for, is_pooled}

-- the seat is at this pool
abbrev pub IsOwn : PoolUse → Type 0
IsOwn p = p.seat.seat.seat.table_id ≡ p.pool.value.lock.table.shared.table_id

-- what the seat knows of the pool
abbrev pub view_in : PoolUse → PoolView
view_in p = p.seat.seat.seat.me.0

-- the calls that the seat made
abbrev pub calls_of : PoolUse → List PoolCall
calls_of p = own_calls (view_in p)

-- what a seat has seen behind these calls: a legal history; without a call, what it had seen
abbrev pub SeesBehind : PoolView → List Event → PoolView → Type 0
SeesBehind v [] w = w.seen ≡ v.seen
SeesBehind v (event ∷ events) w = (most size : ℕ) → IsSeatOf most size v → Legal most size w.seen

-- a seat made these calls, in this order, behind its own; what it has seen begins with what it had
-- seen; parts and calls of others that it had stay
pub record MakesCalls (v : PoolView) (events : List Event) (w : PoolView) : Type 0 where
  pub begins : Begins v.seen w.seen
  pub sees : SeesBehind v events w
  pub own : own_calls w ≡ own_calls v ++ map Some events
  pub met : met_calls w ≡ met_calls v
  pub start : w.start ≡ v.start
  pub parts : (w.parts ≡ v.parts) × (w.all ≡ v.all)

-- calls of one pool, which is still the same, by a seat that is still at it
pub record Uses (old new : PoolUse) : Type 0 where
  pub pool : new.pool ≡ old.pool
  pub table : new.seat.seat.seat.table_id ≡ old.seat.seat.seat.table_id
  pub events : List Event
  pub makes : MakesCalls (view_in old) events (view_in new)

-- a directive, and how many with pools stand before it
pub record UsedData : Type 0 where
  pub plan : ForwardData
  pub before : ℕ

-- one more, where a directive has a pool
abbrev pub counted : Bool → ℕ
counted true = 1
counted false = 0

-- the first directive that is for a name
abbrev pub used_in : List (List ℕ) → List ForwardData → ℕ → Option UsedData
used_in name [] before = None
used_in name (plan ∷ plans) before =
    if is_for plan name then Some (record { plan = plan; before = before })
    else used_in name plans (before + counted (is_pooled plan))

abbrev pub place_by : Option UsedData → Option ℕ
place_by None = None
place_by (Some used) = if is_pooled used.plan then Some used.before else None

-- the pool that a query takes, where it takes one
abbrev pub pool_place : List ForwardData → List (List ℕ) → Option ℕ
pool_place plans name = place_by (used_in name plans 0)

-- how many directives have pools
abbrev pub pool_count : List ForwardData → ℕ
pool_count [] = 0
pool_count (plan ∷ plans) = counted (is_pooled plan) + pool_count plans

abbrev pub calls_in : Option PoolUse → List PoolCall
calls_in None = []
calls_in (Some p) = calls_of p

-- the calls of the pool at a place
abbrev pub calls_by : Option ℕ → List PoolUse → List PoolCall
calls_by None pools = []
calls_by (Some place) pools = calls_in (slice_get pools place)

-- the pool at a place was used, and no other is another
pub record UsesAt (place : ℕ) (old new : List PoolUse) : Type 0 where
  pub before : PoolUse
  pub after : PoolUse
  pub was : slice_get old place ≡ Some before
  pub is : new ≡ slice_set old place after
  pub uses : Uses before after

-- every pool but the one at this place is as it was, and that one was used
abbrev pub SameBut : Option ℕ → List PoolUse → List PoolUse → Type 0
SameBut None old new = new ≡ old
SameBut (Some place) old new = UsesAt place old new

-- what a search for the directive finds
abbrev pub Finds : Option UsedData → Option Used → Type 0
Finds used None = used ≡ None
Finds used (Some found) = used ≡ Some (record { plan = found.plan.now; before = found.before })
