-- The roles of a run: what each has before it acts and behind it, and what they leave together.
-- This server's own rule.
use Rattle.std.specs.Prelude.{◌≡◌, ◌≤◌, ◌<◌, ℕ, ◌+◌, List, [], ◌∷◌, length, map, Some, None}
use Rattle.std.specs.Arc.{arc_value}
use Rattle.std.specs.Vec.{vec_capacity}
use Rattle.dns_data.specs.declared.limit.TheConstants as limits
use Rattle.outside.specs.Hosts.{IsFreshSide}
use Rattle.std.specs.List.{AllByRecursion}
use Rattle.outside.specs.States.{SideState, WatchState}
use Rattle.reload_watch.specs.{WatchGoesOn}
use Rattle.corefile_bundle.specs.Gathering.{Source}
use Rattle.chain_build.specs.{PlansData, ground_of}
use Rattle.outside.specs.declared.mark.Mark.{Mark}
use Rattle.chain_meaning.specs.{Ground}
use Rattle.chain_build.specs.declared.chain.Chain.{Chain}
use Rattle.plugin_api.specs.declared.extra.Extra as extra
use Rattle.plugin_api.specs.declared.rulebook.Rulebook as rulebook
use Rattle.pin_table.specs.declared.passes.Pass.{Pass}
use Rattle.pin_table.specs.declared.table.PinTable.{PinTable}
use Rattle.pin_table.specs.{ArePasses, IsPassOf, count_of, id_of, pass_of, plan_of}
use Rattle.pin_table.specs.Opening.{new_pass}
use Rattle.run_meaning.specs.declared.work_end.WorkEnd.{WorkEnd}
use Rattle.query_worker.specs.declared.worker.Worker.{Worker}
use Rattle.query_worker.specs.{IsIdle, IsResting, WorksToEnd, worker_state}
use Rattle.query_worker.specs as working
use Rattle.run_meaning.specs.declared.watch_end.WatchEnd.{WatchEnd}
use Rattle.reload_watch.specs.declared.watcher.Watcher.{Watcher}
use Rattle.reload_watch.specs.{IsKeeping, KeepsStock, Watches, source_data, watcher_state}
use Rattle.dns_server.specs.declared.report.Done.{Done}
use Rattle.dns_server.specs.declared.roles.Role.{Role}
use Rattle.dns_server.specs.declared.roles.Role.TheVariants.{Work, Watch}
use Rattle.dns_server.specs.declared.roles.Shared.{Shared}
use Rattle.dns_server.specs.declared.finishing.Finished.{Finished}
use Rattle.dns_server.specs.declared.finishing.Opened.{Opened}
use Rattle.dns_server.specs.Report.{Left}
use Rattle.dns_server.specs.States.{side_runs}
use Rattle.dns_server.specs.Stocking.{stock_data}

-- a worker takes a datagram at least, and as many as it may pin at most
abbrev pub IsMost : ℕ → Type 0
IsMost most = (0 < most) × (most ≤ limits.TURNS)

-- what the roles of a run leave
abbrev pub left_by : {S W E : Type 0} → (S → SideState) → (W → WatchState) → (E → List ℕ)
    → Finished S W E → Left
left_by side watch title finished = record {
  sides = side_runs side finished.dones.items;
  watch = watch finished.watch;
  published = finished.published;
  stock = stock_data title finished.stock;
  starved = finished.starved;
}

-- what all roles share: the table, what a configuration is read from, and how many datagrams a
-- worker takes at most
pub record Task (C : Type 0) : Type 0 where
  pub table : PinTable C Mark PlansData
  pub source : Source
  pub most : ℕ

module _ {B E : Type 0} {b : rulebook.Ghosts B} {e : extra.Ghosts E} where
  abbrev pub task_of : Shared B E b e → Task (Chain B E b e)
  task_of shared = record {
    table = shared.table.now;
    source = source_data shared.source;
    most = shared.most;
  }

  -- a watcher that has published the first generation alone
  pub record IsWatching {W N K : Type 0} (table : PinTable (Chain B E b e) N K)
      (watcher : Watcher W B E b e) : Type 0 where
    pub keeps : IsKeeping table watcher
    pub first : count_of (plan_of watcher.publisher) ≡ 1
    pub starved : watcher.starved ≡ 0

  -- what a role has before it acts: a worker's side was told of no end
  abbrev pub IsReady : {S W : Type 0} → (S → SideState) → Task (Chain B E b e) → Role S W B E b e
      → Type 0
  IsReady side task (Work worker end) =
      working.IsReady task.table worker × IsMost task.most × ((side worker.side).left ≡ 0)
  IsReady side task (Watch watcher) = IsWatching task.table watcher

  -- a worker that has ended so
  pub record HasWorked {S : Type 0} (state : S → SideState) (task : Task (Chain B E b e))
      (old new : Worker S B E b e)
      (end : WorkEnd) : Type 0 where
    pub rests : IsResting task.table new.pass
    pub works : WorksToEnd task.most (worker_state state old) (worker_state state new) end

  -- a watcher that has ended
  pub record HasWatched {W : Type 0} (state : W → WatchState) (task : Task (Chain B E b e))
      (old new : Watcher W B E b e)
      : Type 0 where
    pub keeps : IsKeeping task.table new
    pub workers : new.workers ≡ old.workers
    pub extras : KeepsStock old new
    pub end : WatchEnd
    pub watches : Watches task.source (watcher_state state old) (watcher_state state new) end
    pub goes : WatchGoesOn (state old.watch) (state new.watch)

  -- what a role has behind it
  abbrev pub Becomes : {S W : Type 0} → (S → SideState) → (W → WatchState) → Task (Chain B E b e)
      → Role S W B E b e
      → Role S W B E b e → Type 0
  Becomes side watch task (Work old before) (Work new None) = ⊥
  Becomes side watch task (Work old before) (Work new (Some end)) = HasWorked side task old new end
  Becomes side watch task (Work old before) (Watch new) = ⊥
  Becomes side watch task (Watch old) (Work new end) = ⊥
  Becomes side watch task (Watch old) (Watch new) = HasWatched watch task old new

  -- a worker of this side that has done nothing yet, with the pass of this number
  pub record IsStarting {S N K : Type 0} (table : PinTable (Chain B E b e) N K) (number : ℕ)
      (side : S) (worker : Worker S B E b e) : Type 0 where
    pub side_is : worker.side ≡ side
    pub own : IsPassOf table worker.pass
    pub pass_is : pass_of worker.pass ≡ new_pass number 1
    pub idle : IsIdle worker.tally

  -- workers of these sides, with the passes from this number on
  abbrev pub AreStarting : {S W N K : Type 0} → PinTable (Chain B E b e) N K → ℕ → List S
      → List (Role S W B E b e) → Type 0
  AreStarting table number [] [] = Unit {0}
  AreStarting table number [] (role ∷ roles) = ⊥
  AreStarting table number (side ∷ sides) [] = ⊥
  AreStarting table number (side ∷ sides) (Work worker end ∷ roles) =
      IsStarting table number side worker × AreStarting table (number + 1) sides roles
  AreStarting table number (side ∷ sides) (Watch watcher ∷ roles) = ⊥

  -- workers that have ended
  abbrev pub IsWorking : {S W : Type 0} → Role S W B E b e → Type 0
  IsWorking (Work worker None) = ⊥
  IsWorking (Work worker (Some end)) = Unit {0}
  IsWorking (Watch watcher) = ⊥

  abbrev pub AreWorking : {S W : Type 0} → List (Role S W B E b e) → Type 0
  AreWorking roles = AllByRecursion IsWorking roles

  -- what a worker that has ended leaves
  abbrev pub IsPart : {S W : Type 0} → Role S W B E b e → Done S → Pass (Chain B E b e) → Type 0
  IsPart (Work worker None) done pass = ⊥
  IsPart (Work worker (Some end)) done pass =
      (pass ≡ worker.pass)
      × (done ≡ record {
        side = worker.side;
        end = end;
        pins = worker.tally.pins;
        seen = worker.tally.seen;
        starved = worker.tally.starved;
      })
  IsPart (Watch watcher) done pass = ⊥

  -- what a run has once its sides are open and the first generation is published
  pub record IsOpened {S W : Type 0} (state : S → SideState) (basis : Ground)
      (opened : Opened S W B E b e)
      : Type 0 where
    pub watcher : IsWatching opened.table opened.watcher
    pub ground_is : ground_of (arc_value opened.watcher.current) ≡ basis
    pub passes : ArePasses (id_of opened.table) 1 opened.passes.items
    pub each : length opened.passes.items ≡ length opened.sides.items
    pub workers : opened.watcher.workers ≡ length opened.sides.items
    pub fresh : AllByRecursion IsFreshSide (map state opened.sides.items)
    pub no_role : opened.roles.items ≡ []
    pub no_done : opened.dones.items ≡ []
    pub roles_room : length opened.sides.items + 1 ≤ vec_capacity opened.roles
    pub dones_room : length opened.sides.items ≤ vec_capacity opened.dones

  -- the watcher as a role
  abbrev pub as_role : {S W : Type 0} → Watcher W B E b e → Role S W B E b e
  as_role watcher = Watch watcher
