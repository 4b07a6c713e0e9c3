-- The run of a load: the run of a command over the load's data in memory, and its summary. This
-- server's own rule.
use Rattle.std.specs.Prelude.{◌≡◌, ◌≢◌, ◌⊎◌, ℕ, ◌+◌, List, [], ◌∷◌, map, Option, None, Some}
use Rattle.command_line.specs.declared.bounds.TheConstants as defaults
use Rattle.std.specs.List.{AllByRecursion}
use Rattle.dns_data.specs.declared.limit.TheConstants as limits
use Rattle.dns_data.specs.declared.message.Transport.TheVariants.{Udp, Tcp}
use Rattle.outside.specs.declared.mark.Mark.{Mark}
use Rattle.outside.specs.Hosts.{HostState}
use Rattle.outside_mem.specs.{side_state, watch_state}
use Rattle.load_maker.specs.declared.load.Load.{Load}
use Rattle.load_maker.specs.{TellsAll, TellsSome, conf_name, datagrams_in, host_of, load_of, queries_by}
use Rattle.load_maker.specs.{summary_lines, summary_of}
use Rattle.load_maker.specs.Summary.{taken_in}
use Rattle.dns_server.specs.LoadCounts.{load_summary}
use Rattle.dns_server.specs.declared.report.LoadRun.{LoadRun}
use Rattle.dns_server.specs.declared.status.Status.{Status}
use Rattle.dns_server.specs.declared.status.Status.TheVariants as status
use Rattle.dns_server.specs.Report.{RunData, RunsCommand}
use Rattle.chain_meaning.specs.{ground_at}
use Rattle.plugin_api.specs.{Sayings, Takings}
use Rattle.reload_watch.specs.{footing_on}
use Rattle.dns_server.specs.States.{LoadData, RunSetup, SideRun, setup_of, side_runs}
use Rattle.dns_server.specs.Stocking.{Program, StockData}

-- what the run of a load has
abbrev pub load_data : LoadRun → LoadData
load_data run = record {
  load = run.load;
  sides = side_runs side_state run.sides.items;
  watch = watch_state run.watch;
  published = run.published;
}

-- what a report has, with a load
abbrev pub with_load : RunData → Option LoadData → RunData
with_load run load = record run { load = load }

-- a load runs as the command that serves by its Corefile and says nothing else, without an
-- environment
abbrev pub load_setup : Program → RunSetup
load_setup program =
    setup_of program []
    (record {
      conf = conf_name;
      port = defaults.DEFAULT_PORT;
      workers = defaults.DEFAULT_WORKERS;
      most = limits.TURNS;
    })

-- with judges of these names, and a Corefile of this name
abbrev pub memory_setup : Takings → Sayings → List (List ℕ) → List ℕ → RunSetup
memory_setup taken said judges conf = record {
  source = record { conf = conf; env = [] };
  footing = footing_on taken said (ground_at defaults.DEFAULT_PORT judges);
  workers = defaults.DEFAULT_WORKERS;
  most = limits.TURNS;
}

-- a run over the host of a load of so many queries
pub record RunsInMemory (program : Program) (count : ℕ) (run : RunData) : Type 0 where
  pub left : HostState
  pub runs : RunsCommand (load_setup program) run (host_of (load_of count)) left

-- two sides tell these journals
abbrev pub TellBoth : List SideRun → List Mark → List Mark → Type 0
TellBoth sides udp tcp = map (λ side. side.state.journal) sides ≡ Some udp ∷ Some tcp ∷ []

-- Both sides and the watch told their journals to the end, and a fact of the lines that sum up what
-- the sides told.
pub record SumsUp (load : LoadData) (P : List (List ℕ) → Type 0) : Type 0 where
  pub udp : List Mark
  pub tcp : List Mark
  pub journals : TellBoth load.sides udp tcp
  pub watch : load.watch.journal ≢ None
  pub is : P (summary_lines (summary_of udp tcp load.published))

-- the summary of a load that has ended is told, up to the first line that fails; or want of memory
-- came, and no line of it is told
abbrev pub TellsSummary : LoadData → Status → HostState → HostState → Type 0
TellsSummary load status.Usage before after = ⊥
TellsSummary load (status.ReadFailed name) before after = ⊥
TellsSummary load status.OpenFailed before after = ⊥
TellsSummary load status.TellFailed before after = SumsUp load (TellsSome before after)
TellsSummary load (status.Refused why) before after = ⊥
TellsSummary load (status.StockShort name asked had) before after = ⊥
TellsSummary load status.NoMemory before after = after ≡ before
TellsSummary load status.WorkerFailed before after = ⊥
TellsSummary load status.Ended before after = SumsUp load (TellsAll before after)

-- by what the run over memory came to: one that has ended tells its summary
abbrev pub TellsLoad : Status → LoadData → Status → HostState → HostState → Type 0
TellsLoad status.Ended load final before after = TellsSummary load final before after
TellsLoad other load final before after = (final ≡ other) × (after ≡ before)

-- what a report has of its own where a load was run: no side, no watch, and nothing published
abbrev pub alone : Status → StockData → ℕ → RunData
alone how stock starved = record {
  status = how;
  sides = [];
  watch = None;
  published = 0;
  stock = stock;
  starved = starved;
  load = None;
}

-- what the run over memory of a load left, as its report has it, and what of it was told
pub record Leaves (load : Load) (inner run : RunData) (told : LoadData) (before after : HostState)
    : Type 0 where
  pub some : inner.published ≢ 0
  pub load_is : told.load ≡ load
  pub sides_are : told.sides ≡ inner.sides
  pub watch_is : inner.watch ≡ Some told.watch
  pub published_is : told.published ≡ inner.published
  pub final : Status
  pub alone_is : run ≡ alone final inner.stock inner.starved
  pub tells : TellsLoad inner.status told final before after

-- a run that published nothing leaves no load, and nothing is told of it
abbrev pub TellsRun : Load → RunData → RunData → Option LoadData → HostState → HostState → Type 0
TellsRun load inner run None before after =
    (inner.published ≡ 0) × (run ≡ alone inner.status inner.stock inner.starved)
    × (after ≡ before)
TellsRun load inner run (Some told) before after = Leaves load inner run told before after

-- the run over memory, as a load has it, with the report's stock and its watcher's want of memory
abbrev pub run_of : Status → LoadData → RunData → RunData
run_of how load run = record {
  status = how;
  sides = load.sides;
  watch = Some load.watch;
  published = load.published;
  stock = run.stock;
  starved = run.starved;
  load = None;
}

-- no call of a side has failed
pub record HasNoFault (side : SideRun) : Type 0 where
  pub recv : side.state.counts.recv ≡ 0
  pub send : side.state.counts.send ≡ 0
  pub ask : side.state.counts.ask ≡ 0
  pub note : side.state.counts.note ≡ 0

-- the sides that tell these journals took all queries of a load of so many, each those that come
-- its way, in their order
pub record TookQueries (load : Load) (count : ℕ) (udp tcp : List Mark) : Type 0 where
  pub udp_took : datagrams_in udp ≡ queries_by Udp load.datagrams
  pub tcp_took : datagrams_in tcp ≡ queries_by Tcp load.datagrams
  pub all : taken_in udp + taken_in tcp ≡ count

-- where both sides and the watch told their journals to the end, the summary is that which the
-- number of queries alone gives
abbrev pub LoadSays : ℕ → LoadData → Type 0
LoadSays count load = load.watch.journal ≢ None → (udp tcp : List Mark)
    → TellBoth load.sides udp tcp
    → summary_of udp tcp load.published ≡ load_summary count

-- how a run over memory that published something ends: no call of its sides fails
abbrev pub EndsLoad : Status → Type 0
EndsLoad status.NoMemory = Unit {0}
EndsLoad status.Ended = Unit {0}
EndsLoad other = ⊥

-- a load of so many queries has run, and come to this
pub record HasRun (program : Program) (count : ℕ) (load : LoadData) (run : RunData)
    (before after : HostState) : Type 0 where
  pub load_is : load.load ≡ load_of count
  pub some : load.published ≢ 0
  pub how : Status
  pub ends : EndsLoad how
  pub runs : RunsInMemory program count (run_of how load run)
  pub quiet : AllByRecursion HasNoFault load.sides
  pub took : how ≡ status.Ended → (udp tcp : List Mark) → TellBoth load.sides udp tcp
      → TookQueries load.load count udp tcp
  pub says : how ≡ status.Ended → LoadSays count load
  pub tells : TellsLoad how load run.status before after

-- a run over memory that published nothing came to the report's status
pub record HasStopped (program : Program) (count : ℕ) (run : RunData) : Type 0 where
  pub inner : RunData
  pub none : inner.published ≡ 0
  pub status_is : run.status ≡ inner.status
  pub stock_is : run.stock ≡ inner.stock
  pub starved_is : run.starved ≡ inner.starved
  pub runs : RunsInMemory program count inner

-- a load of so many queries leaves its run where that published something
abbrev pub Loads : Program → ℕ → Option LoadData → RunData → HostState → HostState → Type 0
Loads program count None run before after =
    (after ≡ before) × ((run.status ≡ status.NoMemory) ⊎ HasStopped program count run)
Loads program count (Some load) run before after = HasRun program count load run before after

-- of its own the report of a load has no side and no watch, and nothing that was published
pub record LoadsBy (program : Program) (count : ℕ) (run : RunData) (before after : HostState)
    : Type 0 where
  pub sides : run.sides ≡ []
  pub watch : run.watch ≡ None
  pub published : run.published ≡ 0
  pub loads : Loads program count run.load run before after
