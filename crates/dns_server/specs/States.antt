-- What a run is set to, and what its sides are behind it. Relations speak of these records.
use Rattle.std.specs.Prelude.{ℕ, List, map}
use Rattle.load_maker.specs.declared.load.Load.{Load}
use Rattle.outside.specs.States.{SideState, WatchState}
use Rattle.command_line.specs.Command.{ServeData}
use Rattle.corefile_words.specs.declared.word.Pair.{Pair}
use Rattle.corefile_bundle.specs.Gathering.{Source}
use Rattle.run_meaning.specs.Workers.{Worked}
use Rattle.plugin_api.specs.{Sayings, Takings}
use Rattle.chain_meaning.specs.{Terms, ground_at}
use Rattle.reload_watch.specs.{Footing, footing_on, source_data, terms_of}
use Rattle.dns_server.specs.declared.setup.Setup.{Setup}
use Rattle.dns_server.specs.declared.report.Done.{Done}
use Rattle.dns_server.specs.Stocking.{Program, footing_of}

-- what a run is set to: the Corefile to serve by and the environment, what reading it stands on,
-- how many workers an endpoint has, and how many datagrams a worker takes at most
pub record RunSetup : Type 0 where
  pub source : Source
  pub footing : Footing
  pub workers : ℕ
  pub most : ℕ

-- what all of a run's configurations stand on
abbrev pub run_terms : RunSetup → Terms
run_terms setup = terms_of setup.footing

abbrev pub setup_of : Program → List Pair → ServeData → RunSetup
setup_of program env serve =
    record {
      source = record { conf = serve.conf; env = env };
      footing = footing_of program serve.port;
      workers = serve.workers;
      most = serve.most;
    }

-- with judges of these names
abbrev pub run_setup : Setup → Takings → Sayings → List (List ℕ) → RunSetup
run_setup setup taken said judges =
    record {
      source = source_data setup.source;
      footing = footing_on taken said (ground_at setup.port judges);
      workers = setup.workers;
      most = setup.most;
    }

-- a side whose worker has ended
pub record SideRun : Type 0 where
  pub state : SideState
  pub worked : Worked

abbrev pub side_run : {S : Type 0} → (S → SideState) → Done S → SideRun
side_run state done = record {
  state = state done.side;
  worked = record { taken = done.pins; seen = done.seen; starved = done.starved; end = done.end };
}

abbrev pub side_runs : {S : Type 0} → (S → SideState) → List (Done S) → List SideRun
side_runs state sides = map (side_run state) sides

-- what the run of a load leaves: the load's data, the sides and the watch that were made of it, and
-- how many generations were published
pub record LoadData : Type 0 where
  pub load : Load
  pub sides : List SideRun
  pub watch : WatchState
  pub published : ℕ
