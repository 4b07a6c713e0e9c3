-- What a worker is at a moment. Relations speak of it, before and after.
use Rattle.outside.specs.States.{SideState}
use Rattle.pin_table.specs.declared.views.PassView.{PassView}
use Rattle.pin_table.specs.{pass_of}
use Rattle.chain_build.specs.declared.chain.Chain.{Chain}
use Rattle.plugin_api.specs.declared.extra.Extra as extra
use Rattle.plugin_api.specs.declared.rulebook.Rulebook as rulebook
use Rattle.query_worker.specs.declared.worker.Tally.{Tally}
use Rattle.run_meaning.specs.declared.work_end.WorkEnd.{WorkEnd}
use Rattle.query_worker.specs.declared.worker.Worker.{Worker}
use Rattle.run_meaning.specs.Workers.{Worked}

-- a worker: its side, what its pass knows, and what it has counted
pub record WorkerState (C : Type 0) : Type 0 where
  pub side : SideState
  pub pass : PassView C
  pub tally : Tally

abbrev pub worker_state : {S B E : Type 0} {b : rulebook.Ghosts B} {e : extra.Ghosts E}
    → (S → SideState) → Worker S B E b e → WorkerState (Chain B E b e)
worker_state state worker =
    record { side = state worker.side; pass = pass_of worker.pass; tally = worker.tally }

abbrev pub worked_of : Tally → WorkEnd → Worked
worked_of tally end =
    record { taken = tally.pins; seen = tally.seen; starved = tally.starved; end = end }
