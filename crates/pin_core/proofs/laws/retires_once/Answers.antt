use Rattle.std.proofs.Common.{[]}
use Rattle.pin_core.specs.Machine.{start, run}
use Rattle.pin_core.specs.Laws.{sound_start, sound_run, idle_drain, machine-run_log, retires_once}
use Rattle.pin_core.proofs.laws.retires_once.Goals as goal

pub returns : goal.returns
returns c =
    let n = c.args.workers in record {
      idle = λ steps. idle_drain (run (start n) steps) (sound_run (start n) steps (sound_start n c.requires.0 c.requires.1));
      machine = λ steps. machine-run_log (record { machine = start n; events = [] }) steps;
      once = λ steps. retires_once n steps c.requires.0 c.requires.1;
    }
