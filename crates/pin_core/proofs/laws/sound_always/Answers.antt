use Rattle.pin_core.specs.Machine.{start}
use Rattle.pin_core.specs.Laws.{sound_start, sound_run}
use Rattle.pin_core.proofs.laws.sound_always.Goals as goal

pub returns : goal.returns
returns c = λ steps. sound_run (start c.args.workers) steps (sound_start c.args.workers c.requires.0 c.requires.1)
