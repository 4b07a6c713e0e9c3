use Rattle.pin_core.specs.OneRunLaws as laws
use Rattle.pin_core.proofs.laws.one_pin_run.Goals as goal

pub returns : goal.returns
returns c = λ published serials most sides are. laws.one_pin_run c.args.workers published serials c.requires.0 c.requires.1 most sides are
