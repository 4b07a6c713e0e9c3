use Rattle.command_line.proofs.Heads.{no_choice}
use Rattle.command_line.proofs.choice.read_choice.Goals as goal

pub returns : goal.returns
returns c = no_choice c.args.words.now c.in_default.ensures c.in_default-option_value.ensures c.in_default-option_value-2.ensures c.in_default-option_value-3.ensures
