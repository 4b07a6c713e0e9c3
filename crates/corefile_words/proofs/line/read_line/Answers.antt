use Rattle.corefile_words.proofs.Steps.{not_text}
use Rattle.corefile_words.proofs.line.read_line.Goals as goal

pub returns-in-Err : goal.returns-in-Err
returns-in-Err c = not_text c.args.env.now c.args.number c.args.line.now c.in-Err.ensures.cases.0
