use Rattle.std.proofs.Common.{◌∷◌, sym, ap, ◌∙◌}
use Rattle.command_line.proofs.Commands.{no_load, no_serve}
use Rattle.command_line.proofs.command.read_command.Goals as goal

pub returns-in-None-clause-command : goal.returns-in-None-clause-command
returns-in-None-clause-command c =
    no_serve c.args.words.now c.in_ok-first.others.now (c.in_ok-first.ensures.cases.0 ∙ ap (λ w. w ∷ c.in_ok-first.others.now) (sym c.as_str.ensures ∙ c.in-serve.is)) c.in-None.ensures.serve

pub returns-in-None-read_load-clause-command : goal.returns-in-None-read_load-clause-command
returns-in-None-read_load-clause-command c =
    no_load c.args.words.now c.in_ok-first.others.now (c.in_ok-first.ensures.cases.0 ∙ ap (λ w. w ∷ c.in_ok-first.others.now) (sym c.as_str.ensures ∙ c.in-load.is)) c.in-None-read_load.ensures.load
