-- The options of `serve` that were read so far.
use Rattle.std.specs.Prelude.{Option, Some, None}
use Rattle.command_line.specs.declared.choice.Choice.{Choice}
use Rattle.command_line.specs.declared.choice.Choice.TheVariants as choice
use Rattle.command_line.specs.declared.given.Given.{Given}
use Rattle.command_line.specs.Command as options

-- with a value, unless there is one
abbrev pub once : {A B : Type 0} → Option A → B → Option B
once None new = Some new
once (Some given) new = None

-- with a further option, unless it was given before
abbrev pub with_choice : Given → Choice → Option Given
with_choice g (choice.Conf file) = once g.conf (record g { conf = Some file })
with_choice g (choice.Port number) = once g.port (record g { port = Some number })
with_choice g (choice.Workers number) = once g.workers (record g { workers = Some number })
with_choice g (choice.Queries number) = once g.queries (record g { queries = Some number })

-- an option that was read, as the grammar has it
abbrev pub choice_data : Choice → options.Choice
choice_data (choice.Conf file) = options.conf file.now
choice_data (choice.Port number) = options.port number
choice_data (choice.Workers number) = options.workers number
choice_data (choice.Queries number) = options.queries number
