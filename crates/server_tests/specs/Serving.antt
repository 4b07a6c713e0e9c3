-- Words that ask for no load. This server's own rule.
use Rattle.std.specs.Prelude.{ℕ, List}
use Rattle.command_line.specs.Command.{IsCommand, load}

abbrev pub LoadsNothing : List (List ℕ) → Type 0
LoadsNothing words = (count : ℕ) → IsCommand words (load count) → ⊥
