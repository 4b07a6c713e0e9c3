-- What turns of a watch did besides what its marks tell: the refusals of patterns that they noted,
-- and the sweeps of those that found no free slot. This server's own rule.
use Rattle.std.specs.Prelude.{ℕ, ◌+◌, List, [], ◌∷◌, ◌++◌, length}
use Rattle.corefile_blocks.specs.declared.bundle.Bundle.{Bundle}
use Rattle.run_meaning.specs.declared.looking.Looking.{Looking}
use Rattle.run_meaning.specs.declared.looking.Looking.TheVariants as looking
use Rattle.pin_table.specs.declared.views.Sweep.{Sweep}
use Rattle.reload_watch.specs.Going.{pattern_refused}
use Rattle.reload_watch.specs.Sweeps.{SweptFor}
use Rattle.run_meaning.specs.WatchTurn.{WatchTurn, looked, published_by, starved}

-- 1 for an answer that is the refusal of a pattern
abbrev pub answer_refused : Looking → ℕ
answer_refused (looking.Refused why) = pattern_refused why
answer_refused other = 0

-- the same for a turn
abbrev pub look_refused : WatchTurn → ℕ
look_refused (looked times reads gives answer flag) = answer_refused answer
look_refused (starved times reads gives) = 0

-- how many of the turns noted the refusal of a pattern
abbrev pub all_refused : List WatchTurn → ℕ
all_refused [] = 0
all_refused (turn ∷ turns) = look_refused turn + all_refused turns

-- the sweeps of a turn that found no free slot, behind so many published generations
abbrev pub IsSweptTurn : List Sweep → ℕ → WatchTurn → Type 0
IsSweptTurn sweeps published (looked times reads gives answer flag) =
    SweptFor sweeps published answer
IsSweptTurn sweeps published (starved times reads gives) = Unit {0}

-- those of turns one after another, behind these published bundles
abbrev pub AreSwept : List Sweep → List Bundle → List WatchTurn → Type 0
AreSwept sweeps bundles [] = Unit {0}
AreSwept sweeps bundles (turn ∷ turns) =
    IsSweptTurn sweeps (length bundles) turn
    × AreSwept sweeps (bundles ++ published_by turn) turns
