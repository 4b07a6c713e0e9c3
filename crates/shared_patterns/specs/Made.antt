-- What became of the text of a pattern that may be shared.
use Rattle.outside.specs.declared.maker.Made.{Made}
use Rattle.outside.specs.declared.maker.Made.TheVariants as made
use Rattle.shared_patterns.specs.declared.making.MadeShared.{MadeShared}
use Rattle.shared_patterns.specs.declared.making.MadeShared.TheVariants as shared

-- as a maker tells it
abbrev pub made_of : MadeShared → Made
made_of (shared.Pattern pattern) = made.Pattern pattern
made_of shared.NotPattern = made.NotPattern
made_of shared.Refused = made.Refused
made_of shared.NoMemory = made.NoMemory
