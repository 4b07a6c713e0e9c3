-- A look into a cache, with when it was made: what `take_look` means, as a pair.
use Rattle.std.specs.Prelude.{ℕ, List, Option}
use Rattle.outside.specs.{EntryData}
use Rattle.outside.specs.Meanings.{Meaning, Done, onward}
use Rattle.outside.specs.declared.entry.Key.{Key}
use Rattle.outside.specs.declared.mark.Mark.{Mark}
use Rattle.chain_meaning.specs.Caching.{take_looked, take_now}

-- one reading of the clock, in milliseconds, and one look under this key at that moment
abbrev pub look_means : Key → List Mark → Meaning (ℕ × Option EntryData)
look_means key marks =
    onward (take_now marks)
    (λ moment left. onward (take_looked key moment left)
    (λ entry more. Done (moment, entry) more))
