-- What a watch in memory has told is what its script gives, as far as it is used. This server's own
-- rule.
use Rattle.std.proofs.Common.{◌≡◌, List, ◌∷◌, ◌++◌, Option, Some, None, refl}
use Rattle.std.proofs.Props.{props}
use Rattle.std.specs.Coded.{Coded-set, coded_ℕ, le_prop, Π_prop, →_prop, Unit-prop}
use Rattle.outside.specs.declared.mark.WatchMark.{WatchMark}
use Rattle.outside.specs.declared.mark.WatchMark.TheVariants.{Look, End, Read, Noted, Published}
use Rattle.outside.specs.Script.{WatchScriptData}
use Rattle.outside.specs.WatchMarks.{IsWatchGiven, looks_in, reads_in, watch_notes_in, AnsweredWatch}
use Rattle.outside_mem.specs.WatchFeed.{watch_script_of}
use Rattle.outside_mem.specs.declared.watch_feed.WatchFeed.{WatchFeed}

-- each mark is given by the script, and as many looks and calls are counted as the marks tell
pub record IsWatchTold (feed : WatchFeed) (marks : List WatchMark) : Type 0 where
  pub each : (before : List WatchMark) (mark : WatchMark) (after : List WatchMark)
      → marks ≡ before ++ mark ∷ after → IsWatchGiven (watch_script_of feed) before mark
  pub looks : looks_in marks ≡ feed.passed
  pub reads : reads_in marks ≡ feed.read.counted
  pub notes : watch_notes_in marks ≡ feed.note.counted

-- where a journal is told
abbrev pub TellsWatch : WatchFeed → Option (List WatchMark) → Type 0
TellsWatch feed journal = (marks : List WatchMark) → journal ≡ Some marks → IsWatchTold feed marks

-- a mark is given in one way at most
IsWatchGiven-prop : (script : WatchScriptData) (before : List WatchMark) (mark : WatchMark)
    → IsProp (IsWatchGiven script before mark)
IsWatchGiven-prop script before (Look interval jitter) = le_prop
IsWatchGiven-prop script before End = le_prop
IsWatchGiven-prop script before (Read name out) = Prim.hlevel props
IsWatchGiven-prop script before (Noted line flag) = Prim.hlevel props
IsWatchGiven-prop script before (Published serial) = Unit-prop

each-prop : (script : WatchScriptData) (marks : List WatchMark)
    → IsProp ((before : List WatchMark) (mark : WatchMark) (after : List WatchMark)
    → marks ≡ before ++ mark ∷ after → IsWatchGiven script before mark)
each-prop script marks =
    Π_prop (λ before. Π_prop (λ mark. Π_prop (λ after. →_prop
    (IsWatchGiven-prop script before mark))))

IsWatchTold-prop : (feed : WatchFeed) (marks : List WatchMark) → IsProp (IsWatchTold feed marks)
IsWatchTold-prop feed marks = λ u v i. record {
  each = each-prop (watch_script_of feed) marks u.each v.each i;
  looks = Coded-set coded_ℕ _ _ u.looks v.looks i;
  reads = Coded-set coded_ℕ _ _ u.reads v.reads i;
  notes = Coded-set coded_ℕ _ _ u.notes v.notes i;
}

pub TellsWatch-prop : (feed : WatchFeed) (journal : Option (List WatchMark))
    → IsProp (TellsWatch feed journal)
TellsWatch-prop feed journal = Π_prop (λ marks. →_prop (IsWatchTold-prop feed marks))

-- the law of a watch: where it tells a journal, the answers in it are those of the script
pub watch_answered : (feed : WatchFeed) (journal : Option (List WatchMark))
    → TellsWatch feed journal → AnsweredWatch (Some (watch_script_of feed)) journal
watch_answered feed None tells = tt
watch_answered feed (Some marks) tells = let told = tells marks refl in record { each = told.each }
