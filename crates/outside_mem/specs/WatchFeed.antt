-- How far a watch in memory has used its script, and what it gives next. This server's own rule.
use Rattle.std.specs.Prelude.{◌≡◌, ℕ, ◌+◌, ◌<◌, ◌≤◌, List, length, Option, Some, None}
use Rattle.outside.specs.declared.watch.Look as declared_look
use Rattle.outside.specs.declared.watch.Look.TheVariants as look
use Rattle.outside.specs.declared.watch.ReadOut.{ReadOut}
use Rattle.outside.specs.declared.watch.ReadOut.TheVariants as readout
use Rattle.outside.specs.Script.{WatchScriptData}
use Rattle.outside.specs.WatchMarks.{read_answer}
use Rattle.outside_mem.specs.Calls.{counted}
use Rattle.outside_mem.specs.declared.watch_feed.WatchFeed.{WatchFeed}

-- the script that is used
abbrev pub watch_script_of : WatchFeed → WatchScriptData
watch_script_of feed =
    record { looks = feed.looks.items; fail_read = feed.read.fails; fail_note = feed.note.fails }

-- nothing is used up
pub record IsUnusedWatchFeed (feed : WatchFeed) : Type 0 where
  pub passed : feed.passed ≡ 0
  pub read : feed.read.counted ≡ 0
  pub note : feed.note.counted ≡ 0

-- a look goes on where there is a set behind the present one
abbrev pub GivesLook : WatchFeed → WatchFeed → declared_look.Look → Type 0
GivesLook old new look.Look =
    (old.passed + 1 < length old.looks.items) × (new ≡ record old { passed = old.passed + 1 })
GivesLook old new look.End = (length old.looks.items ≤ old.passed + 1) × (new ≡ old)

-- what a read gives of the bytes of a file, or of a missing one
abbrev pub out_of : Option (List ℕ) → ReadOut
out_of (Some bytes) = readout.Got bytes
out_of None = readout.Missing

-- the read that is next gives what the script gives, and is counted; want of memory uses up nothing
abbrev pub GivesRead : WatchFeed → WatchFeed → List ℕ → ReadOut → Type 0
GivesRead old new name readout.NoMemory = new ≡ old
GivesRead old new name out =
    (out ≡ read_answer (watch_script_of old) old.passed old.read.counted name)
    × (new ≡ record old { read = counted old.read })
