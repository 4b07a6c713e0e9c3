-- A watch in memory goes on telling what its script gives, one mark after another.
use Rattle.std.proofs.Common.{◌≡◌, ℕ, ◌+◌, ◌<◌, ◌^◌, Bool, true, false, not, cond, List, [], ◌∷◌, ◌++◌, length, Option, Some, None, IfSome, slice_get, refl, sym, ap, ◌∙◌, arith}
use Rattle.std.proofs.lemmas.List.{length-take}
use Rattle.outside.specs.declared.mark.WatchMark.{WatchMark}
use Rattle.outside.specs.declared.mark.WatchMark.TheVariants.{Look, End, Read, Noted, Published}
use Rattle.outside.specs.declared.watch.Look.TheVariants as look
use Rattle.outside.specs.declared.watch.ReadOut.{ReadOut}
use Rattle.outside.specs.declared.watch.ReadOut.TheVariants as readout
use Rattle.outside.specs.declared.datagram.Wrote.{Wrote}
use Rattle.outside.specs.declared.script.FileSet.{FileSet}
use Rattle.outside.specs.Marks.{went}
use Rattle.outside.specs.Script.{is_to_fail}
use Rattle.outside.specs.WatchMarks.{IsWatchGiven, IsReadLimited, is_look, is_read, is_watch_note, file_in, found as found_of, found_in, read_answer}
use Rattle.outside_mem.specs.Calls.{CallsData, counted}
use Rattle.outside_mem.specs.Faults.{read_faults_with, is_starved}
use Rattle.outside_mem.specs.Telling.{TellsMark}
use Rattle.outside_mem.specs.WatchFeed.{watch_script_of, IsUnusedWatchFeed, GivesLook, GivesRead}
use Rattle.outside_mem.specs.WatchTold.{IsWatchTold, TellsWatch}
use Rattle.outside_mem.specs.declared.watch_feed.WatchFeed.{WatchFeed}
use Rattle.outside_mem.proofs.Counting.{none_fails, calls_if, calls_if-fails, calls_if-counted}
use Rattle.outside_mem.proofs.Lists.{each_more, count_more, no_item}

-- the feed behind the call of a mark
abbrev pub feed_behind : WatchFeed → WatchMark → WatchFeed
feed_behind feed mark = record {
  looks = feed.looks;
  passed = feed.passed + cond (is_look mark) 1 0;
  read = calls_if (is_read mark) feed.read;
  note = calls_if (is_watch_note mark) feed.note;
}

-- the mark is given by the script, and the feed goes on by its call
pub record Step (feed new : WatchFeed) (mark : WatchMark) : Type 0 where
  pub given : (marks : List WatchMark) → IsWatchTold feed marks → IsWatchGiven (watch_script_of feed) marks mark
  pub used : new ≡ feed_behind feed mark

script_stays : (feed : WatchFeed) (mark : WatchMark) → watch_script_of (feed_behind feed mark) ≡ watch_script_of feed
script_stays feed mark = λ i. record {
  looks = feed.looks.items;
  fail_read = calls_if-fails (is_read mark) feed.read i;
  fail_note = calls_if-fails (is_watch_note mark) feed.note i;
}

told_more : (feed : WatchFeed) (marks : List WatchMark) (mark : WatchMark) → IsWatchTold feed marks → length (marks ++ mark ∷ []) < 2 ^ 64 → ((m : List WatchMark) → IsWatchTold feed m → IsWatchGiven (watch_script_of feed) m mark) → IsWatchTold (feed_behind feed mark) (marks ++ mark ∷ [])
told_more feed marks mark told few given =
    let stays = script_stays feed mark in
    record {
      each = rw stays (each_more (IsWatchGiven (watch_script_of feed)) marks mark told.each (given marks told));
      looks = count_more is_look marks mark _ _ told.looks few (λ _. refl);
      reads = count_more is_read marks mark _ _ told.reads few (calls_if-counted (is_read mark) feed.read);
      notes = count_more is_watch_note marks mark _ _ told.notes few (calls_if-counted (is_watch_note mark) feed.note);
    }

-- where the journal tells one mark more
more_told : (feed : WatchFeed) (old journal : Option (List WatchMark)) (mark : WatchMark) → TellsWatch feed old → TellsMark old journal mark → IfSome journal (λ marks. length marks < 2 ^ 64) → ((m : List WatchMark) → IsWatchTold feed m → IsWatchGiven (watch_script_of feed) m mark) → TellsWatch (feed_behind feed mark) journal
more_told feed old None mark tells adds few given marks is = absurd cc
more_told feed None (Some told) mark tells adds few given marks is = let e = adds.told in absurd cc
more_told feed (Some before) (Some told) mark tells adds few given marks is =
    let e = adds.told in
    let same : marks ≡ before ++ mark ∷ [] = cc in
    let all : told ≡ before ++ mark ∷ [] = cc in
    let size = ap length all in
    let few : length told < 2 ^ 64 = few in
    let short : length (before ++ mark ∷ []) < 2 ^ 64 = omega arith in
    rw same (told_more feed before mark (tells before refl) short given)

pub watch_tells_more : {feed new : WatchFeed} {old journal : Option (List WatchMark)} {mark : WatchMark} → TellsWatch feed old → TellsMark old journal mark → IfSome journal (λ marks. length marks < 2 ^ 64) → Step feed new mark → TellsWatch new journal
watch_tells_more {feed} {new} {old} {journal} {mark} tells adds few step =
    let same = step.used in
    rw same (more_told feed old journal mark tells adds few step.given)

-- nothing is told of an unused feed
pub watch_starts : {feed : WatchFeed} {journal : List WatchMark} → IsUnusedWatchFeed feed → journal ≡ [] → TellsWatch feed (Some journal)
watch_starts {feed} {journal} unused nothing marks is =
    let none : marks ≡ [] = cc in
    rw none (record {
      each = λ before mark after e. absurd (no_item before mark after e);
      looks = sym unused.passed;
      reads = sym unused.read;
      notes = sym unused.note;
    })

-- the calls
pub look_step : {feed new : WatchFeed} (interval jitter : ℕ) → GivesLook feed new look.Look → Step feed new (Look interval jitter)
look_step interval jitter gives = record { given = λ marks told. rw told.looks gives.0; used = gives.1 }

pub end_step : {feed new : WatchFeed} → GivesLook feed new look.End → Step feed new End
end_step {feed} gives =
    let same : feed.passed ≡ feed.passed + 0 = omega arith in
    record { given = λ marks told. rw told.looks gives.0; used = gives.1 ∙ ap (λ (n : ℕ). record feed { passed = n }) same }

pub published_step : (feed : WatchFeed) (serial : ℕ) → Step feed feed (Published serial)
published_step feed serial =
    let same : feed.passed ≡ feed.passed + 0 = omega arith in
    record { given = λ marks told. tt; used = ap (λ (n : ℕ). record feed { passed = n }) same }

pub noted_step : (feed : WatchFeed) {calls : CallsData} (line : List ℕ) (result : Wrote) → went result ≡ not (is_to_fail feed.note.fails feed.note.counted) → calls ≡ counted feed.note → Step feed (record feed { note = calls }) (Noted line (went result))
noted_step feed line result is used =
    let same : feed.passed ≡ feed.passed + 0 = omega arith in
    record { given = λ marks told. rw told.notes is; used = λ i. record feed { passed = same i; note = used i } }

-- a read that met no want of memory gives what the script gives
pub record GivesOut (feed new : WatchFeed) (name : List ℕ) (out : ReadOut) : Type 0 where
  pub given : out ≡ read_answer (watch_script_of feed) feed.passed feed.read.counted name
  pub used : new ≡ record feed { read = counted feed.read }

pub gives_out : (feed new : WatchFeed) (name : List ℕ) (out : ReadOut) → GivesRead feed new name out → is_starved out ≡ false → GivesOut feed new name out
gives_out feed new name readout.NoMemory gives fed = absurd cc
gives_out feed new name readout.Failed gives fed = record { given = gives.0; used = gives.1 }
gives_out feed new name readout.Missing gives fed = record { given = gives.0; used = gives.1 }
gives_out feed new name (readout.Got bytes) gives fed = record { given = gives.0; used = gives.1 }

pub starved : (feed new : WatchFeed) (name : List ℕ) (out : ReadOut) → GivesRead feed new name out → is_starved out ≡ true → new ≡ feed
starved feed new name readout.NoMemory gives is = gives
starved feed new name readout.Failed gives is = absurd cc
starved feed new name readout.Missing gives is = absurd cc
starved feed new name (readout.Got bytes) gives is = absurd cc

pub read_step : {feed new : WatchFeed} {name : List ℕ} {out : ReadOut} → GivesOut feed new name out → Step feed new (Read name out)
read_step {feed} gives =
    let same : feed.passed ≡ feed.passed + 0 = omega arith in
    record { given = λ marks told. rw (told.looks, told.reads) gives.given; used = gives.used ∙ ap (λ (n : ℕ). record feed { passed = n; read = counted feed.read }) same }

-- a read gives no more than the first bytes of a file
few_found : (found : Option (List ℕ)) → IsReadLimited (found_of found)
few_found None = tt
few_found (Some bytes) = omega (arith, length-take 1048577 bytes)

few_in : (set : Option FileSet) (name : List ℕ) → IsReadLimited (found_in set name)
few_in None name = tt
few_in (Some set) name = few_found (file_in set name)

few : (test : Bool) (set : Option FileSet) (name : List ℕ) → IsReadLimited (cond test readout.Failed (found_in set name))
few true set name = tt
few false set name = few_in set name

pub limited : {feed new : WatchFeed} {name : List ℕ} {out : ReadOut} → GivesOut feed new name out → IsReadLimited out
limited {feed} {new} {name} {out} gives =
    rw gives.given (few (is_to_fail feed.read.fails feed.read.counted) (slice_get feed.looks.items feed.passed) name)

-- a read fails only where the script lists it
no_failed_read : (test : Bool) (set : Option FileSet) (name : List ℕ) → test ≡ false → readout.Failed ≡ cond test readout.Failed (found_in set name) → ⊥
no_failed_read true set name off is = absurd cc
no_failed_read false None name off is = absurd cc
no_failed_read false (Some set) name off is = no_failed_found (file_in set name) is
  where
    no_failed_found : (found : Option (List ℕ)) → readout.Failed ≡ found_of found → ⊥
    no_failed_found None e = absurd cc
    no_failed_found (Some bytes) e = absurd cc

pub quiet_read : (feed : WatchFeed) (faults : ℕ) (name : List ℕ) (out : ReadOut) → out ≡ read_answer (watch_script_of feed) feed.passed feed.read.counted name → (feed.read.fails ≡ [] → faults ≡ 0) → feed.read.fails ≡ [] → read_faults_with faults out ≡ 0
quiet_read feed faults name readout.Failed given quiet none = absurd (no_failed_read _ (slice_get feed.looks.items feed.passed) name (none_fails feed.read.fails feed.read.counted none) given)
quiet_read feed faults name readout.Missing given quiet none = quiet none
quiet_read feed faults name readout.NoMemory given quiet none = quiet none
quiet_read feed faults name (readout.Got bytes) given quiet none = quiet none
