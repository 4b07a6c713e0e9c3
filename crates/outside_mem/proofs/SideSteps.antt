-- A side in memory goes on telling what its script gives, one mark after another.
use Rattle.std.proofs.Common.{◌≡◌, ℕ, ◌+◌, ◌<◌, ◌≤◌, ◌^◌, Bool, true, false, cond, List, [], ◌∷◌, ◌++◌, length, Option, Some, None, IfSome, refl, sym, ap, ◌∙◌, arith, length-append}
use Rattle.std.proofs.lemmas.List.{append-nil}
use Rattle.std.proofs.lemmas.Grind.{flat_map-append}
use Rattle.outside.specs.declared.datagram.Outcome.{Outcome}
use Rattle.outside.specs.declared.datagram.Outcome.TheVariants as outcome
use Rattle.outside.specs.declared.mark.Mark.{Mark}
use Rattle.outside.specs.Script.{SideScriptData, IsGiven, is_recv, is_send, is_note, is_now, is_word, outcome_of, outcomes_in, ask_answer}
use Rattle.outside_mem.specs.Calls.{CallsData, counted}
use Rattle.outside_mem.specs.Feed.{script_of, read_on, is_want, call_behind, calls_with, outcome_given}
use Rattle.outside_mem.specs.SideTold.{IsTold, Tells, call_after, outcomes_given}
use Rattle.outside_mem.specs.Telling.{TellsMark}
use Rattle.outside_mem.specs.declared.feed.SideFeed.{SideFeed}
use Rattle.outside_mem.specs.declared.readings.Readings.{Readings}
use Rattle.outside_mem.proofs.Counting.{calls_if, calls_if-fails, calls_if-counted}
use Rattle.outside_mem.proofs.Lists.{each_more, count_more}

-- the readings behind a reading that is one of theirs, or isn't
abbrev pub readings_if : Bool → Readings → Readings
readings_if true readings = read_on readings
readings_if false readings = readings

abbrev pub calls_after : SideScriptData → CallsData → List Outcome → CallsData
calls_after script calls [] = calls
calls_after script calls (result ∷ results) = calls_after script (calls_with script calls result) results

-- the feed behind the call of a mark
abbrev pub feed_behind : SideFeed → Mark → SideFeed
feed_behind feed mark = record {
  gets = feed.gets;
  asks = feed.asks;
  nows = readings_if (is_now mark) feed.nows;
  words = readings_if (is_word mark) feed.words;
  recv = calls_if (is_recv mark) feed.recv;
  send = calls_if (is_send mark) feed.send;
  ask = calls_after (script_of feed) feed.ask (outcome_of mark);
  note = calls_if (is_note mark) feed.note;
}

-- the mark is given by the script, and the feed goes on by its call
pub record Step (feed new : SideFeed) (mark : Mark) : Type 0 where
  pub given : (marks : List Mark) → IsTold feed marks → IsGiven (script_of feed) marks mark
  pub outcomes : outcomes_given (script_of feed) feed.ask.counted (outcome_of mark) ≡ outcome_of mark
  pub used : new ≡ feed_behind feed mark
  pub one_outcome : length (outcome_of mark) ≤ 1

-- the script stays
readings_if-items : (is : Bool) (readings : Readings) → (readings_if is readings).items ≡ readings.items
readings_if-items true readings = refl
readings_if-items false readings = refl

cond-fails : (test : Bool) (calls : CallsData) → (cond test (counted calls) calls).fails ≡ calls.fails
cond-fails true calls = refl
cond-fails false calls = refl

pub calls_with-fails : (script : SideScriptData) (calls : CallsData) (result : Outcome) → (calls_with script calls result).fails ≡ calls.fails
calls_with-fails script calls outcome.NoMemory = cond-fails (is_want (ask_answer script calls.counted)) calls
calls_with-fails script calls outcome.Silence = refl
calls_with-fails script calls outcome.Failed = refl
calls_with-fails script calls (outcome.Got bytes) = refl

calls_after-fails : (script : SideScriptData) (calls : CallsData) (results : List Outcome) → (calls_after script calls results).fails ≡ calls.fails
calls_after-fails script calls [] = refl
calls_after-fails script calls (result ∷ results) = calls_after-fails script (calls_with script calls result) results ∙ calls_with-fails script calls result

script_stays : (feed : SideFeed) (mark : Mark) → script_of (feed_behind feed mark) ≡ script_of feed
script_stays feed mark = λ i. record {
  gets = feed.gets.items;
  nows = (readings_if-items (is_now mark) feed.nows i).items;
  words = (readings_if-items (is_word mark) feed.words i).items;
  asks = feed.asks.items;
  fail_recv = calls_if-fails (is_recv mark) feed.recv i;
  fail_send = calls_if-fails (is_send mark) feed.send i;
  fail_ask = calls_after-fails (script_of feed) feed.ask (outcome_of mark) i;
  fail_note = calls_if-fails (is_note mark) feed.note i;
}

-- the counts go on with the marks
readings_if-counted : (is : Bool) (readings : Readings) → readings.counted + cond is 1 0 < 2 ^ 64 → (readings_if is readings).counted ≡ readings.counted + cond is 1 0
readings_if-counted true readings few = omega arith
readings_if-counted false readings few = omega arith

cond-counted : (test : Bool) (calls : CallsData) → calls.counted + 1 < 2 ^ 64 → (cond test (counted calls) calls).counted ≡ cond test (calls.counted + 1) calls.counted
cond-counted true calls few = omega arith
cond-counted false calls few = refl

calls_with-counted : (script : SideScriptData) (calls : CallsData) (result : Outcome) → calls.counted + 1 < 2 ^ 64 → (calls_with script calls result).counted ≡ call_behind script calls.counted result
calls_with-counted script calls outcome.NoMemory few = cond-counted (is_want (ask_answer script calls.counted)) calls few
calls_with-counted script calls outcome.Silence few = omega arith
calls_with-counted script calls outcome.Failed few = omega arith
calls_with-counted script calls (outcome.Got bytes) few = omega arith

calls_after-counted : (script : SideScriptData) (calls : CallsData) (results : List Outcome) → length results ≤ 1 → calls.counted + 1 < 2 ^ 64 → (calls_after script calls results).counted ≡ call_after script calls.counted results
calls_after-counted script calls [] one few = refl
calls_after-counted script calls (result ∷ []) one few = calls_with-counted script calls result few
calls_after-counted script calls (result ∷ other ∷ results) one few = absurd (omega arith)

at_most : (test : Bool) (calls : CallsData) → (cond test (counted calls) calls).counted ≤ calls.counted + 1
at_most true calls = omega arith
at_most false calls = omega arith

calls_with-few : (script : SideScriptData) (calls : CallsData) (result : Outcome) → (calls_with script calls result).counted ≤ calls.counted + 1
calls_with-few script calls outcome.NoMemory = at_most (is_want (ask_answer script calls.counted)) calls
calls_with-few script calls outcome.Silence = omega arith
calls_with-few script calls outcome.Failed = omega arith
calls_with-few script calls (outcome.Got bytes) = omega arith

calls_after-few : (script : SideScriptData) (calls : CallsData) (results : List Outcome) → length results ≤ 1 → (calls_after script calls results).counted ≤ calls.counted + 1
calls_after-few script calls [] one = omega arith
calls_after-few script calls (result ∷ []) one = calls_with-few script calls result
calls_after-few script calls (result ∷ other ∷ results) one = absurd (omega arith)

call_after-append : (script : SideScriptData) (call : ℕ) (first second : List Outcome) → call_after script call (first ++ second) ≡ call_after script (call_after script call first) second
call_after-append script call [] second = refl
call_after-append script call (result ∷ first) second = call_after-append script (call_behind script call result) first second

outcomes_given-append : (script : SideScriptData) (call : ℕ) (first second : List Outcome) → outcomes_given script call (first ++ second) ≡ outcomes_given script call first ++ outcomes_given script (call_after script call first) second
outcomes_given-append script call [] second = refl
outcomes_given-append script call (result ∷ first) second =
    ap (λ (l : List Outcome). outcome_given script call result ∷ l) (outcomes_given-append script (call_behind script call result) first second)

-- with one mark more
told_more : (feed : SideFeed) (marks : List Mark) (mark : Mark) → IsTold feed marks → length (marks ++ mark ∷ []) < 2 ^ 64 → Step feed (feed_behind feed mark) mark → IsTold (feed_behind feed mark) (marks ++ mark ∷ [])
told_more feed marks mark told few step =
    let script = script_of feed in
    let stays = script_stays feed mark in
    let size = length-append marks (mark ∷ []) in
    let before = outcomes_in marks in
    let behind = outcome_of mark in
    let joined : outcomes_in (marks ++ mark ∷ []) ≡ before ++ behind = flat_map-append outcome_of marks (mark ∷ []) ∙ ap (λ (l : List Outcome). before ++ l) (append-nil behind) in
    let given : outcomes_given script (call_after script 0 before) behind ≡ behind = ap (λ (n : ℕ). outcomes_given script n behind) told.asks ∙ step.outcomes in
    let small : feed.ask.counted + 1 < 2 ^ 64 = omega (arith, told.few_asks) in
    record {
      each = rw stays (each_more (IsGiven script) marks mark told.each (step.given marks told));
      recvs = count_more is_recv marks mark _ _ told.recvs few (calls_if-counted (is_recv mark) feed.recv);
      sends = count_more is_send marks mark _ _ told.sends few (calls_if-counted (is_send mark) feed.send);
      notes = count_more is_note marks mark _ _ told.notes few (calls_if-counted (is_note mark) feed.note);
      nows = count_more is_now marks mark _ _ told.nows few (readings_if-counted (is_now mark) feed.nows);
      words = count_more is_word marks mark _ _ told.words few (readings_if-counted (is_word mark) feed.words);
      outcomes = rw (stays, joined) (outcomes_given-append script 0 before behind ∙ (λ i. told.outcomes i ++ given i));
      asks = rw (stays, joined) (call_after-append script 0 before behind ∙ ap (λ (n : ℕ). call_after script n behind) told.asks ∙ sym (calls_after-counted script feed.ask behind step.one_outcome small));
      few_asks = omega (arith, calls_after-few script feed.ask behind step.one_outcome, told.few_asks);
    }

-- where the journal tells one mark more
more_told : (feed : SideFeed) (old journal : Option (List Mark)) (mark : Mark) → Tells feed old → TellsMark old journal mark → IfSome journal (λ marks. length marks < 2 ^ 64) → Step feed (feed_behind feed mark) mark → Tells (feed_behind feed mark) journal
more_told feed old None mark tells adds few step marks is = absurd cc
more_told feed None (Some told) mark tells adds few step marks is = let e = adds.told in absurd cc
more_told feed (Some before) (Some told) mark tells adds few step marks is =
    let e = adds.told in
    let same : marks ≡ before ++ mark ∷ [] = cc in
    let all : told ≡ before ++ mark ∷ [] = cc in
    let size = ap length all in
    let few : length told < 2 ^ 64 = few in
    let short : length (before ++ mark ∷ []) < 2 ^ 64 = omega arith in
    rw same (told_more feed before mark (tells before refl) short step)

pub tells_more : {feed new : SideFeed} {old journal : Option (List Mark)} {mark : Mark} → Tells feed old → TellsMark old journal mark → IfSome journal (λ marks. length marks < 2 ^ 64) → Step feed new mark → Tells new journal
tells_more {feed} {new} {old} {journal} {mark} tells adds few step =
    let same = step.used in
    rw same (more_told feed old journal mark tells adds few (record { given = step.given; outcomes = step.outcomes; used = refl; one_outcome = step.one_outcome }))
