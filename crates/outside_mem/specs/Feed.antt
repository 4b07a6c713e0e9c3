-- How far a side in memory has used its script, and what it gives next. This server's own rule.
use Rattle.std.specs.Prelude.{◌≡◌, ℕ, ◌+◌, Bool, true, false, [], ◌∷◌, cond}
use Rattle.outside.specs.declared.datagram.Received.{Received}
use Rattle.outside.specs.declared.datagram.Received.TheVariants as received
use Rattle.outside.specs.declared.datagram.Outcome.{Outcome}
use Rattle.outside.specs.declared.datagram.Outcome.TheVariants as outcome
use Rattle.outside.specs.Marks.{recv_marks}
use Rattle.outside.specs.Script.{SideScriptData, recv_answer, ask_answer}
use Rattle.outside_mem.specs.Calls.{CallsData, one_more, counted}
use Rattle.outside_mem.specs.declared.feed.SideFeed.{SideFeed}
use Rattle.outside_mem.specs.declared.readings.Readings.{Readings}

-- the script that is used
abbrev pub script_of : SideFeed → SideScriptData
script_of feed = record {
  gets = feed.gets.items;
  nows = feed.nows.items.items;
  words = feed.words.items.items;
  asks = feed.asks.items;
  fail_recv = feed.recv.fails;
  fail_send = feed.send.fails;
  fail_ask = feed.ask.fails;
  fail_note = feed.note.fails;
}

-- the same readings with one more given
abbrev pub read_on : Readings → Readings
read_on readings = record { items = readings.items; counted = one_more readings.counted }

-- nothing is used up
pub record IsUnusedFeed (feed : SideFeed) : Type 0 where
  pub recv : feed.recv.counted ≡ 0
  pub send : feed.send.counted ≡ 0
  pub ask : feed.ask.counted ≡ 0
  pub note : feed.note.counted ≡ 0
  pub nows : feed.nows.counted ≡ 0
  pub words : feed.words.counted ≡ 0

-- the call of recv that is next gives what the script gives, and is counted; want of memory uses up
-- nothing
abbrev pub GivesRecv : SideFeed → SideFeed → Received → Type 0
GivesRecv old new received.NoMemory = new ≡ old
GivesRecv old new result =
    (recv_marks result ≡ recv_answer (script_of old) old.recv.counted ∷ [])
    × (new ≡ record old { recv = counted old.recv })

-- want of memory is an outcome that a script may give too
abbrev pub is_want : Outcome → Bool
is_want outcome.NoMemory = true
is_want result = false

-- the number of the next call, behind a call with this outcome: want of memory isn't counted where
-- the script gives another
abbrev pub call_behind : SideScriptData → ℕ → Outcome → ℕ
call_behind script call outcome.NoMemory = cond (is_want (ask_answer script call)) (call + 1) call
call_behind script call result = call + 1

-- the calls behind a call with this outcome
abbrev pub calls_with : SideScriptData → CallsData → Outcome → CallsData
calls_with script calls outcome.NoMemory =
    cond (is_want (ask_answer script calls.counted)) (counted calls) calls
calls_with script calls result = counted calls

-- the outcome that the script gives, or want of memory
abbrev pub outcome_given : SideScriptData → ℕ → Outcome → Outcome
outcome_given script call outcome.NoMemory = outcome.NoMemory
outcome_given script call result = ask_answer script call

-- the call of ask or more that is next gives what the script gives, and is counted; want of memory
-- that isn't the script's uses up nothing
pub record GivesAsk (old new : SideFeed) (result : Outcome) : Type 0 where
  pub given : result ≡ outcome_given (script_of old) old.ask.counted result
  pub used : new ≡ record old { ask = calls_with (script_of old) old.ask result }
