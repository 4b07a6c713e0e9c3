-- What each call of a side in memory does to its journal and its counts.
use Rattle.std.proofs.Common.{◌≡◌, ℕ, Bool, true, false, not, cond, List, [], ◌∷◌, Option, Some, None, Result, Ok, Err, IfOk, IfSome, MatchResult, slice_get, length, ◌<◌, ◌^◌, ◌≢◌, refl, sym, ap, ◌∙◌, subst, arith}
use Rattle.outside.specs.declared.datagram.Datagram.{Datagram}
use Rattle.outside.specs.declared.datagram.Outcome.{Outcome}
use Rattle.outside.specs.declared.datagram.Outcome.TheVariants as outcome
use Rattle.outside.specs.declared.datagram.Received.TheVariants as received
use Rattle.outside.specs.declared.datagram.Upstream.{Upstream}
use Rattle.outside.specs.declared.datagram.Wrote.{Wrote}
use Rattle.outside.specs.declared.datagram.Wrote.TheVariants as wrote
use Rattle.outside.specs.declared.entry.InnerMark.{InnerMark}
use Rattle.outside.specs.declared.entry.InnerMark.TheVariants as inner
use Rattle.outside.specs.declared.mark.Mark.{Mark}
use Rattle.outside.specs.declared.mark.Mark.TheVariants.{Got, RecvEnd, RecvFailed, Now, Inner, Sent, Noted}
use Rattle.outside.specs.declared.mark.Seen.{Seen}
use Rattle.outside.specs.declared.mark.Seen.TheVariants as seen
use Rattle.dns_data.specs.declared.message.Transport.{Transport}
use Rattle.outside.specs.Marks.{went, mark_of}
use Rattle.outside.specs.Script.{is_to_fail, used_up, got_or_end, outcome_or_silence, reading}
use Rattle.outside_mem.specs.Calls.{CallsData, counted}
use Rattle.outside_mem.specs.Faults.{faults_with, ask_faults_with}
use Rattle.outside_mem.specs.Feed.{script_of, read_on, outcome_given, IsUnusedFeed, GivesRecv, GivesAsk}
use Rattle.outside_mem.specs.SideTold.{IsPoolMark, IsShown, IsTold, Tells}
use Rattle.outside_mem.specs.Telling.{TellsMark}
use Rattle.outside_mem.specs.declared.feed.SideFeed.{SideFeed}
use Rattle.outside_mem.specs.declared.readings.Readings.{Readings}
use Rattle.outside_mem.proofs.Counting.{none_fails}
use Rattle.outside_mem.proofs.Lists.{no_item}
use Rattle.outside_mem.proofs.SideSteps.{Step, calls_with-fails, tells_more}

-- nothing is told of an unused feed
nothing_told : (feed : SideFeed) → IsUnusedFeed feed → IsTold feed []
nothing_told feed unused = record {
  each = λ before mark after e. absurd (no_item before mark after e);
  recvs = sym unused.recv;
  sends = sym unused.send;
  notes = sym unused.note;
  nows = sym unused.nows;
  words = sym unused.words;
  outcomes = refl;
  asks = sym unused.ask;
  few_asks = omega (arith, unused.ask);
}

pub starts : {feed : SideFeed} {journal : List Mark} → IsUnusedFeed feed → journal ≡ [] → Tells feed (Some journal)
starts {feed} {journal} unused nothing marks is =
    let none : marks ≡ [] = cc in
    rw none (nothing_told feed unused)

pub got_step : {feed new : SideFeed} {datagram : Datagram} → GivesRecv feed new (received.Got datagram) → Step feed new (Got datagram)
got_step gives = record { given = λ marks told. rw told.recvs cc; outcomes = refl; used = gives.1; one_outcome = omega arith }

pub end_step : {feed new : SideFeed} → GivesRecv feed new received.End → Step feed new RecvEnd
end_step gives = record { given = λ marks told. rw told.recvs cc; outcomes = refl; used = gives.1; one_outcome = omega arith }

pub failed_step : {feed new : SideFeed} → GivesRecv feed new received.Failed → Step feed new RecvFailed
failed_step gives = record { given = λ marks told. rw told.recvs cc; outcomes = refl; used = gives.1; one_outcome = omega arith }

pub now_step : (feed : SideFeed) {nows : Readings} {moment : ℕ} → moment ≡ reading feed.nows.items.items feed.nows.counted → nows ≡ read_on feed.nows → Step feed (record feed { nows = nows }) (Now moment)
now_step feed is used = record { given = λ marks told. rw told.nows is; outcomes = refl; used = ap (λ (n : Readings). record feed { nows = n }) used; one_outcome = omega arith }

pub word_step : (feed : SideFeed) {words : Readings} {word : ℕ} → word ≡ reading feed.words.items.items feed.words.counted → words ≡ read_on feed.words → Step feed (record feed { words = words }) (Inner (inner.Word word))
word_step feed is used = record { given = λ marks told. rw told.words is; outcomes = refl; used = ap (λ (n : Readings). record feed { words = n }) used; one_outcome = omega arith }

pub sent_step : (feed : SideFeed) {calls : CallsData} (reply : List ℕ) (result : Wrote) → went result ≡ not (is_to_fail feed.send.fails feed.send.counted) → calls ≡ counted feed.send → Step feed (record feed { send = calls }) (Sent reply (went result))
sent_step feed reply result is used = record { given = λ marks told. rw told.sends is; outcomes = refl; used = ap (λ (c : CallsData). record feed { send = c }) used; one_outcome = omega arith }

pub noted_step : (feed : SideFeed) {calls : CallsData} (line : List ℕ) (result : Wrote) → went result ≡ not (is_to_fail feed.note.fails feed.note.counted) → calls ≡ counted feed.note → Step feed (record feed { note = calls }) (Noted line (went result))
noted_step feed line result is used = record { given = λ marks told. rw told.notes is; outcomes = refl; used = ap (λ (c : CallsData). record feed { note = c }) used; one_outcome = omega arith }

pub asked_step : {feed new : SideFeed} (to : Upstream) (by : Transport) (message : List ℕ) {result : Outcome} → GivesAsk feed new result → Step feed new (Inner (inner.Asked to by message result))
asked_step to by message gives = record { given = λ marks told. tt; outcomes = ap (λ (r : Outcome). r ∷ []) (sym gives.given); used = gives.used; one_outcome = omega arith }

pub more_step : {feed new : SideFeed} {result : Outcome} → GivesAsk feed new result → Step feed new (Inner (inner.More result))
more_step gives = record { given = λ marks told. tt; outcomes = ap (λ (r : Outcome). r ∷ []) (sym gives.given); used = gives.used; one_outcome = omega arith }

inner_step : (feed : SideFeed) (mark : InnerMark) → IsPoolMark mark → Step feed feed (Inner mark)
inner_step feed (inner.Drawn number down) shown = record { given = λ marks told. tt; outcomes = refl; used = refl; one_outcome = omega arith }
inner_step feed (inner.Reported upstream agreed) shown = record { given = λ marks told. tt; outcomes = refl; used = refl; one_outcome = omega arith }
inner_step feed (inner.Word word) shown = absurd shown
inner_step feed (inner.Asked to by message result) shown = absurd shown
inner_step feed (inner.More result) shown = absurd shown

seen_step : (feed : SideFeed) (what : Seen) → IsShown what → Step feed feed (mark_of what)
seen_step feed (seen.Inner mark) shown = inner_step feed mark.now shown
seen_step feed (seen.Pinned serial) shown = record { given = λ marks told. tt; outcomes = refl; used = refl; one_outcome = omega arith }
seen_step feed (seen.Unpinned serial) shown = record { given = λ marks told. tt; outcomes = refl; used = refl; one_outcome = omega arith }
seen_step feed (seen.Looked key moment entry) shown = record { given = λ marks told. tt; outcomes = refl; used = refl; one_outcome = omega arith }
seen_step feed (seen.Put key entry kept) shown = record { given = λ marks told. tt; outcomes = refl; used = refl; one_outcome = omega arith }

-- a call fails only where the script lists it
no_failure : (test : Bool) (found : Option Datagram) → test ≡ false → RecvFailed ≡ cond test RecvFailed (got_or_end found) → ⊥
no_failure true found off is = absurd cc
no_failure false None off is = absurd cc
no_failure false (Some datagram) off is = absurd cc

pub quiet_recv : (feed : SideFeed) {new : SideFeed} → GivesRecv feed new received.Failed → feed.recv.fails ≡ [] → ⊥
quiet_recv feed gives none =
    no_failure _ (slice_get feed.gets.items (used_up feed.recv.fails feed.recv.counted)) (none_fails feed.recv.fails feed.recv.counted none) cc

no_failed_ask : (test : Bool) (found : Option Outcome) → test ≡ false → found ≢ Some outcome.Failed → outcome.Failed ≡ cond test outcome.Failed (outcome_or_silence found) → ⊥
no_failed_ask true found off never is = absurd cc
no_failed_ask false None off never is = absurd cc
no_failed_ask false (Some result) off never is = never (ap Some (sym is))

no_ask_failed : (feed : SideFeed) (faults : ℕ) (result : Outcome) → result ≡ outcome_given (script_of feed) feed.ask.counted result → (feed.ask.fails ≡ [] → ((call : ℕ) → slice_get feed.asks.items call ≢ Some outcome.Failed) → faults ≡ 0)
    → feed.ask.fails ≡ [] → ((call : ℕ) → slice_get feed.asks.items call ≢ Some outcome.Failed) → ask_faults_with faults result ≡ 0
no_ask_failed feed faults outcome.Failed given quiet none never = absurd (no_failed_ask _ (slice_get feed.asks.items (used_up feed.ask.fails feed.ask.counted)) (none_fails feed.ask.fails feed.ask.counted none) (never _) given)
no_ask_failed feed faults outcome.Silence given quiet none never = quiet none never
no_ask_failed feed faults outcome.NoMemory given quiet none never = quiet none never
no_ask_failed feed faults (outcome.Got bytes) given quiet none never = quiet none never

pub quiet_ask : (feed : SideFeed) {new : SideFeed} (faults : ℕ) (result : Outcome) → GivesAsk feed new result → (feed.ask.fails ≡ [] → ((call : ℕ) → slice_get feed.asks.items call ≢ Some outcome.Failed) → faults ≡ 0)
    → new.ask.fails ≡ [] → ((call : ℕ) → slice_get new.asks.items call ≢ Some outcome.Failed) → ask_faults_with faults result ≡ 0
quiet_ask feed {new} faults result gives quiet none never =
    let asks : feed.asks.items ≡ new.asks.items = ap (λ (f : SideFeed). f.asks.items) (sym gives.used) in
    let fails : new.ask.fails ≡ feed.ask.fails = ap (λ (f : SideFeed). f.ask.fails) gives.used ∙ calls_with-fails (script_of feed) feed.ask result in
    no_ask_failed feed faults result gives.given quiet (sym fails ∙ none) (rw asks never)

pub quiet_handed : (calls : CallsData) (faults : ℕ) (result : Wrote) → went result ≡ not (is_to_fail calls.fails calls.counted) → (calls.fails ≡ [] → faults ≡ 0) → calls.fails ≡ [] → faults_with faults result ≡ 0
quiet_handed calls faults wrote.Ok is quiet none = quiet none
quiet_handed calls faults wrote.Failed is quiet none = let not_failed = ap not (none_fails calls.fails calls.counted none) in absurd cc

-- a mark that was made is told, and where none could be made nothing is told any more
pub told_mark : {T E : Type 0} {old new : Option (List T)} (made : Result T E) {mark : T} → MatchResult made (TellsMark old new) (λ _. new ≡ None) → IfOk made (λ m. m ≡ mark) → TellsMark old new mark
told_mark {old} {new} (Ok m) told is = subst (TellsMark old new) is told
told_mark {old} {new} (Err e) told is = rw told (record { told = tt })

-- what is shown is told, and where it can't be nothing is told any more
pub shown_tells : {feed : SideFeed} {old journal : Option (List Mark)} {E : Type 0} (made : Result Mark E) (what : Seen) → Tells feed old
    → MatchResult made (TellsMark old journal) (λ _. journal ≡ None) → IfOk made (λ m. m ≡ mark_of what) → IfOk made (λ m. IsShown what)
    → IfSome journal (λ marks. length marks < 2 ^ 64) → Tells feed journal
shown_tells {feed} {old} {journal} (Ok m) what tells told is shown few = tells_more tells (subst (TellsMark old journal) is told) few (seen_step feed what shown)
shown_tells (Err e) what tells none is shown few = λ marks some. absurd (let clash = sym none ∙ some in cc)
