-- What a side in memory has told is what its script gives, as far as it is used. This server's own
-- rule.
use Rattle.std.proofs.Common.{◌≡◌, ℕ, ◌+◌, ◌≤◌, Bool, true, false, cond, List, [], ◌∷◌, ◌++◌, length, Option, Some, None, refl, sym, ap, subst, append_assoc}
use Rattle.std.proofs.lemmas.List.{append-nil}
use Rattle.std.proofs.Props.{props}
use Rattle.std.specs.Coded.{Coded-set, coded_ℕ, le_prop, Π_prop, →_prop, Unit-prop}
use Rattle.outside.specs.declared.datagram.Outcome.{Outcome}
use Rattle.outside.specs.declared.datagram.Outcome.TheVariants as outcome
use Rattle.outside.specs.declared.entry.InnerMark.{InnerMark}
use Rattle.outside.specs.declared.entry.InnerMark.TheVariants as inner
use Rattle.outside.specs.declared.mark.Seen.{Seen}
use Rattle.outside.specs.declared.mark.Seen.TheVariants as seen
use Rattle.outside.specs.declared.mark.Mark.{Mark}
use Rattle.outside.specs.declared.mark.Mark.TheVariants.{Got, RecvEnd, RecvFailed, Now, Inner, Sent, Noted, Pinned, Unpinned, Looked, Put}
use Rattle.outside.specs.Script.{SideScriptData, IsGiven, AreGiven, no_ask, one_ask, starved_ask, ask_answer, recvs_in, sends_in, notes_in, nows_in, words_in, outcomes_in, FollowsScript, AnsweredSide}
use Rattle.outside_mem.specs.Feed.{script_of, is_want, call_behind, outcome_given}
use Rattle.outside_mem.specs.declared.feed.SideFeed.{SideFeed}

-- the number of the call behind these outcomes, from a call on
abbrev pub call_after : SideScriptData → ℕ → List Outcome → ℕ
call_after script call [] = call
call_after script call (result ∷ results) =
    call_after script (call_behind script call result) results

-- what the script gives in the place of these outcomes
abbrev pub outcomes_given : SideScriptData → ℕ → List Outcome → List Outcome
outcomes_given script call [] = []
outcomes_given script call (result ∷ results) =
    outcome_given script call result
    ∷ outcomes_given script (call_behind script call result) results

-- each mark is given by the script, and as many calls are counted as the marks tell
pub record IsTold (feed : SideFeed) (marks : List Mark) : Type 0 where
  pub each : (before : List Mark) (mark : Mark) (after : List Mark) → marks ≡ before ++ mark ∷ after
      → IsGiven (script_of feed) before mark
  pub recvs : recvs_in marks ≡ feed.recv.counted
  pub sends : sends_in marks ≡ feed.send.counted
  pub notes : notes_in marks ≡ feed.note.counted
  pub nows : nows_in marks ≡ feed.nows.counted
  pub words : words_in marks ≡ feed.words.counted
  pub outcomes : outcomes_given (script_of feed) 0 (outcomes_in marks) ≡ outcomes_in marks
  pub asks : call_after (script_of feed) 0 (outcomes_in marks) ≡ feed.ask.counted
  pub few_asks : feed.ask.counted ≤ length marks

-- where a journal is told
abbrev pub Tells : SideFeed → Option (List Mark) → Type 0
Tells feed journal = (marks : List Mark) → journal ≡ Some marks → IsTold feed marks

-- a call of a pool of upstreams
abbrev pub IsPoolMark : InnerMark → Type 0
IsPoolMark (inner.Drawn number down) = Unit {0}
IsPoolMark (inner.Reported upstream agreed) = Unit {0}
IsPoolMark other = ⊥

-- what a caller may show: pins, looks, puts and calls of pools; other inner marks are told by the
-- calls themselves
abbrev pub IsShown : Seen → Type 0
IsShown (seen.Inner mark) = IsPoolMark mark.now
IsShown what = Unit {0}

-- a mark is given in one way at most
IsGiven-prop : (script : SideScriptData) (before : List Mark) (mark : Mark)
    → IsProp (IsGiven script before mark)
IsGiven-prop script before (Got datagram) = Prim.hlevel props
IsGiven-prop script before RecvEnd = Prim.hlevel props
IsGiven-prop script before RecvFailed = Prim.hlevel props
IsGiven-prop script before (Now moment) = Prim.hlevel props
IsGiven-prop script before (Inner (inner.Word word)) = Prim.hlevel props
IsGiven-prop script before (Inner (inner.Asked to by message result)) = Unit-prop
IsGiven-prop script before (Inner (inner.More result)) = Unit-prop
IsGiven-prop script before (Inner (inner.Drawn number down)) = Unit-prop
IsGiven-prop script before (Inner (inner.Reported upstream agreed)) = Unit-prop
IsGiven-prop script before (Sent reply flag) = Prim.hlevel props
IsGiven-prop script before (Noted line flag) = Prim.hlevel props
IsGiven-prop script before (Pinned serial) = Unit-prop
IsGiven-prop script before (Unpinned serial) = Unit-prop
IsGiven-prop script before (Looked key moment entry) = Unit-prop
IsGiven-prop script before (Put key entry kept) = Unit-prop

each-prop : (script : SideScriptData) (marks : List Mark)
    → IsProp ((before : List Mark) (mark : Mark) (after : List Mark)
    → marks ≡ before ++ mark ∷ after → IsGiven script before mark)
each-prop script marks =
    Π_prop (λ before. Π_prop (λ mark. Π_prop (λ after. →_prop (IsGiven-prop script before mark))))

list-prop : (xs ys : List Outcome) → IsProp (xs ≡ ys)
list-prop xs ys = Prim.hlevel props

IsTold-prop : (feed : SideFeed) (marks : List Mark) → IsProp (IsTold feed marks)
IsTold-prop feed marks = λ u v i. record {
  each = each-prop (script_of feed) marks u.each v.each i;
  recvs = Coded-set coded_ℕ _ _ u.recvs v.recvs i;
  sends = Coded-set coded_ℕ _ _ u.sends v.sends i;
  notes = Coded-set coded_ℕ _ _ u.notes v.notes i;
  nows = Coded-set coded_ℕ _ _ u.nows v.nows i;
  words = Coded-set coded_ℕ _ _ u.words v.words i;
  outcomes = list-prop _ _ u.outcomes v.outcomes i;
  asks = Coded-set coded_ℕ _ _ u.asks v.asks i;
  few_asks = le_prop u.few_asks v.few_asks i;
}

pub Tells-prop : (feed : SideFeed) (journal : Option (List Mark)) → IsProp (Tells feed journal)
Tells-prop feed journal = Π_prop (λ marks. →_prop (IsTold-prop feed marks))

-- one outcome more
with_given : {script : SideScriptData} {done : List Outcome} {call : ℕ} (result : Outcome)
    → AreGiven script done call → ask_answer script call ≡ result
    → AreGiven script (done ++ result ∷ []) (call + 1)
with_given {script} {done} {call} result given is =
    one_ask given (ap (λ (r : Outcome). done ++ r ∷ []) (sym is)) refl

wanted : (result : Outcome) → is_want result ≡ true → result ≡ outcome.NoMemory
wanted outcome.NoMemory e = refl
wanted outcome.Silence e = absurd cc
wanted outcome.Failed e = absurd cc
wanted (outcome.Got bytes) e = absurd cc

with_want : {script : SideScriptData} {done : List Outcome} {call : ℕ} (test : Bool)
    → is_want (ask_answer script call) ≡ test → AreGiven script done call
    → AreGiven script (done ++ outcome.NoMemory ∷ []) (cond test (call + 1) call)
with_want true is given = with_given outcome.NoMemory given (wanted _ is)
with_want false is given = starved_ask given refl

-- one list behind another, with an outcome moved from the head of the second to the end of the
-- first
moved : {script : SideScriptData} {call : ℕ} (done : List Outcome) (result : Outcome)
    (results : List Outcome) → AreGiven script ((done ++ result ∷ []) ++ results) call
    → AreGiven script (done ++ result ∷ results) call
moved {script} {call} done result results given =
    subst (λ (l : List Outcome). AreGiven script l call) (append_assoc done (result ∷ []) results)
    given

-- outcomes behind outcomes that the script gives
all_given : (script : SideScriptData) (done : List Outcome) (call : ℕ) (results : List Outcome)
    → AreGiven script done call → outcomes_given script call results ≡ results
    → AreGiven script (done ++ results) (call_after script call results)
all_given script done call [] given is =
    subst (λ (l : List Outcome). AreGiven script l call) (sym (append-nil done)) given
all_given script done call (outcome.NoMemory ∷ results) given is =
    moved done _ results (all_given script (done ++ outcome.NoMemory ∷ []) _ results
    (with_want _ refl given) cc)
all_given script done call (outcome.Got bytes ∷ results) given is =
    moved done _ results (all_given script (done ++ outcome.Got bytes ∷ []) _ results
    (with_given _ given cc) cc)
all_given script done call (outcome.Silence ∷ results) given is =
    moved done _ results (all_given script (done ++ outcome.Silence ∷ []) _ results
    (with_given _ given cc) cc)
all_given script done call (outcome.Failed ∷ results) given is =
    moved done _ results (all_given script (done ++ outcome.Failed ∷ []) _ results
    (with_given _ given cc) cc)

follows : (feed : SideFeed) (marks : List Mark) → IsTold feed marks
    → FollowsScript (script_of feed) marks
follows feed marks told = record {
  each = told.each;
  calls = call_after (script_of feed) 0 (outcomes_in marks);
  asks = all_given (script_of feed) [] 0 (outcomes_in marks) no_ask told.outcomes;
}

-- the law of a side: where it tells a journal, the answers in it are those of the script
pub answered : (feed : SideFeed) (journal : Option (List Mark)) → Tells feed journal
    → AnsweredSide (Some (script_of feed)) journal
answered feed None tells = tt
answered feed (Some marks) tells = follows feed marks (tells marks refl)
