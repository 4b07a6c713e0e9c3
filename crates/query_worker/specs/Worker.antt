-- A turn of a worker and all that it does, by its side, its pass and what it counts. This server's
-- own rule.
use Rattle.std.specs.Prelude.{◌≡◌, ◌≤◌, ◌<◌, ℕ, ◌+◌, Bool, List, [], ◌∷◌, Option, None}
use Rattle.std.specs.Prelude.{reverse}
use Rattle.dns_data.specs.declared.limit.TheConstants as limits
use Rattle.outside.specs.declared.mark.Mark.{Mark}
use Rattle.outside.specs.declared.mark.Mark.TheVariants.{RecvEnd, RecvFailed, Sent}
use Rattle.outside.specs.Causes.{NoneFell, Rose, RoseBy, raised}
use Rattle.outside.specs.Marks.{Adds, Grows}
use Rattle.outside.specs.States.{SideState, Stays}
use Rattle.pin_table.specs.declared.views.PassView.{PassView}
use Rattle.pin_table.specs.Known.{turn_serials}
use Rattle.pin_table.specs.Steps.{idle_pass}
use Rattle.chain_meaning.specs.declared.served.Served.{Served}
use Rattle.chain_meaning.specs.declared.served.Served.TheVariants.{Reply, Silent, NoMemory}
use Rattle.chain_build.specs.{chain_identity}
use Rattle.chain_build.specs.declared.chain.Chain.{Chain}
use Rattle.plugin_api.specs.declared.extra.Extra as extra
use Rattle.plugin_api.specs.declared.rulebook.Rulebook as rulebook
use Rattle.query_worker.specs.declared.turn.Turned.{Turned}
use Rattle.query_worker.specs.declared.turn.Turned.TheVariants as turned
use Rattle.run_meaning.specs.declared.work_end.WorkEnd.{WorkEnd}
use Rattle.run_meaning.specs.declared.work_end.WorkEnd.TheVariants as ends
use Rattle.query_worker.specs.Pins.{CountsPins, IsByPin, IsOfPass, PastPin, TakeUnder}
use Rattle.query_worker.specs.States.{WorkerState, worked_of}
use Rattle.query_worker.specs.Tally.{TurnEnds, tallied}
use Rattle.run_meaning.specs.Turn.{Turn, marks_of, starved_in}
use Rattle.run_meaning.specs.Workers.{Worked, WorkerRun}

-- a pin that gave this chain, and how it came home
abbrev pub pin_of : {C : Type 0} → ℕ → C → C → PastPin C
pin_of serial given home = record { serial = serial; given = given; home = home }

-- a turn that took a datagram
abbrev pub IsOfDatagram : Turned → Type 0
IsOfDatagram (turned.Answered serial) = Unit {0}
IsOfDatagram (turned.Starved serial) = Unit {0}
IsOfDatagram turned.RecvFailed = ⊥
IsOfDatagram turned.RecvStarved = ⊥
IsOfDatagram turned.RecvEnd = ⊥

-- the mark of a reply, whether it went out or not
pub record SendsReply (before after : SideState) (reply : List ℕ) : Type 0 where
  pub out : Bool
  pub told : Adds before after (Sent reply out ∷ [])

-- what serving under a serial gave is sent, where it is a reply
abbrev pub SendsServed : SideState → SideState → ℕ → Served → Turned → Type 0
SendsServed before after serial (Reply reply) result =
    (result ≡ turned.Answered serial) × SendsReply before after reply
SendsServed before after serial (Silent why) result =
    (result ≡ turned.Answered serial) × Adds before after []
SendsServed before after serial NoMemory result =
    (result ≡ turned.Starved serial) × Adds before after []

module _ {B E : Type 0} {b : rulebook.Ghosts B} {e : extra.Ghosts E} where
  -- the marks of a turn with a datagram, which took it under a pin of its own, of a serial that is
  -- not older than what the pass had seen; and how often it met want of memory
  pub record TakesOne (before after : PassView (Chain B E b e)) (serial want : ℕ)
      (marks : List Mark)
      : Type 0 where
    pub turn : Turn
    pub told : marks ≡ marks_of turn
    pub chain : Chain B E b e
    pub home : Chain B E b e
    pub same : chain_identity home ≡ chain_identity chain
    pub by_pin : IsByPin (pin_of serial chain home) turn
    pub newest : before.seen ≤ serial + 1
    pub pass : after
        ≡ idle_pass before.worker (pin_of serial chain home ∷ before.turns) (serial + 1)
    pub starved_are : starved_in turn ≡ want

  -- the marks of one turn, and what the pass knows behind it, by what it came to
  abbrev pub AddsTurn : PassView (Chain B E b e) → PassView (Chain B E b e) → Turned → List Mark
      → Type 0
  AddsTurn before after (turned.Answered serial) marks = TakesOne before after serial 0 marks
  AddsTurn before after (turned.Starved serial) marks = TakesOne before after serial 1 marks
  AddsTurn before after turned.RecvFailed marks = (marks ≡ RecvFailed ∷ []) × (after ≡ before)
  AddsTurn before after turned.RecvStarved marks = (marks ≡ []) × (after ≡ before)
  AddsTurn before after turned.RecvEnd marks = (marks ≡ RecvEnd ∷ []) × (after ≡ before)

  -- a turn, what the worker counted by it, and whether it was the last one
  pub record TakesTurn (most : ℕ) (before after : WorkerState (Chain B E b e))
      (end : Option WorkEnd) : Type 0 where
    pub what : Turned
    pub told : Grows before.side after.side (AddsTurn before.pass after.pass what)
    pub tally : after.tally ≡ tallied what before.tally
    pub ends : TurnEnds most what after.tally end
    pub failed : what ≡ turned.RecvFailed → Rose before.side.counts.recv after.side.counts.recv
    pub stays : Stays before.side after.side

  -- the journal is that of a worker's run by these pins, the last one first; its turns that took a
  -- datagram did so under just these, in order
  pub record RunsUnder (pins : List (PastPin (Chain B E b e))) (most : ℕ) (worked : Worked)
      (journal : List Mark) : Type 0 where
    pub run : WorkerRun (IsOfPass pins) most (turn_serials pins) worked journal
    pub under : TakeUnder (reverse pins) run.turns

  -- all that a worker did until it ended so: the run that its side's journal tells, by the pins
  -- that its pass made, and what it counted
  pub record WorksToEnd (most : ℕ) (before after : WorkerState (Chain B E b e))
      (end : WorkEnd) : Type 0 where
    pub run : Grows before.side after.side
        (RunsUnder after.pass.turns most (worked_of after.tally end))
    pub counts : CountsPins after.tally after.pass
    pub number : after.pass.worker ≡ before.pass.worker
    pub settled : after.pass.taken ≡ None
    -- what the side counted, and that it was told once of the end
    pub failed : end ≡ ends.RecvFailed
        → RoseBy limits.FAILURES before.side.counts.recv after.side.counts.recv
    pub starved : end ≡ ends.NoMemory → 0 < after.tally.starved
    pub later : NoneFell before.side.counts after.side.counts
    pub script : after.side.script ≡ before.side.script
    pub left : after.side.left ≡ raised before.side.left
