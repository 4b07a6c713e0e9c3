-- What a call took from the outside, what it kept of it, and which calls of its pool it made.
use Rattle.std.specs.Prelude.{◌≡◌, ℕ, Bool, true, false, List, [], ◌∷◌, ◌++◌, map, Option, Some, None, Result, Ok, Err, OnOk}
use Rattle.dns_lists.specs.declared.memory.NoMemory.{NoMemory}
use Rattle.dns_data.specs.Message.{AnswerData}
use Rattle.outside.specs.declared.datagram.Outcome.{Outcome}
use Rattle.outside.specs.declared.datagram.Outcome.TheVariants as outcome
use Rattle.outside.specs.declared.entry.InnerMark.{InnerMark}
use Rattle.outside.specs.declared.entry.InnerMark.TheVariants as inner
use Rattle.outside.specs.declared.kept.Kept.{Kept}
use Rattle.outside.specs.declared.mark.Mark.{Mark}
use Rattle.outside.specs.declared.mark.Mark.TheVariants.{Inner}
use Rattle.outside.specs.Causes.{SideCounts, behind_ask}
use Rattle.outside.specs.Kept.{Keeps}
use Rattle.outside.specs.Marks.{Adds}
use Rattle.outside.specs.Meanings.{Meaning, Took}
use Rattle.outside.specs.States.{Counted, SideState}
use Rattle.upstream_health.specs.Pools.{PoolCall, drew, noted}
use Rattle.forward_plugin.specs.declared.say.ForwardSay.{ForwardSay}
use Rattle.forward_plugin.specs.declared.say.ForwardSay.TheVariants as say
use Rattle.forward_plugin.specs.Forward.{Said, reply, next, all_failed}

-- the call of a pool that a mark tells
abbrev pub pool_call : InnerMark → List PoolCall
pool_call (inner.Word word) = []
pool_call (inner.Asked to by message result) = []
pool_call (inner.More result) = []
pool_call (inner.Drawn number down) = drew number down ∷ []
pool_call (inner.Reported upstream agreed) = noted upstream agreed ∷ []

abbrev pub pool_calls : List InnerMark → List PoolCall
pool_calls [] = []
pool_calls (mark ∷ marks) = pool_call mark ++ pool_calls marks

-- the counts of a side behind the call that a mark tells: asks and further datagrams count silences
-- and failures, and nothing else is counted
abbrev pub counts_after : SideCounts → InnerMark → SideCounts
counts_after counts (inner.Word word) = counts
counts_after counts (inner.Asked to by message result) = behind_ask counts result
counts_after counts (inner.More result) = behind_ask counts result
counts_after counts (inner.Drawn number down) = counts
counts_after counts (inner.Reported upstream agreed) = counts

abbrev pub counts_behind : SideCounts → List InnerMark → SideCounts
counts_behind counts [] = counts
counts_behind counts (mark ∷ marks) = counts_behind (counts_after counts mark) marks

-- a worker at a moment: its side, what is kept of the inner marks, and the calls that its seat of a
-- pool made
pub record ForwardState : Type 0 where
  pub side : SideState
  pub kept : Kept
  pub calls : List PoolCall

abbrev pub state_at : SideState → Kept → List PoolCall → ForwardState
state_at side kept calls = record { side = side; kept = kept; calls = calls }

-- a call made these inner marks, told them, kept them, and answered what they mean; it made the
-- calls of its pool that they tell, and left just the counts that their outcomes ask for
pub record Forwards {A : Type 0} (means : List Mark → Meaning A) (result : Result A NoMemory)
    (old new : ForwardState) : Type 0 where
  pub inners : List InnerMark
  pub told : Adds old.side new.side (map Inner inners)
  pub counts : Counted old.side new.side (counts_behind old.side.counts inners)
  pub kept : OnOk result (Keeps old.kept new.kept inners)
  pub took : Took means result (map Inner inners)
  pub called : new.calls ≡ old.calls ++ pool_calls inners

-- an outcome is handed on with its mark kept, but want of memory
abbrev pub KeepsOutcome : Outcome → InnerMark → Result Outcome NoMemory → Kept → Kept → Type 0
KeepsOutcome came mark (Ok out) before after =
    (out ≡ came) × (came ≡ outcome.NoMemory → ⊥) × Keeps before after (mark ∷ [])
KeepsOutcome came mark (Err e) before after = Unit {0}

-- whether a reply agreed, whose answer is then in the slot
abbrev pub try_answer : Result Bool NoMemory → AnswerData → Result (Option AnswerData) NoMemory
try_answer (Ok true) slot = Ok (Some slot)
try_answer (Ok false) slot = Ok None
try_answer (Err e) slot = Err e

-- what was said, with the answer in a slot
abbrev pub said_of : ForwardSay → AnswerData → Said
said_of say.Reply slot = reply slot
said_of say.Next slot = next
said_of say.AllFailed slot = all_failed

abbrev pub said : Result ForwardSay NoMemory → AnswerData → Result Said NoMemory
said (Ok s) slot = Ok (said_of s slot)
said (Err e) slot = Err e

-- a report was made to the pool, told, and kept as a mark; no count is another
pub record Reports (upstream : ℕ) (agreed : Bool) (result : Result (Unit {0}) NoMemory)
    (old new : ForwardState) : Type 0 where
  pub told : Adds old.side new.side (Inner (inner.Reported upstream agreed) ∷ [])
  pub counts : Counted old.side new.side old.side.counts
  pub kept : OnOk result (Keeps old.kept new.kept (inner.Reported upstream agreed ∷ []))
  pub called : new.calls ≡ old.calls ++ noted upstream agreed ∷ []
