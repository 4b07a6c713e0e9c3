-- What the parts of serving do.
use Rattle.std.specs.Prelude.{◌≡◌, ℕ, List, Option, Some, None}
use Rattle.std.proofs.Common.{Bor}
use Rattle.dns_data.specs.Message.{AnswerData, MessageData}
use Rattle.dns_write.specs.Tails.{lent_to, with_tail}
use Rattle.dns_write.specs.declared.tail.Tail.{Tail}
use Rattle.dns_wire.specs.declared.asked.Asked.{Asked}
use Rattle.outside.specs.Marks.{Adds}
use Rattle.one_history.specs.Calls.{Call}
use Rattle.one_history.specs.Logs.{GrowsBy, Place}
use Rattle.outside.specs.States.{Stays}
use Rattle.outside.specs.declared.mark.Mark.{Mark}
use Rattle.outside.specs.declared.datagram.Datagram.{Datagram}
use Rattle.corefile_blocks.specs.declared.bundle.Bundle.{Bundle}
use Rattle.chain_meaning.specs.declared.served.Served.{Served}
use Rattle.chain_meaning.specs.declared.served.Served.TheVariants as served
use Rattle.chain_meaning.specs.declared.served.Silence.TheVariants as silence
use Rattle.chain_meaning.specs.declared.decision.Decision.{Decision}
use Rattle.chain_meaning.specs.declared.decision.Decision.TheVariants as decision
use Rattle.chain_meaning.specs.Serving.{Replies, Serves}
use Rattle.pin_table.specs.{Grows}
use Rattle.chain_meaning.specs.Called.{AreCalls}
use Rattle.chain_meaning.specs.Grounds.{Terms}
use Rattle.chain_build.specs.LoggedWalks.{ServeState}
use Rattle.chain_build.specs.declared.ended.Ended.{Ended}
use Rattle.chain_build.specs.declared.ended.Ended.TheVariants as ended

-- the whole answer of a chain that ended so and left this answer in the slot
abbrev pub whole_answer : Ended → AnswerData → AnswerData
whole_answer ended.Reply answer = answer
whole_answer (ended.Lent tail) answer = with_tail answer tail.now
whole_answer (ended.Code code cause) answer = answer
whole_answer ended.Drop answer = answer

-- the whole message of it, where the slot's part makes this one
abbrev pub whole_message : Ended → MessageData → MessageData
whole_message ended.Reply message = message
whole_message (ended.Lent tail) message = lent_to message tail.now
whole_message (ended.Code code cause) message = message
whole_message ended.Drop message = message

-- the tail that it lends
abbrev pub lent_of : Ended → Option (Bor Tail)
lent_of ended.Reply = None
lent_of (ended.Lent tail) = Some tail
lent_of (ended.Code code cause) = None
lent_of ended.Drop = None

-- what is sent for a decision, if anything
abbrev pub Finishes : Datagram → Asked → Decision → Served → Type 0
Finishes d asked v (served.Reply bytes) = Replies d bytes asked v
Finishes d asked v (served.Silent silence.Dropped) = v ≡ decision.Drop
Finishes d asked v (served.Silent silence.Short) = ⊥
Finishes d asked v (served.Silent silence.Response) = ⊥
Finishes d asked v served.NoMemory = Unit {0}

-- by what a chain serves: its configuration, its serial, and where the parts of its log stand
pub record Server : Type 0 where
  pub bundle : Bundle
  pub terms : Terms
  pub serial : ℕ
  pub places : List Place

-- the log has grown by the calls of what workers share that these marks tell, each at the end of
-- the part that the datagram's query takes; no other part is another, and all begin as they were
pub record LogsServing (server : Server) (d : Datagram) (marks : List Mark)
    (old new : List (List Mark)) : Type 0 where
  pub calls : List (Call Mark)
  pub are : AreCalls server.bundle server.terms server.serial d marks calls
  pub grown : GrowsBy server.places server.serial calls old new
  pub follows : Grows old new

-- serving made these marks, told them, and gave what the datagram means by them; no count fell, and
-- the chain's log has grown by its calls
pub record TellsServing (server : Server) (d : Datagram) (result : Served) (old new : ServeState)
    : Type 0 where
  pub marks : List Mark
  pub told : Adds old.side new.side marks
  pub stays : Stays old.side new.side
  pub serves : Serves server.bundle server.terms d marks result
  pub logs : LogsServing server d marks old.log new.log
