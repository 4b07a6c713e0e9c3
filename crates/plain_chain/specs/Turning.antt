-- What a datagram means under what was read of a bundle, by a list of marks: a reply or none, and
-- the marks that are left; that its block has an extra's directive; that the marks end too early;
-- or the marks from the first one on that is another than what is taken there. This server's own
-- rule.
use Rattle.std.specs.Prelude.{◌≡◌, ◌⊎◌, ℕ, false, List, Option, Some, None, Result, Ok, Err}
use Rattle.dns_data.specs.declared.block.Block.{Block}
use Rattle.dns_lists.specs.declared.memory.NoMemory.{NoMemory}
use Rattle.dns_wire.specs.Asked.{QueriesThis}
use Rattle.dns_wire.specs.declared.asked.Asked.{Asked}
use Rattle.outside.specs.Meanings.{More}
use Rattle.outside.specs.declared.datagram.Datagram.{Datagram}
use Rattle.outside.specs.declared.mark.Mark.{Mark}
use Rattle.chain_meaning.specs.Serving.{Replies, asked_decides, query_of}
use Rattle.chain_meaning.specs.Steps.{Step}
use Rattle.chain_meaning.specs.declared.decision.Decision.{Decision}
use Rattle.chain_meaning.specs.declared.decision.Decision.TheVariants as decision
use Rattle.plain_marks.specs.Meant.{IsDone, IsOff}
use Rattle.plain_chain.specs.Reading.{asks_extra}
use Rattle.plain_chain.specs.Serving.{AsksExtra, IsHeader, IsNoQuery}
use Rattle.plain_chain.specs.declared.turning.PlainTurn.{PlainTurn}
use Rattle.plain_chain.specs.declared.turning.PlainTurn.TheVariants as turn

-- what is decided for what a datagram asks of blocks, by the marks in front of those that are left
pub record TurnDecides (steps : Block → List Step) (blocks : List Block) (d : Datagram)
    (marks left : List Mark) (P : Asked → Decision → Type 0) : Type 0 where
  pub asked : Asked
  pub queries : QueriesThis d.bytes asked
  pub own : asks_extra asked.opt asked.question.class blocks (query_of d asked) ≡ false
  pub decision : Decision
  pub done : IsDone (asked_decides steps blocks d asked) marks decision left
  pub is : P asked decision

-- the marks end too early
pub record TurnWants (steps : Block → List Step) (blocks : List Block) (d : Datagram)
    (marks : List Mark) : Type 0 where
  pub asked : Asked
  pub queries : QueriesThis d.bytes asked
  pub own : asks_extra asked.opt asked.question.class blocks (query_of d asked) ≡ false
  pub wants : asked_decides steps blocks d asked marks ≡ More

-- the first mark that is left is another than what is taken there
pub record TurnStops (steps : Block → List Step) (blocks : List Block) (d : Datagram)
    (marks left : List Mark) : Type 0 where
  pub asked : Asked
  pub queries : QueriesThis d.bytes asked
  pub own : asks_extra asked.opt asked.question.class blocks (query_of d asked) ≡ false
  pub off : IsOff (asked_decides steps blocks d asked) marks left

-- a reply, or none, and the marks that are left: what is no query takes none
abbrev pub TurnReplies : (Block → List Step) → List Block → Datagram → List Mark → List Mark
    → Option (List ℕ) → Type 0
TurnReplies steps blocks d marks left (Some reply) =
    ((left ≡ marks) × IsHeader d reply)
    ⊎ TurnDecides steps blocks d marks left (Replies d reply)
TurnReplies steps blocks d marks left None =
    ((left ≡ marks) × IsNoQuery d)
    ⊎ TurnDecides steps blocks d marks left (λ asked v. v ≡ decision.Drop)

abbrev pub Turns : (Block → List Step) → List Block → Datagram → List Mark
    → Result PlainTurn NoMemory → Type 0
Turns steps blocks d marks (Ok (turn.Done reply left)) =
    TurnReplies steps blocks d marks left.now reply
Turns steps blocks d marks (Ok turn.HasExtra) = AsksExtra blocks d
Turns steps blocks d marks (Ok turn.More) = TurnWants steps blocks d marks
Turns steps blocks d marks (Ok (turn.Off left)) = TurnStops steps blocks d marks left.now
Turns steps blocks d marks (Err e) = Unit {0}
