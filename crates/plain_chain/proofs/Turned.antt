-- A whole serving is a turn under what was read.
use Rattle.std.proofs.Common.{◌≡◌, inl, inr, ℕ, false, List, [], ◌++◌, length, drop, Option, Some, None, sym, ap, subst, ◌∙◌, arith}
use Rattle.std.proofs.lemmas.List.{length-drop}
use Rattle.dns_data.specs.declared.block.Block.{Block}
use Rattle.chain_meaning.specs.Steps.{Step}
use Rattle.outside.specs.Meanings.{Meaning, More}
use Rattle.outside.specs.declared.datagram.Datagram.{Datagram}
use Rattle.outside.specs.declared.mark.Mark.{Mark}
use Rattle.dns_data.specs.Message.{AnswerData}
use Rattle.dns_data.specs.declared.query.Query.{Query}
use Rattle.dns_wire.specs.Asked.{QueriesThis}
use Rattle.dns_wire.specs.declared.asked.Asked.{Asked}
use Rattle.dns_write.specs.Written.{written}
use Rattle.chain_meaning.specs.Serving.{Replies, answer_in, asked_decides, limit_of, query_decides, query_of, reply_of}
use Rattle.chain_meaning.specs.declared.decision.Decision.{Decision}
use Rattle.plain_chain.specs.Reading.{asks_extra}
use Rattle.plain_marks.specs.Meant.{IsDone, IsOff}
use Rattle.plain_chain.specs.Serving.{AreLeft, GivesReply, IsShort, IsTail}
use Rattle.plain_chain.specs.Turning.{TurnDecides, TurnReplies, TurnStops, TurnWants}

-- what a query that was read is decided, where its block has no extra
module _ (steps : Block → List Step) (blocks : List Block) (d : Datagram) (asked : Asked) (marks : List Mark) (q : Query) (is : q ≡ query_of d asked) (queries : QueriesThis d.bytes asked) (without : asks_extra asked.opt asked.question.class blocks q ≡ false) where
  abbrev all : Query → List Mark → Meaning Decision
  all p left = query_decides asked.opt asked.question.class steps blocks p left

  own : asks_extra asked.opt asked.question.class blocks (query_of d asked) ≡ false
  own = subst (λ (p : Query). asks_extra asked.opt asked.question.class blocks p ≡ false) is without

  pub wants-more : all q marks ≡ More → TurnWants steps blocks d marks
  wants-more wants = record { asked = asked; queries = queries; own = own; wants = subst (λ (p : Query). all p marks ≡ More) is wants }

  pub stops-at : (left : List Mark) → IsOff (all q) marks left → TurnStops steps blocks d marks left
  stops-at left off = record { asked = asked; queries = queries; own = own; off = subst (λ (p : Query). IsOff (all p) marks left) is off }

  pub decides-so : (P : Asked → Decision → Type 0) (v : Decision) (left : List Mark) → IsDone (all q) marks v left → P asked v → TurnDecides steps blocks d marks left P
  decides-so P v left done holds = record { asked = asked; queries = queries; own = own; decision = v; done = subst (λ (p : Query). IsDone (all p) marks v left) is done; is = holds }

-- the reply to it
pub replies-with : (d : Datagram) (asked : Asked) (v : Decision) (answer : AnswerData) (reply : List ℕ) → answer_in v ≡ Some answer → reply ≡ written (reply_of d asked answer) (limit_of d.by asked.opt) → Replies d reply asked v
replies-with d asked v answer reply is bytes = record { answer = answer; is = is; bytes = bytes }

-- the marks that a turn leaves are the last ones
pub turn-tail : (steps : Block → List Step) (blocks : List Block) (d : Datagram) (marks left : List Mark) (reply : Option (List ℕ)) → TurnReplies steps blocks d marks left reply → IsTail left marks
turn-tail steps blocks d marks left (Some reply) (inl h) = record { taken = []; is = sym h.0 }
turn-tail steps blocks d marks left (Some reply) (inr h) = record { taken = h.done.used; is = h.done.is }
turn-tail steps blocks d marks left None (inl h) = record { taken = []; is = sym h.0 }
turn-tail steps blocks d marks left None (inr h) = record { taken = h.done.used; is = h.done.is }

none-taken : (used : ℕ) (left marks : List Mark) → AreLeft used left marks → left ≡ marks → used ≡ 0
none-taken used left marks are same =
    let lengths : length (drop used marks) ≡ length marks = ap (λ (l : List Mark). length l) (sym are.is ∙ same) in
    omega (arith, are.most, lengths, length-drop used marks)

-- and so many are taken
pub turn-replies : (steps : Block → List Step) (blocks : List Block) (d : Datagram) (marks left : List Mark) (used : ℕ) (reply : Option (List ℕ)) → AreLeft used left marks
    → TurnReplies steps blocks d marks left reply → GivesReply steps blocks d marks used reply
turn-replies steps blocks d marks left used (Some reply) are (inl h) = inl (none-taken used left marks are h.0, h.1)
turn-replies steps blocks d marks left used (Some reply) are (inr h) = inr (record {
  asked = h.asked;
  queries = h.queries;
  own = h.own;
  decision = h.decision;
  left = left;
  are = are;
  took = ap (asked_decides steps blocks d h.asked) h.done.is ∙ h.done.same left;
  is = h.is;
})
turn-replies steps blocks d marks left used None are (inl h) = inl (none-taken used left marks are h.0, h.1)
turn-replies steps blocks d marks left used None are (inr h) = inr (record {
  asked = h.asked;
  queries = h.queries;
  own = h.own;
  decision = h.decision;
  left = left;
  are = are;
  took = ap (asked_decides steps blocks d h.asked) h.done.is ∙ h.done.same left;
  is = h.is;
})

pub turn-short : (steps : Block → List Step) (blocks : List Block) (d : Datagram) (marks : List Mark) → TurnWants steps blocks d marks → IsShort steps blocks d marks
turn-short steps blocks d marks h = record { asked = h.asked; queries = h.queries; own = h.own; short = inl h.wants }

pub turn-off : (steps : Block → List Step) (blocks : List Block) (d : Datagram) (marks left : List Mark) → TurnStops steps blocks d marks left → IsShort steps blocks d marks
turn-off steps blocks d marks left h =
    let all = asked_decides steps blocks d h.asked in
    record { asked = h.asked; queries = h.queries; own = h.own; short = inr (ap all (h.off.is ∙ ap (λ (l : List Mark). h.off.used ++ l) h.off.first) ∙ h.off.off h.off.rest) }
