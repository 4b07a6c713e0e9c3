-- What a datagram means under a bundle by a list of marks: a reply or none, and how many of the
-- marks are taken; or that the marks end too early, or are others than those that are taken. This
-- server's own rule.
use Rattle.std.specs.Prelude.{◌≡◌, ◌≤◌, ◌<◌, ◌⊎◌, ℕ, Bool, true, false, List, ◌++◌, length, drop}
use Rattle.std.specs.Prelude.{Option}
use Rattle.std.specs.Prelude.{Some, None, Result, Ok, Err}
use Rattle.dns_data.specs.Message.{AnswerData}
use Rattle.dns_data.specs.declared.block.Block.{Block}
use Rattle.dns_data.specs.declared.limit.TheConstants as limits
use Rattle.dns_wire.specs.Wire.{flag_at}
use Rattle.dns_wire.specs.Asked.{QueriesThis}
use Rattle.dns_wire.specs.declared.asked.Asked.{Asked}
use Rattle.outside.specs.Meanings.{Done, More, Off}
use Rattle.outside.specs.declared.datagram.Datagram.{Datagram}
use Rattle.outside.specs.declared.mark.Mark.{Mark}
use Rattle.corefile_blocks.specs.declared.bundle.Bundle.{Bundle}
use Rattle.chain_meaning.specs.Accepting.{IsAccepted, IsRefusedWith}
use Rattle.chain_meaning.specs.Serving.{AnswersFormErr, AnswersNotImp, Replies, answer_in}
use Rattle.chain_meaning.specs.Serving.{asked_decides, query_of}
use Rattle.chain_meaning.specs.Steps.{Step, steps_of}
use Rattle.chain_meaning.specs.declared.decision.Decision.{Decision}
use Rattle.chain_meaning.specs.declared.decision.Decision.TheVariants as decision
use Rattle.plugin_api.specs.{Sayings}
use Rattle.plain_chain.specs.Reading.{asks_extra, plain_terms}
use Rattle.plain_chain.specs.declared.fault.PlainFault.{PlainFault}
use Rattle.plain_chain.specs.declared.fault.PlainFault.TheVariants as fault
use Rattle.plain_chain.specs.declared.serving.Plain.{Plain}

-- the answer of a decision, where it has a reply
abbrev pub GivesAnswer : Decision → AnswerData → Bool → Type 0
GivesAnswer v answer true = answer_in v ≡ Some answer
GivesAnswer v answer false = v ≡ decision.Drop

-- the first list is the end of the second
pub record IsTail (left marks : List Mark) : Type 0 where
  pub taken : List Mark
  pub is : marks ≡ taken ++ left

-- so many marks were taken, and these are left
pub record AreLeft (used : ℕ) (left marks : List Mark) : Type 0 where
  pub most : used ≤ length marks
  pub is : left ≡ drop used marks

-- what is decided for what a datagram asks of blocks, by marks of which so many are taken
pub record IsDecided (steps : Block → List Step) (blocks : List Block) (d : Datagram)
    (marks : List Mark) (used : ℕ) (P : Asked → Decision → Type 0) : Type 0 where
  pub asked : Asked
  pub queries : QueriesThis d.bytes asked
  pub own : asks_extra asked.opt asked.question.class blocks (query_of d asked) ≡ false
  pub decision : Decision
  pub left : List Mark
  pub are : AreLeft used left marks
  pub took : asked_decides steps blocks d asked marks ≡ Done decision left
  pub is : P asked decision

-- the marks end too early, or one is another than what is taken there
pub record IsShort (steps : Block → List Step) (blocks : List Block) (d : Datagram)
    (marks : List Mark) : Type 0 where
  pub asked : Asked
  pub queries : QueriesThis d.bytes asked
  pub own : asks_extra asked.opt asked.question.class blocks (query_of d asked) ≡ false
  pub short : (asked_decides steps blocks d asked marks ≡ More)
      ⊎ (asked_decides steps blocks d asked marks ≡ Off)

-- a header alone replies
abbrev pub IsHeader : Datagram → List ℕ → Type 0
IsHeader d reply = AnswersNotImp d reply ⊎ AnswersFormErr d reply

-- fewer bytes than a header has, or a response
abbrev pub IsNoQuery : Datagram → Type 0
IsNoQuery d =
    (length d.bytes < limits.HEADER_BYTES)
    ⊎ ((limits.HEADER_BYTES ≤ length d.bytes) × (flag_at d.bytes 2 7 ≡ true))

-- a reply, or none, and how many marks are taken: what is no query takes none
abbrev pub GivesReply : (Block → List Step) → List Block → Datagram → List Mark → ℕ
    → Option (List ℕ) → Type 0
GivesReply steps blocks d marks used (Some reply) =
    ((used ≡ 0) × IsHeader d reply) ⊎ IsDecided steps blocks d marks used (Replies d reply)
GivesReply steps blocks d marks used None =
    ((used ≡ 0) × IsNoQuery d)
    ⊎ IsDecided steps blocks d marks used (λ asked v. v ≡ decision.Drop)

-- a datagram asks a block that has an extra's directive
pub record AsksExtra (blocks : List Block) (d : Datagram) : Type 0 where
  pub asked : Asked
  pub queries : QueriesThis d.bytes asked
  pub has : asks_extra asked.opt asked.question.class blocks (query_of d asked) ≡ true

-- a bundle is accepted, where each directive of a name that no plugin has is taken for that of an
-- extra, and this holds of its blocks
pub record IsServed (bundle : Bundle) (default_port : ℕ) (P : List Block → Type 0) : Type 0 where
  pub blocks : List Block
  pub accepted : IsAccepted (plain_terms default_port) bundle blocks
  pub is : P blocks

-- what a datagram means under a bundle by these marks, whatever extras say, where the maker of
-- patterns refused this text last
abbrev pub PlainServes : Bundle → ℕ → Datagram → List Mark → Option (List ℕ)
    → Result Plain PlainFault → Type 0
PlainServes bundle default_port d marks last (Ok plain) =
    IsServed bundle default_port
    (λ blocks. (said : Sayings)
    → GivesReply (steps_of said bundle.files) blocks d marks plain.used plain.reply)
PlainServes bundle default_port d marks last (Err (fault.Refused why)) =
    IsRefusedWith (plain_terms default_port) bundle last why
PlainServes bundle default_port d marks last (Err fault.HasExtra) =
    IsServed bundle default_port (λ blocks. AsksExtra blocks d)
PlainServes bundle default_port d marks last (Err fault.Short) =
    IsServed bundle default_port
    (λ blocks. (said : Sayings) → IsShort (steps_of said bundle.files) blocks d marks)
PlainServes bundle default_port d marks last (Err fault.NoMemory) = Unit {0}
