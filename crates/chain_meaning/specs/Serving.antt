-- What a datagram means under a configuration. This server's own rule; the wire format is RFC 1035,
-- section 4, and RFC 6891.
use Rattle.std.specs.Prelude.{◌≡◌, ◌≤◌, ◌<◌, ◌⊎◌, ℕ, ◌+◌, ◌*◌, max, nat_eq, Bool, true, false}
use Rattle.std.specs.Prelude.{List, [], ◌∷◌, ◌++◌, length, replicate, slice_get}
use Rattle.std.specs.Prelude.{Option, Some, None, option_and_then, option_map, is_some, if◌then◌else◌}
use Rattle.std.specs.Int.{w16, to_be_bytes}
use Rattle.dns_data.specs.declared.opcode.TheConstants as opcodes
use Rattle.dns_data.specs.declared.class.TheConstants as classes
use Rattle.dns_data.specs.declared.rcode.TheConstants as rcodes
use Rattle.dns_data.specs.declared.limit.TheConstants as limits
use Rattle.dns_data.specs.Message.{MessageData, AnswerData}
use Rattle.dns_data.specs.declared.message.Opt.{Opt}
use Rattle.dns_data.specs.declared.message.Transport.{Transport}
use Rattle.dns_data.specs.declared.message.Transport.TheVariants.{Udp, Tcp}
use Rattle.dns_data.specs.declared.query.Query.{Query}
use Rattle.dns_data.specs.declared.block.Block.{Block}
use Rattle.dns_wire.specs.declared.fault.Head.{Head}
use Rattle.dns_wire.specs.Wire.{flag_at}
use Rattle.dns_wire.specs.Spells.{HasOtherOpcode, IsMalformed}
use Rattle.dns_wire.specs.Asked.{QueriesThis}
use Rattle.dns_wire.specs.declared.asked.Asked.{Asked}
use Rattle.dns_write.specs.Written.{bit, written}
use Rattle.outside.specs.Meanings.{Meaning, Done, Starved}
use Rattle.outside.specs.declared.datagram.Datagram.{Datagram}
use Rattle.outside.specs.declared.mark.Mark.{Mark}
use Rattle.corefile_blocks.specs.declared.bundle.Bundle.{Bundle}
use Rattle.plugin_api.specs.{picked}
use Rattle.chain_meaning.specs.declared.decision.Decision.{Decision}
use Rattle.chain_meaning.specs.declared.decision.Decision.TheVariants as decision
use Rattle.chain_meaning.specs.declared.served.Served.{Served}
use Rattle.chain_meaning.specs.declared.served.Served.TheVariants.{Reply, Silent, NoMemory}
use Rattle.chain_meaning.specs.declared.served.Silence.TheVariants.{Short, Response, Dropped}
use Rattle.chain_meaning.specs.Accepting.{IsAccepted}
use Rattle.chain_meaning.specs.Mean.{mean, nothing, number}
use Rattle.chain_meaning.specs.Steps.{Step, steps_of}
use Rattle.chain_meaning.specs.Grounds.{Terms}

-- the DO bit of an OPT record, clear where there is none
abbrev pub dnssec_of : Option Opt → Bool
dnssec_of None = false
dnssec_of (Some opt) = opt.dnssec

-- the query that a chain of plugins is asked
abbrev pub query_of : Datagram → Asked → Query
query_of d asked = record {
  name = asked.question.name;
  kind = asked.question.kind;
  dnssec = dnssec_of asked.opt;
  cd = asked.cd;
  rd = asked.rd;
  edns = is_some asked.opt;
  client = d.client;
  port = d.port;
  by = d.by;
  local = d.local;
}

-- REFUSED (RFC 1035, section 4.1.1)
abbrev pub refused : Decision
refused = decision.Reply (nothing rcodes.REFUSED)

-- a block whose directives have no step, since all of them are without effect or `reload`, refuses
abbrev pub chain_decides : List Step → Query → List Mark → Meaning Decision
chain_decides [] q marks = Done refused marks
chain_decides (step ∷ steps) q marks = mean (step ∷ steps) q marks

-- a name without a block is refused
abbrev pub block_decides : (Block → List Step) → Option Block → Query → List Mark → Meaning Decision
block_decides steps None q marks = Done refused marks
block_decides steps (Some block) q marks = chain_decides (steps block) q marks

-- the block with the longest zone on the port at which the query came
abbrev pub block_of : List Block → Query → Option Block
block_of blocks q = option_and_then (slice_get blocks) (picked blocks q.local q.name)

-- a class other than IN is refused (RFC 1035, section 3.2.4)
abbrev pub class_decides : ℕ → (Block → List Step) → List Block → Query → List Mark
    → Meaning Decision
class_decides class steps blocks q marks =
    if nat_eq class classes.IN then block_decides steps (block_of blocks q) q marks
    else Done refused marks

-- the OPT record of a reply to a query with this one: the payload size is 1232, the version 0, and
-- DO the client's (RFC 6891, sections 6.1.1 and 6.2.3)
abbrev pub opt_reply : ℕ → Option Opt → Option Opt
opt_reply ext opt =
    option_map (λ (o : Opt). record {
      size = limits.EDNS_BYTES;
      ext = ext;
      version = 0;
      dnssec = o.dnssec;
    }) opt

-- the reply to a query of this id, class and OPT record: its RD and CD and its question as they
-- came; AD clear
abbrev pub reply_message : ℕ → ℕ → Option Opt → Query → AnswerData → MessageData
reply_message id class opt q a = record {
  id = id;
  qr = true;
  opcode = opcodes.QUERY;
  aa = a.aa;
  tc = a.tc;
  rd = q.rd;
  ra = a.ra;
  ad = false;
  cd = q.cd;
  rcode = a.rcode;
  question = record { name = q.name; kind = q.kind; class = class };
  answer = a.answer;
  authority = a.authority;
  additional = a.additional;
  opt = opt;
}

-- whether the query has no OPT record or one of version 0
abbrev pub is_known_version : Option Opt → Bool
is_known_version None = true
is_known_version (Some opt) = nat_eq opt.version 0

-- the upper bits of the RCODE that a query gets: those of BADVERS for another version of EDNS
-- (RFC 6891, section 6.1.3)
abbrev pub upper_code : Option Opt → ℕ
upper_code opt = if is_known_version opt then 0 else rcodes.BADVERS_UPPER

-- a query of another version of EDNS gets no records and the lower bits of BADVERS, which are 0
abbrev pub query_decides : Option Opt → ℕ → (Block → List Step) → List Block → Query → List Mark
    → Meaning Decision
query_decides opt class steps blocks q marks =
    if is_known_version opt then class_decides class steps blocks q marks
    else Done (decision.Reply (nothing rcodes.NOERROR)) marks

-- what is decided for what a datagram asks of blocks, whose chains have these steps
abbrev pub asked_decides : (Block → List Step) → List Block → Datagram → Asked → List Mark
    → Meaning Decision
asked_decides steps blocks d asked marks =
    query_decides asked.opt asked.question.class steps blocks (query_of d asked) marks

-- what is decided of a bundle's blocks
abbrev pub bundle_decides : Terms → Bundle → List Block → Datagram → Asked → List Mark
    → Meaning Decision
bundle_decides terms bundle blocks d asked marks =
    asked_decides (steps_of terms.said bundle.files) blocks d asked marks

-- the answer of a decision, where it has a reply
abbrev pub answer_in : Decision → Option AnswerData
answer_in (decision.Reply a) = Some a
answer_in (decision.Code code cause) = Some (nothing (number code))
answer_in decision.Drop = None

-- the message that replies with an answer to what was asked
abbrev pub reply_of : Datagram → Asked → AnswerData → MessageData
reply_of d asked a =
    reply_message asked.id asked.question.class (opt_reply (upper_code asked.opt) asked.opt)
    (query_of d asked) a

-- as many bytes as a client takes over UDP: 512, or the size that it gives where that is larger
-- (RFC 6891, section 6.2.3)
abbrev pub payload : Option Opt → ℕ
payload None = limits.UDP_BYTES
payload (Some opt) = max limits.UDP_BYTES opt.size

-- as many bytes as a reply may have (RFC 1035, section 4.2)
abbrev pub limit_of : Transport → Option Opt → ℕ
limit_of Udp opt = payload opt
limit_of Tcp opt = limits.MESSAGE_BYTES

-- what a datagram asks of a bundle that is accepted, and what is decided by these marks, whatever
-- stands behind them
pub record Decides (bundle : Bundle) (terms : Terms) (d : Datagram) (marks : List Mark)
    (P : Asked → Decision → Type 0) : Type 0 where
  pub blocks : List Block
  pub accepted : IsAccepted terms bundle blocks
  pub asked : Asked
  pub queries : QueriesThis d.bytes asked
  pub decision : Decision
  pub took : (left : List Mark)
      → bundle_decides terms bundle blocks d asked (marks ++ left) ≡ Done decision left
  pub is : P asked decision

-- the reply's bytes are those of the decision's answer
pub record Replies (d : Datagram) (reply : List ℕ) (asked : Asked) (v : Decision) : Type 0 where
  pub answer : AnswerData
  pub is : answer_in v ≡ Some answer
  pub bytes : reply ≡ written (reply_of d asked answer) (limit_of d.by asked.opt)

-- memory ran out in the middle of a chain
pub record Starves (bundle : Bundle) (terms : Terms) (d : Datagram) (marks : List Mark) : Type 0
  where
    pub blocks : List Block
    pub accepted : IsAccepted terms bundle blocks
    pub asked : Asked
    pub queries : QueriesThis d.bytes asked
    pub starved : Starved (bundle_decides terms bundle blocks d asked marks)

-- a header alone: the id, QR, an opcode, RD and an RCODE
unfoldable pub header_reply : ℕ → ℕ → Bool → ℕ → List ℕ
header_reply id opcode rd rcode =
    to_be_bytes w16 id ++ (128 + 8 * opcode + bit rd) ∷ rcode ∷ replicate 8 0

-- NOTIMP, with the opcode that came (RFC 1035, section 4.1.1)
pub record AnswersNotImp (d : Datagram) (reply : List ℕ) : Type 0 where
  pub head : Head
  pub asks : HasOtherOpcode d.bytes head
  pub bytes : reply ≡ header_reply head.id head.opcode head.rd rcodes.NOTIMP

-- FORMERR
pub record AnswersFormErr (d : Datagram) (reply : List ℕ) : Type 0 where
  pub head : Head
  pub asks : IsMalformed d.bytes head
  pub bytes : reply ≡ header_reply head.id opcodes.QUERY head.rd rcodes.FORMERR

-- what a datagram means, and what its meaning takes of the marks. For want of memory the marks end
-- too early, or none is left.
abbrev pub Serves : Bundle → Terms → Datagram → List Mark → Served → Type 0
Serves bundle terms d marks (Reply reply) =
    Decides bundle terms d marks (Replies d reply)
    ⊎ ((marks ≡ []) × (AnswersNotImp d reply ⊎ AnswersFormErr d reply))
Serves bundle terms d marks (Silent Short) =
    (marks ≡ []) × (length d.bytes < limits.HEADER_BYTES)
Serves bundle terms d marks (Silent Response) =
    (marks ≡ []) × (limits.HEADER_BYTES ≤ length d.bytes) × (flag_at d.bytes 2 7 ≡ true)
Serves bundle terms d marks (Silent Dropped) =
    Decides bundle terms d marks (λ asked v. v ≡ decision.Drop)
Serves bundle terms d marks NoMemory =
    (marks ≡ []) ⊎ Starves bundle terms d marks
