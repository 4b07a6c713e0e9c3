-- What `forward` means for a query and the marks of a side: which upstreams are asked, in which
-- order, with which bytes, and what of their replies is taken. This server's own rule, in the
-- manner of CoreDNS.
use Rattle.std.specs.Prelude.{ℕ, zero, suc, ◌/◌, ◌%◌, ◌==◌, nat_lt, ◌&&◌, Bool, true, false, not, List, [], ◌∷◌, ◌++◌, take, drop, length}
use Rattle.std.specs.Prelude.{Option, Some, None, is_some, if◌then◌else◌}
use Rattle.std.specs.List.{filter, list_any}
use Rattle.std.specs.Bool.{beq}
use Rattle.dns_data.specs.Message.{AnswerData, MessageData}
use Rattle.dns_data.specs.declared.class.TheConstants as classes
use Rattle.dns_data.specs.declared.limit.TheConstants as limits
use Rattle.dns_data.specs.declared.message.Opt.{Opt}
use Rattle.dns_data.specs.declared.message.Transport.{Transport}
use Rattle.dns_data.specs.declared.message.Transport.TheVariants as transport
use Rattle.dns_data.specs.declared.opcode.TheConstants as opcodes
use Rattle.dns_data.specs.declared.query.Query.{Query}
use Rattle.dns_data.specs.declared.rcode.TheConstants as rcodes
use Rattle.dns_write.specs.Written.{written}
use Rattle.outside.specs.declared.datagram.Outcome.{Outcome}
use Rattle.outside.specs.declared.datagram.Outcome.TheVariants as outcome
use Rattle.outside.specs.declared.datagram.Upstream.{Upstream}
use Rattle.outside.specs.declared.entry.InnerMark.TheVariants as inner
use Rattle.outside.specs.declared.mark.Mark.{Mark}
use Rattle.outside.specs.declared.mark.Mark.TheVariants.{Inner}
use Rattle.outside.specs.Meanings.{Meaning, Done, More, Off, onward}
use Rattle.outside.specs.Same.{same_ask}
use Rattle.upstream_health.specs.declared.drawn.Drawn.{Drawn}
use Rattle.upstream_health.specs.Pools.{has_bit}
use Rattle.forward_plugin.specs.declared.options.Policy.{Policy}
use Rattle.forward_plugin.specs.declared.options.Policy.TheVariants as policy
use Rattle.forward_plugin.specs.declared.numbered.Numbered.{Numbered}
use Rattle.forward_plugin.specs.declared.turn.Turn.{Turn}
use Rattle.forward_plugin.specs.Options.{ForwardData, by_of, fails_of, is_for, is_pooled, policy_of}
use Rattle.forward_plugin.specs.Replies.{agreed_in, is_got}

-- a random word
abbrev pub take_word : List Mark → Meaning ℕ
take_word [] = More
take_word (Inner (inner.Word word) ∷ left) = Done word left
take_word (mark ∷ left) = Off

-- what came of an ask; no mark follows on want of memory
abbrev pub outcome_means : Outcome → List Mark → Meaning Outcome
outcome_means outcome.NoMemory [] = More
outcome_means outcome.NoMemory (mark ∷ left) = Off
outcome_means (outcome.Got bytes) left = Done (outcome.Got bytes) left
outcome_means outcome.Silence left = Done outcome.Silence left
outcome_means outcome.Failed left = Done outcome.Failed left

-- exactly this ask
abbrev pub take_ask : Upstream → Transport → List ℕ → List Mark → Meaning Outcome
take_ask to by message [] = More
take_ask to by message (Inner (inner.Asked other over sent result) ∷ left) =
    if same_ask to by message other over sent then outcome_means result left else Off
take_ask to by message (mark ∷ left) = Off

-- a look for a further datagram of the last ask
abbrev pub take_more : List Mark → Meaning Outcome
take_more [] = More
take_more (Inner (inner.More result) ∷ left) = outcome_means result left
take_more (mark ∷ left) = Off

-- a draw from a pool
abbrev pub take_drawn : List Mark → Meaning Drawn
take_drawn [] = More
take_drawn (Inner (inner.Drawn number down) ∷ left) =
    Done (record { number = number; down = down }) left
take_drawn (mark ∷ left) = Off

-- exactly this report to a pool, after a try that gave this
abbrev pub take_reported : ℕ → Option AnswerData → List Mark → Meaning (Option AnswerData)
take_reported number answer [] = More
take_reported number answer (Inner (inner.Reported upstream agreed) ∷ left) =
    if upstream == number && beq agreed (is_some answer) then Done answer left else Off
take_reported number answer (mark ∷ left) = Off

-- the OPT record of an ask: DO is the client's (RFC 6891, section 6.1)
abbrev pub opt_of : Query → Option Opt
opt_of q =
    if q.edns
    then Some (record { size = limits.EDNS_BYTES; ext = 0; version = 0; dnssec = q.dnssec })
    else None

-- what an upstream is asked
abbrev pub ask_of : ℕ → Query → MessageData
ask_of word q = record {
  id = word % 65536;
  qr = false;
  opcode = opcodes.QUERY;
  aa = false;
  tc = false;
  rd = q.rd;
  ra = false;
  ad = false;
  cd = q.cd;
  rcode = rcodes.NOERROR;
  question = record { name = q.name; kind = q.kind; class = classes.IN };
  answer = [];
  authority = [];
  additional = [];
  opt = opt_of q;
}

-- its one text; no ask needs more than 512 bytes
abbrev pub ask_bytes : ℕ → Query → List ℕ
ask_bytes word q = written (ask_of word q) limits.UDP_BYTES

-- an answer that agrees ends a try, and so does silence or a failure; after another reply comes
-- what is next
abbrev pub judge_by : Option AnswerData → Bool → Meaning (Option AnswerData) → List Mark
    → Meaning (Option AnswerData)
judge_by (Some answer) got next left = Done (Some answer) left
judge_by None true next left = next
judge_by None false next left = Done None left

-- after a reply that doesn't agree, at most so many times, a further datagram is looked for
unfoldable pub judge : ℕ → ℕ → Query → Outcome → List Mark → Meaning (Option AnswerData)
judge zero word q result left = Done (agreed_in word q result) left
judge (suc most) word q result left =
    judge_by (agreed_in word q result) (is_got result)
    (onward (take_more left) (judge most word q)) left

-- over UDP three times, over TCP never
abbrev pub most_more : Transport → ℕ
most_more transport.Udp = 3
most_more transport.Tcp = 0

-- one try of one upstream: a word, an ask with exactly these bytes, and what came of it
unfoldable pub try_of : Upstream → Transport → Query → List Mark
    → Meaning (Option AnswerData)
try_of to by q marks =
    onward (take_word marks) (λ word left.
    onward (take_ask to by (ask_bytes word q) left) (judge (most_more by) word q))

-- a try of an upstream of a pool ends with a report
abbrev pub report_means : Bool → ℕ → Option AnswerData → List Mark → Meaning (Option AnswerData)
report_means true number answer left = take_reported number answer left
report_means false number answer left = Done answer left

-- a query is answered, goes on, or no upstream answered
pub data Said : Type 0 where
  reply : AnswerData → Said
  next : Said
  all_failed : Said

-- an answer is the end; else the others are asked
abbrev pub answer_or : Option AnswerData → Meaning Said → List Mark → Meaning Said
answer_or (Some answer) others left = Done (reply answer) left
answer_or None others left = others

-- each of these upstreams once, until one agrees
unfoldable pub tries : Transport → Query → Bool → List Numbered → List Mark → Meaning Said
tries by q pooled [] marks = Done all_failed marks
tries by q pooled (p ∷ ps) marks =
    onward (onward (try_of p.upstream by q marks) (report_means pooled p.number))
    (λ answer left. answer_or answer (tries by q pooled ps left) left)

-- upstreams with their numbers, from this one on
abbrev pub numbered_from : ℕ → List Upstream → List Numbered
numbered_from number [] = []
numbered_from number (u ∷ us) =
    record { number = number; upstream = u } ∷ numbered_from (suc number) us

-- upstreams with their numbers
abbrev pub numbered : List Upstream → List Numbered
numbered us = numbered_from 0 us

-- an upstream whose bit is clear
abbrev pub is_up : ℕ → Numbered → Bool
is_up down p = not (has_bit down p.number)

-- a list from one of its items on, and then those before it
abbrev pub cyclic : {A : Type 0} → ℕ → List A → List A
cyclic start xs = drop start xs ++ take start xs

-- which upstreams are asked, and in which order
abbrev pub order : ℕ → ℕ → List Upstream → List Numbered
order mask start us = filter (is_up mask) (cyclic start (numbered us))

-- those that are down are left out, unless all are
abbrev pub mask_of : ℕ → List Numbered → ℕ
mask_of down ps = if list_any (is_up down) ps then down else 0

-- without `max_fails` none is left out
abbrev pub mask_by : ℕ → ℕ → List Numbered → ℕ
mask_by fails down ps = if nat_lt 0 fails then mask_of down ps else 0

-- each sixteenth query of a directive with `max_fails` asks those that are down too
abbrev pub is_probe : ℕ → ℕ → Bool
is_probe fails number = nat_lt 0 fails && number % 16 == 15

-- with which upstream a query begins; None: a random word tells it
abbrev pub start_by : Policy → ℕ → ℕ → Option ℕ
start_by policy.Random number count = None
start_by policy.RoundRobin number count = Some (number % count)
start_by policy.Sequential number count = Some 0

-- the turn of a query with this number
abbrev pub turn_of : Policy → ℕ → List Upstream → Drawn → Turn
turn_of policy fails us drawn =
    if is_probe fails drawn.number
    then record { start = Some (drawn.number / 16 % length us); mask = 0 }
    else record {
      start = start_by policy drawn.number (length us);
      mask = mask_by fails drawn.down (numbered us);
    }

-- with which upstream a query begins, by its marks
abbrev pub start_means : Option ℕ → ℕ → List Mark → Meaning ℕ
start_means (Some start) count marks = Done start marks
start_means None count marks = onward (take_word marks) (λ word left. Done (word % count) left)

-- a turn: with which upstream it begins, and the tries
abbrev pub turn_means : Transport → Query → Bool → List Upstream → Turn → List Mark
    → Meaning Said
turn_means by q pooled us turn marks =
    onward (start_means turn.start (length us) marks)
    (λ start left. tries by q pooled (order turn.mask start us) left)

-- where there is no pool
abbrev pub undrawn : Drawn
undrawn = record { number = 0; down = 0 }

-- a pool gives a query its number, and tells which upstreams are down
abbrev pub draw_means : Bool → List Mark → Meaning Drawn
draw_means true marks = take_drawn marks
draw_means false marks = Done undrawn marks

-- the turn of a directive
abbrev pub plan_turn : ForwardData → Drawn → Turn
plan_turn plan drawn =
    turn_of (policy_of plan.directive.body) (fails_of plan.directive.body) plan.upstreams drawn

-- a directive: a draw where it has a pool, and its turn
unfoldable pub plan_means : ForwardData → Query → List Mark → Meaning Said
plan_means plan q marks =
    onward (draw_means (is_pooled plan) marks) (λ drawn left.
    turn_means (by_of plan q.by) q (is_pooled plan) plan.upstreams (plan_turn plan drawn) left)

-- the first directive that is for the name is used
unfoldable pub forward_means : List ForwardData → Query → List Mark → Meaning Said
forward_means [] q marks = Done next marks
forward_means (plan ∷ plans) q marks =
    if is_for plan q.name then plan_means plan q marks else forward_means plans q marks
