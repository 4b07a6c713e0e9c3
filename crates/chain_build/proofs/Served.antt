-- Which chain a query goes through, and what serving took.
use Rattle.std.proofs.Common.{◌≡◌, ◌<◌, ◌≤◌, ◌⊎◌, inl, inr, ℕ, ◌+◌, List, [], ◌∷◌, ◌++◌, map, length, Option, Some, None, true, false, nat_eq, option_map, slice_get, Bor, Ok, refl, sym, ap, subst, ◌∙◌, append_assoc, arith}
use Rattle.std.proofs.lemmas.List.{append-nil, length-map}
use Rattle.std.proofs.Common.{length-append}
use Rattle.std.proofs.lemmas.Option.{slice_get-map}
use Rattle.dns_data.specs.declared.block.Block.{Block}
use Rattle.dns_data.specs.declared.directive.Directive.{Directive}
use Rattle.dns_data.specs.declared.file.FileText.{FileText}
use Rattle.dns_data.specs.declared.message.Opt.{Opt}
use Rattle.dns_data.specs.declared.query.Query.{Query}
use Rattle.dns_data.specs.Message.{AnswerData, MessageData}
use Rattle.std.specs.Prelude.{IfNone, IfSome}
use Rattle.dns_write.specs.{written}
use Rattle.dns_write.specs.Tails.{lent_to}
use Rattle.dns_write.specs.declared.tail.Tail.{Tail}
use Rattle.dns_write.specs.Writes.{Writes}
use Rattle.dns_wire.specs.declared.asked.Asked.{Asked}
use Rattle.outside.specs.declared.datagram.Datagram.{Datagram}
use Rattle.outside.specs.Meanings.{Meaning, Done, Starved, Took}
use Rattle.outside.specs.declared.mark.Mark.{Mark}
use Rattle.chain_meaning.specs.Mean.{mean, nothing}
use Rattle.chain_meaning.specs.declared.decision.Decision.TheVariants as decision
use Rattle.dns_data.specs.declared.class.TheConstants as classes
use Rattle.dns_data.specs.declared.rcode.TheConstants as rcodes
use Rattle.chain_meaning.specs.Serving.{Replies, answer_in, block_decides, block_of, chain_decides, class_decides, is_known_version, limit_of, opt_reply, query_decides, query_of}
use Rattle.chain_meaning.specs.Serving.{Serves, bundle_decides, refused, reply_message, upper_code}
use Rattle.chain_meaning.specs.declared.decision.Decision.{Decision}
use Rattle.chain_meaning.specs.declared.served.Served.{Served}
use Rattle.chain_meaning.specs.declared.served.Served.TheVariants as served
use Rattle.chain_meaning.specs.declared.served.Silence.TheVariants as silence
use Rattle.chain_meaning.specs.Accepting.{IsAccepted}
use Rattle.chain_meaning.specs.Grounds.{Terms}
use Rattle.corefile_blocks.specs.declared.bundle.Bundle.{Bundle}
use Rattle.dns_wire.specs.{QueriesThis, asked_by}
use Rattle.dns_wire.specs.declared.asked.AskedBeside.{AskedBeside}
use Rattle.outside.specs.States.{SideState}
use Rattle.outside.specs.Journals.{adds-nothing}
use Rattle.outside.specs.TakingLaws.{stays-nothing, took-as}
use Rattle.dns_lists.specs.declared.memory.NoMemory.{NoMemory}
use Rattle.one_history.specs.Calls.{Call}
use Rattle.one_history.specs.Logs.{part_at}
use Rattle.std.specs.Prelude.{Result, Err}
use Rattle.plugin_api.specs.{picked}
use Rattle.chain_meaning.specs.CallsByRun.{Shared, calls_by, chain_calls, picked_calls, run_calls, runs_once, turn_calls}
use Rattle.chain_meaning.specs.CallsByRunLaws.{calls-extras}
use Rattle.chain_build.specs.LoggedWalks.{ServeState, TakesAt, serving}
use Rattle.chain_build.specs.Logs.{LogShape, shape_of}
use Rattle.chain_build.specs.Workers.{server_in}
use Rattle.chain_build.proofs.Logging.{grows_same}
use Rattle.plugin_api.specs.{PlanData, Sayings, Takings}
use Rattle.chain_meaning.specs.MeanLaws.{extras_say, mean-extras}
use Rattle.chain_meaning.specs.Steps.{Step, Others, dns64_steps, extra_step, extra_steps, none_said, steps_of}
use Rattle.chain_build.specs.Plans.{PlansData, extras_in, heads_in, inner_of, others_of, rest_of, steps_in, terms_in}
use Rattle.chain_build.specs.Compiled.{back_of, back_steps, front_of, inner_steps, middle_of, whole_by}
use Rattle.chain_build.specs.declared.block_chain.BackAnswerer.{BackAnswerer}
use Rattle.chain_build.specs.declared.block.BlockChain.{BlockChain}
use Rattle.chain_build.specs.declared.ended.Ended.{Ended}
use Rattle.chain_build.specs.declared.ended.Ended.TheVariants as end
use Rattle.chain_build.specs.Replying.{Finishes, LogsServing, Server, TellsServing, lent_of, whole_answer, whole_message}

pub by_number : (said : Sayings) (files : List FileText) (chains : List BlockChain) (blocks : List Block) (n : ℕ) → map (steps_in said) chains ≡ map (steps_of said files) blocks
    → option_map (steps_in said) (slice_get chains n) ≡ option_map (steps_of said files) (slice_get blocks n)
by_number said files chains blocks n e = sym (slice_get-map (steps_in said) chains n) ∙ ap (λ l. slice_get l n) e ∙ slice_get-map (steps_of said files) blocks n

-- the extras of a chain by its number
pub extras_at : (chains : List BlockChain) (extras : List (List Directive)) (n : ℕ) (chain : BlockChain) → extras ≡ map extras_in chains → slice_get chains n ≡ Some chain → slice_get extras n ≡ Some chain.extras
extras_at chains extras n chain e at = ap (λ l. slice_get l n) e ∙ slice_get-map extras_in chains n ∙ ap (option_map extras_in) at

-- a chain that has steps means what they mean
pub some_steps : (steps : List Step) (q : Query) → 0 < length steps → (marks : List Mark) → chain_decides steps q marks ≡ mean steps q marks
some_steps [] q h marks = absurd (omega (arith, h))
some_steps (step ∷ steps) q h marks = refl

pub no_extras : (extras : List Directive) → length extras ≤ 0 → extras ≡ []
no_extras [] h = refl
no_extras (d ∷ ds) h = absurd (omega (arith, h))

module _ (said : Sayings) (head : List Step) (extras : List Directive) (inner : List Step) (q : Query) where
  abbrev whole : List Step
  whole = whole_by said head extras inner

  whole_length : length whole ≡ length head + (length extras + length inner)
  whole_length =
      omega (
        arith,
        length-append head (extra_steps said extras ++ inner),
        length-append (extra_steps said extras) inner,
        length-map extras (extra_step said),
      )

  runs : (0 < length head) ⊎ ((0 < length extras) ⊎ (0 < length inner)) → (marks : List Mark) → chain_decides whole q marks ≡ mean whole q marks
  runs (inl h) = some_steps whole q (omega (arith, h, whole_length))
  runs (inr (inl h)) = some_steps whole q (omega (arith, h, whole_length))
  runs (inr (inr h)) = some_steps whole q (omega (arith, h, whole_length))

  -- with all extras as one step
  pub runs_extras : (0 < length head) ⊎ ((0 < length extras) ⊎ (0 < length inner)) → (marks : List Mark) → chain_decides whole q marks ≡ mean (head ++ (Others (extras_say said extras) ∷ inner)) q marks
  runs_extras some marks = runs some marks ∙ sym (mean-extras said extras head inner q marks)

-- with nothing in front its steps are those behind its extras
pub bare : (said : Sayings) (head : List Step) (extras : List Directive) (inner : List Step) → head ≡ [] → length extras ≤ 0 → whole_by said head extras inner ≡ inner
bare said head extras inner none without = λ i. none i ++ (extra_steps said (no_extras extras without i) ++ inner)

-- with no step at all it refuses
pub runs_none : (said : Sayings) (head : List Step) (extras : List Directive) (inner : List Step) (q : Query) → head ≡ [] → length extras ≤ 0 → inner ≡ [] → (marks : List Mark)
    → chain_decides (whole_by said head extras inner) q marks ≡ Done refused marks
runs_none said head extras inner q none without nothing marks = ap (λ (steps : List Step). chain_decides steps q marks) (bare said head extras inner none without ∙ nothing)

-- and so it means what they mean
pub runs_inner : (said : Sayings) (head : List Step) (extras : List Directive) (inner : List Step) (q : Query) → head ≡ [] → length extras ≤ 0 → 0 < length inner → (marks : List Mark)
    → chain_decides (whole_by said head extras inner) q marks ≡ mean inner q marks
runs_inner said head extras inner q none without some marks = ap (λ (steps : List Step). chain_decides steps q marks) (bare said head extras inner none without) ∙ some_steps inner q some marks

-- what stands behind the extras is one run
once_answers : (back : List BackAnswerer) → runs_once (map back_of back) ≡ true
once_answers [] = refl
once_answers (plugin ∷ back) = refl

once_behind : (ds : List Directive) (back : List BackAnswerer) → runs_once (back_steps ds back) ≡ true
once_behind [] back = once_answers back
once_behind (d ∷ ds) back = refl

once_steps : (cache : Option PlanData) (ds : List Directive) (back : List BackAnswerer) → runs_once (inner_steps cache ds back) ≡ true
once_steps None ds back = once_behind ds back
once_steps (Some plan) ds back = refl

pub once_inner : (chain : BlockChain) → runs_once (inner_of chain) ≡ true
once_inner chain = once_steps chain.cache chain.rewrites chain.back

-- all extras as one step, step by step
pub stages : (says : Query → Option Decision) (chain : BlockChain) → heads_in chain ++ others_of says chain ≡ map front_of chain.front ++ rest_of says chain
stages says chain =
    append_assoc (map front_of chain.front) (dns64_steps chain.dns64 ++ map middle_of chain.middle) (others_of says chain)
    ∙ ap (λ (rest : List Step). map front_of chain.front ++ rest) (append_assoc (dns64_steps chain.dns64) (map middle_of chain.middle) (others_of says chain))

-- and so its calls
pub extras_calls : (said : Sayings) (chain : BlockChain) (q : Query) (which : Shared) (marks : List Mark)
    → run_calls which (steps_in said chain) q marks ≡ run_calls which (map front_of chain.front ++ rest_of (extras_say said chain.extras) chain) q marks
extras_calls said chain q which marks =
    sym (calls-extras said chain.extras (inner_of chain) (once_inner chain) which (heads_in chain) q marks)
    ∙ ap (λ (steps : List Step). run_calls which steps q marks) (stages (extras_say said chain.extras) chain)

pub extras_mean : (said : Sayings) (chain : BlockChain) (q : Query) → (0 < length (heads_in chain)) ⊎ ((0 < length chain.extras) ⊎ (0 < length (inner_of chain))) → (marks : List Mark)
    → chain_decides (steps_in said chain) q marks ≡ mean (map front_of chain.front ++ rest_of (extras_say said chain.extras) chain) q marks
extras_mean said chain q some marks =
    runs_extras said (heads_in chain) chain.extras (inner_of chain) q some marks ∙ ap (λ (steps : List Step). mean steps q marks) (stages (extras_say said chain.extras) chain)

-- a chain without extras says nothing of them
pub own_says : (said : Sayings) (chain : BlockChain) → length chain.extras ≤ 0 → extras_say said chain.extras ≡ none_said
own_says said chain none = ap (extras_say said) (no_extras chain.extras none)

-- the block of a chain that was found, and that there is none where none was
pub block_some : (chains : Block → List Step) (o : Option Block) (steps : List Step) (q : Query) → Some steps ≡ option_map chains o → (marks : List Mark)
    → block_decides chains o q marks ≡ chain_decides steps q marks
block_some chains None steps q e marks = absurd cc
block_some chains (Some block) steps q e marks = let same : steps ≡ chains block = cc in ap (λ s. chain_decides s q marks) (sym same)

pub block_none : (chains : Block → List Step) (o : Option Block) (q : Query) → None ≡ option_map chains o → (marks : List Mark) → block_decides chains o q marks ≡ Done refused marks
block_none chains None q e marks = refl
block_none chains (Some block) q e marks = absurd cc

-- with the tail that is lent the whole message is written
pub lent_written : (Q : MessageData → Type 0) (e : Ended) (m : MessageData) (tail : Option (Bor Tail)) → tail ≡ lent_of e
    → IfSome tail (λ t. Q (lent_to m t.now)) → IfNone tail (Q m) → Q (whole_message e m)
lent_written Q end.Reply m tail is some none = subst (λ (o : Option (Bor Tail)). IfNone o (Q m)) is none
lent_written Q (end.Lent lent) m tail is some none = subst (λ (o : Option (Bor Tail)). IfSome o (λ t. Q (lent_to m t.now))) is some
lent_written Q (end.Code code cause) m tail is some none = subst (λ (o : Option (Bor Tail)). IfNone o (Q m)) is none
lent_written Q end.Drop m tail is some none = subst (λ (o : Option (Bor Tail)). IfNone o (Q m)) is none

-- the reply to a query, with the records of a tail where one was lent
pub whole-reply : (e : Ended) (id class : ℕ) (opt : Option Opt) (q : Query) (a : AnswerData) → whole_message e (reply_message id class opt q a) ≡ reply_message id class opt q (whole_answer e a)
whole-reply end.Reply id class opt q a = refl
whole-reply (end.Lent tail) id class opt q a = refl
whole-reply (end.Code code cause) id class opt q a = refl
whole-reply end.Drop id class opt q a = refl

-- what was written replies to what was asked
pub replied : {d : Datagram} {asked : Asked} (e : Ended) {v : Decision} {slot after : AnswerData} {m : MessageData} {limit upper : ℕ} {opt : Option Opt} {q : Query} {bytes : List ℕ}
    → upper ≡ upper_code asked.opt → opt ≡ opt_reply upper asked.opt → q ≡ query_of d asked → after ≡ slot → limit ≡ limit_of d.by asked.opt
    → m ≡ reply_message asked.id asked.question.class opt q after → answer_in v ≡ Some (whole_answer e slot) → Writes (whole_message e m) limit bytes → Replies d bytes asked v
replied {d} {asked} e {v} {slot} {after} {m} {limit} {upper} {opt} {q} {bytes} u o asks same l message says writes = record {
  answer = whole_answer e slot;
  is = says;
  bytes = writes.text ∙ (λ i. written (whole_message e (message i)) (l i))
      ∙ (λ i. written (whole_message e (reply_message asked.id asked.question.class ((o ∙ ap (λ n. opt_reply n asked.opt) u) i) (asks i) (same i))) (limit_of d.by asked.opt))
      ∙ ap (λ w. written w (limit_of d.by asked.opt)) (whole-reply e asked.id asked.question.class (opt_reply (upper_code asked.opt) asked.opt) (query_of d asked) slot);
}

-- an answer took all of its marks
pub starved_after : {A : Type 0} (means : List Mark → Meaning A) (v : A) (marks : List Mark) → Took means (Ok v) marks → Starved (means marks)
starved_after means v marks took =
    let all : means marks ≡ Done v [] = ap means (sym (append-nil marks)) ∙ took [] in subst Starved (sym all) refl

-- what is sent for what these marks decided is what the datagram means by them
pub serves-so : (bundle : Bundle) (terms : Terms) (d : Datagram) (blocks : List Block) (asked : Asked) (v : Decision) (marks : List Mark) (result : Served) → IsAccepted terms bundle blocks → QueriesThis d.bytes asked
    → ((left : List Mark) → bundle_decides terms bundle blocks d asked (marks ++ left) ≡ Done v left) → Finishes d asked v result → Serves bundle terms d marks result
serves-so bundle terms d blocks asked v marks (served.Reply bytes) accepted queries took h =
    inl (record { blocks = blocks; accepted = accepted; asked = asked; queries = queries; decision = v; took = took; is = h })
serves-so bundle terms d blocks asked v marks (served.Silent silence.Dropped) accepted queries took h =
    record { blocks = blocks; accepted = accepted; asked = asked; queries = queries; decision = v; took = took; is = h }
serves-so bundle terms d blocks asked v marks (served.Silent silence.Short) accepted queries took h = absurd h
serves-so bundle terms d blocks asked v marks (served.Silent silence.Response) accepted queries took h = absurd h
serves-so bundle terms d blocks asked v marks served.NoMemory accepted queries took h =
    inr (record { blocks = blocks; accepted = accepted; asked = asked; queries = queries; starved = starved_after (bundle_decides terms bundle blocks d asked) v marks took })

-- what took no mark logs nothing
pub logs_nothing : (server : Server) (d : Datagram) (log : List (List Mark)) → LogsServing server d [] log log
logs_nothing server d log = record { calls = []; are = inl (refl, refl); grown = λ block part. sym (append-nil (part_at server.places log block part)); follows = grows_same log }

-- want of memory before the first mark
pub told_without : (server : Server) (d : Datagram) (side : SideState) (log : List (List Mark)) → TellsServing server d served.NoMemory (serving side log) (serving side log)
told_without server d side log = record { marks = []; told = adds-nothing side; stays = stays-nothing side; serves = inl refl; logs = logs_nothing server d log }

-- so serving tells what was decided and sent
module _ (taken : Takings) (said : Sayings) (plans : PlansData) (serial : ℕ) (d : Datagram) (name : List (List ℕ)) (beside : AskedBeside) (q : Query) (v : Decision) (result : Served)
    (accepted : IsAccepted (terms_in taken said plans) plans.bundle plans.blocks) (queries : QueriesThis d.bytes (asked_by name beside)) (is : q ≡ query_of d (asked_by name beside)) where
  abbrev decides : List Mark → Meaning Decision
  decides = query_decides beside.opt beside.class (steps_of said plans.bundle.files) plans.blocks q

  serves_it : (marks : List Mark) → ((left : List Mark) → decides (marks ++ left) ≡ Done v left) → Finishes d (asked_by q.name beside) v result → Serves plans.bundle (terms_in taken said plans) d marks result
  serves_it marks took sent =
      let asked : Asked = asked_by name beside in
      let by : (left : List Mark) → bundle_decides (terms_in taken said plans) plans.bundle plans.blocks d asked (marks ++ left) ≡ Done v left
      = subst (λ x. (left : List Mark) → query_decides beside.opt beside.class (steps_of said plans.bundle.files) plans.blocks x (marks ++ left) ≡ Done v left) is took in
      let send : Finishes d asked v result = subst (λ x. Finishes d (asked_by x.name beside) v result) is sent in
      serves-so plans.bundle (terms_in taken said plans) d plans.blocks asked v marks result accepted queries by send

  -- without a mark
  pub told_at_once : (side : SideState) (log : List (List Mark)) → ((left : List Mark) → decides left ≡ Done v left) → Finishes d (asked_by q.name beside) v result
      → TellsServing (server_in taken said plans serial) d result (serving side log) (serving side log)
  told_at_once side log took sent = record {
    marks = [];
    told = adds-nothing side;
    stays = stays-nothing side;
    serves = serves_it [] took sent;
    logs = logs_nothing (server_in taken said plans serial) d log;
  }

  -- by what a chain took, with its calls
  pub told_by : (calls : List Mark → List (Call Mark)) (old new : ServeState) → ((marks : List Mark) → turn_calls (steps_of said plans.bundle.files) plans.blocks serial q marks ≡ calls marks)
      → TakesAt (shape_of plans serial) calls decides (Ok v) old new → Finishes d (asked_by q.name beside) v result → TellsServing (server_in taken said plans serial) d result old new
  told_by calls old new are takes sent = record {
    marks = takes.takes.marks;
    told = takes.takes.told;
    stays = takes.takes.stays;
    serves = serves_it takes.takes.marks takes.takes.took sent;
    logs = record {
      calls = calls takes.takes.marks;
      are = inr (record {
        blocks = plans.blocks;
        accepted = accepted;
        asked = asked_by name beside;
        queries = queries;
        are = sym (are takes.takes.marks) ∙ ap (λ (x : Query). turn_calls (steps_of said plans.bundle.files) plans.blocks serial x takes.takes.marks) is;
      });
      grown = takes.grown;
      follows = takes.follows;
    };
  }

-- what memory ended in the middle of
pub told_starved : (taken : Takings) (said : Sayings) (plans : PlansData) (serial : ℕ) (d : Datagram) (name : List (List ℕ)) (beside : AskedBeside) (q : Query) (calls : List Mark → List (Call Mark)) (e : NoMemory) (old new : ServeState)
    → IsAccepted (terms_in taken said plans) plans.bundle plans.blocks → QueriesThis d.bytes (asked_by name beside) → q ≡ query_of d (asked_by name beside)
    → ((marks : List Mark) → turn_calls (steps_of said plans.bundle.files) plans.blocks serial q marks ≡ calls marks)
    → TakesAt (shape_of plans serial) calls (query_decides beside.opt beside.class (steps_of said plans.bundle.files) plans.blocks q) (Err e) old new
    → TellsServing (server_in taken said plans serial) d served.NoMemory old new
told_starved taken said plans serial d name beside q calls e old new accepted queries is are takes = record {
  marks = takes.takes.marks;
  told = takes.takes.told;
  stays = takes.takes.stays;
  serves = inr (record {
    blocks = plans.blocks;
    accepted = accepted;
    asked = asked_by name beside;
    queries = queries;
    starved = subst (λ x. Starved (query_decides beside.opt beside.class (steps_of said plans.bundle.files) plans.blocks x takes.takes.marks)) is takes.takes.took;
  });
  logs = record {
    calls = calls takes.takes.marks;
    are = inr (record {
      blocks = plans.blocks;
      accepted = accepted;
      asked = asked_by name beside;
      queries = queries;
      are = sym (are takes.takes.marks) ∙ ap (λ (x : Query). turn_calls (steps_of said plans.bundle.files) plans.blocks serial x takes.takes.marks) is;
    });
    grown = takes.grown;
    follows = takes.follows;
  };
}

-- a chain's meaning as that of the query that goes through it
pub takes_at : {A : Type 0} {shape : LogShape} {calls : List Mark → List (Call Mark)} (means same : List Mark → Meaning A) {result : Result A NoMemory} {old new : ServeState} → ((marks : List Mark) → same marks ≡ means marks)
    → TakesAt shape calls means result old new → TakesAt shape calls same result old new
takes_at means same {result = result} so p = record {
  takes = record { marks = p.takes.marks; told = p.takes.told; stays = p.takes.stays; took = took-as means same result p.takes.marks so p.takes.took };
  grown = p.grown;
  follows = p.follows;
}

-- the calls of a query that goes through a chain
pub calls_by_number : (said : Sayings) (files : List FileText) (chains : List BlockChain) (blocks : List Block) (n : ℕ) (chain : BlockChain) (q : Query) → map (steps_in said) chains ≡ map (steps_of said files) blocks
    → slice_get chains n ≡ Some chain → picked blocks q.local q.name ≡ Some n → (serial : ℕ) (marks : List Mark)
    → turn_calls (steps_of said files) blocks serial q marks ≡ chain_calls (steps_in said chain) serial n q marks
calls_by_number said files chains blocks n chain q same at is serial marks =
    let steps : option_map (steps_of said files) (slice_get blocks n) ≡ Some (steps_in said chain) = sym (by_number said files chains blocks n same) ∙ ap (option_map (steps_in said)) at in
    ap (λ (o : Option ℕ). picked_calls (steps_of said files) blocks serial q o marks) is ∙ by_block (slice_get blocks n) steps
  where
    by_block : (o : Option Block) → option_map (steps_of said files) o ≡ Some (steps_in said chain) → calls_by (steps_of said files) blocks serial q n o marks ≡ chain_calls (steps_in said chain) serial n q marks
    by_block None e = absurd cc
    by_block (Some block) e = let one : steps_of said files block ≡ steps_in said chain = cc in ap (λ (s : List Step). chain_calls s serial n q marks) one

-- by the version of EDNS and the class
pub version_known : (opt : Option Opt) (class : ℕ) (chains : Block → List Step) (blocks : List Block) (q : Query) → is_known_version opt ≡ true → (marks : List Mark)
    → query_decides opt class chains blocks q marks ≡ class_decides class chains blocks q marks
version_known opt class chains blocks q e marks = rw e refl

pub version_other : (opt : Option Opt) (class : ℕ) (chains : Block → List Step) (blocks : List Block) (q : Query) → is_known_version opt ≡ false → (marks : List Mark)
    → query_decides opt class chains blocks q marks ≡ Done (decision.Reply (nothing rcodes.NOERROR)) marks
version_other opt class chains blocks q e marks = rw e refl

pub class_own : (class : ℕ) (chains : Block → List Step) (blocks : List Block) (q : Query) → nat_eq class classes.IN ≡ true → (marks : List Mark)
    → class_decides class chains blocks q marks ≡ block_decides chains (block_of blocks q) q marks
class_own class chains blocks q e marks = rw e refl

pub class_other : (class : ℕ) (chains : Block → List Step) (blocks : List Block) (q : Query) → nat_eq class classes.IN ≡ false → (marks : List Mark) → class_decides class chains blocks q marks ≡ Done refused marks
class_other class chains blocks q e marks = rw e refl
