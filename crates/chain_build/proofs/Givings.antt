-- What a walk took, by what it gave.
use Rattle.std.proofs.Common.{◌≡◌, ◌∙◌, ℕ, Bool, true, false, if◌then◌else◌, List, Option, Some, None, Result, Ok, Err, refl, sym, ap, subst}
use Rattle.std.specs.Prelude.{IfOk, IsErr}
use Rattle.dns_lists.specs.declared.memory.NoMemory.{NoMemory}
use Rattle.dns_data.specs.Message.{AnswerData, MessageData}
use Rattle.dns_data.specs.declared.message.Opt.{Opt}
use Rattle.dns_data.specs.declared.query.Query.{Query}
use Rattle.dns_wire.specs.declared.asked.Asked.{Asked}
use Rattle.dns_write.specs.{written}
use Rattle.dns_write.specs.Writes.{Writes}
use Rattle.outside.specs.{EntryData}
use Rattle.outside.specs.Meanings.{Meaning}
use Rattle.outside.specs.States.{SideState}
use Rattle.outside.specs.declared.datagram.Datagram.{Datagram}
use Rattle.outside.specs.declared.mark.Mark.{Mark}
use Rattle.cache_rules.specs.{aged, seconds_left, with_ttls}
use Rattle.cache_rules.specs.Settings.{settings_of}
use Rattle.plugin_api.specs.{PlanData}
use Rattle.chain_meaning.specs.CallsByRun.{CallNumbers}
use Rattle.chain_meaning.specs.Serving.{Replies, limit_of, opt_reply, query_of, reply_message, upper_code}
use Rattle.chain_meaning.specs.declared.decision.Decision.{Decision}
use Rattle.chain_meaning.specs.declared.decision.Decision.TheVariants as decision
use Rattle.chain_build.specs.Giving.{message_by, ttl_at}
use Rattle.chain_build.specs.LoggedWalks.{Runs, TakesBy, TakesCalls, TakesQuietly, TakeState}
use Rattle.chain_build.specs.Walking.{decided, decision_of}
use Rattle.chain_build.specs.declared.ended.Ended.{Ended}
use Rattle.chain_build.proofs.Served.{starved_after}

-- by the same result under another name
pub tb_result : {A : Type 0} {numbers : CallNumbers} (means : List Mark → Meaning A) {result other : Result A NoMemory} {old new : TakeState} → other ≡ result → TakesBy numbers means result old new → TakesBy numbers means other old new
tb_result {numbers = numbers} means {old = old} {new = new} is p = subst (λ (r : Result _ NoMemory). TakesBy numbers means r old new) (sym is) p

pub tc_result : {A : Type 0} (calls : Runs) (means : List Mark → Meaning A) {result other : Result A NoMemory} {old new : TakeState} → other ≡ result → TakesCalls calls means result old new → TakesCalls calls means other old new
tc_result calls means {old = old} {new = new} is p = subst (λ (r : Result _ NoMemory). TakesCalls calls means r old new) (sym is) p

pub quiet_result : {A : Type 0} (means : List Mark → Meaning A) {result other : Result A NoMemory} {s t : SideState} → other ≡ result → TakesQuietly means result s t → TakesQuietly means other s t
quiet_result means {s = s} {t = t} is p = subst (λ (r : Result _ NoMemory). TakesQuietly means r s t) (sym is) p

-- want of memory
pub tb_err : {A : Type 0} {numbers : CallNumbers} (means : List Mark → Meaning A) {e : NoMemory} {result : Result A NoMemory} {old new : TakeState} → IsErr result → TakesBy numbers means (Err e) old new → TakesBy numbers means result old new
tb_err means {result = Ok v} fails p = absurd cc
tb_err means {result = Err f} fails p = record { takes = record { marks = p.takes.marks; told = p.takes.told; stays = p.takes.stays; took = p.takes.took }; logged = p.logged }

-- the answer of a hit was copied
pub tb_owned : {numbers : CallNumbers} (means : List Mark → Meaning Decision) {v : Decision} (r : Result Ended NoMemory) (slot : AnswerData) {old new : TakeState} → IfOk r (λ ended. decision_of ended slot ≡ v)
    → TakesBy numbers means (Ok v) old new → TakesBy numbers means (decided r slot) old new
tb_owned {numbers = numbers} means (Ok ended) slot {old} {new} is p = subst (λ (w : Decision). TakesBy numbers means (Ok w) old new) (sym is) p
tb_owned means {v} (Err e) slot is p = record {
  takes = record { marks = p.takes.marks; told = p.takes.told; stays = p.takes.stays; took = starved_after means v p.takes.marks p.takes.took };
  logged = p.logged;
}

-- a hit has the RCODE of its entry
pub aged_rcode : (plan : PlanData) (entry : EntryData) (moment : ℕ) → entry.answer.rcode ≡ (aged plan entry moment).rcode
aged_rcode plan entry moment = by (settings_of plan.directive).keepttl
  where
    by : (keeps : Bool) → entry.answer.rcode ≡ (if keeps then entry.answer else with_ttls (seconds_left entry.born entry.life moment) entry.answer).rcode
    by true = refl
    by false = refl

-- the message of an entry's records as they are kept, with its TTL, is that of its aged answer
pub hit-reply : (plan : PlanData) (entry : EntryData) (moment : ℕ) (id class : ℕ) (opt : Option Opt) (q : Query) → message_by (ttl_at plan entry moment) (reply_message id class opt q entry.answer) ≡ reply_message id class opt q (aged plan entry moment)
hit-reply plan entry moment id class opt q = by (settings_of plan.directive).keepttl
  where
    left : ℕ
    left = seconds_left entry.born entry.life moment

    by : (keeps : Bool) → message_by (if keeps then None else Some left) (reply_message id class opt q entry.answer) ≡ reply_message id class opt q (if keeps then entry.answer else with_ttls left entry.answer)
    by true = refl
    by false = refl

-- what was written of it replies to what was asked
pub replied_hit : {d : Datagram} {asked : Asked} (plan : PlanData) (entry : EntryData) (moment : ℕ) {m : MessageData} {e : EntryData} {limit upper : ℕ} {opt : Option Opt} {q : Query} {ttl : Option ℕ} {bytes : List ℕ}
    → upper ≡ upper_code asked.opt → opt ≡ opt_reply upper asked.opt → q ≡ query_of d asked → limit ≡ limit_of d.by asked.opt
    → e ≡ entry → m ≡ reply_message asked.id asked.question.class opt q e.answer → ttl ≡ ttl_at plan e moment → Writes (message_by ttl m) limit bytes → Replies d bytes asked (decision.Reply (aged plan entry moment))
replied_hit {d} {asked} plan entry moment u o asks l kept message time writes = record {
  answer = aged plan entry moment;
  is = refl;
  bytes = writes.text ∙ (λ i. written (message_by (time i) (message i)) (l i))
      ∙ (λ i. written (message_by (ttl_at plan (kept i) moment) (reply_message asked.id asked.question.class ((o ∙ ap (λ n. opt_reply n asked.opt) u) i) (asks i) (kept i).answer)) (limit_of d.by asked.opt))
      ∙ ap (λ w. written w (limit_of d.by asked.opt)) (hit-reply plan entry moment asked.id asked.question.class (opt_reply (upper_code asked.opt) asked.opt) (query_of d asked));
}
