-- What a try of an upstream means, part by part.
use Rattle.std.proofs.Common.{◌≡◌, ◌-◌, ℕ, zero, suc, Bool, true, false, List, [], ◌∷◌, Option, Some, None, Result, Ok, Err, arith, refl, sym, ap, subst, ◌∙◌}
use Rattle.std.specs.Prelude.{IsErr, if◌then◌else◌}
use Rattle.dns_lists.specs.declared.memory.NoMemory.{NoMemory}
use Rattle.dns_data.specs.Message.{AnswerData}
use Rattle.dns_data.specs.declared.message.Transport.{Transport}
use Rattle.dns_data.specs.declared.query.Query.{Query}
use Rattle.outside.specs.declared.datagram.Outcome.{Outcome}
use Rattle.outside.specs.declared.datagram.Outcome.TheVariants as outcome
use Rattle.outside.specs.declared.datagram.Upstream.{Upstream}
use Rattle.outside.specs.declared.entry.InnerMark.TheVariants as inner
use Rattle.outside.specs.declared.kept.Kept.{Kept}
use Rattle.outside.specs.declared.mark.Mark.{Mark}
use Rattle.outside.specs.Marks.{Adds, ask_marks, more_marks}
use Rattle.outside.specs.Meanings.{Meaning, Done, Off, Starved, onward}
use Rattle.outside.specs.SameLaws.{ask_itself}
use Rattle.outside.specs.Causes.{behind_ask}
use Rattle.outside.specs.States.{Counted, SideState}
use Rattle.forward_plugin.specs.Forward.{outcome_means, judge, judge_by, most_more, take_ask, take_more, take_word, ask_bytes, try_of}
use Rattle.forward_plugin.specs.Judged.{JudgesOutcome}
use Rattle.forward_plugin.specs.Replies.{agreed_in, is_got}
use Rattle.forward_plugin.specs.Taking.{Forwards, KeepsOutcome, state_at, try_answer}

-- what came is handed on, unless memory ran out
came_means : (came_in : Outcome) (left : List Mark) → (came_in ≡ outcome.NoMemory → ⊥) → outcome_means came_in left ≡ Done came_in left
came_means (outcome.Got bytes) left some = refl
came_means outcome.Silence left some = refl
came_means outcome.Failed left some = refl
came_means outcome.NoMemory left some = absurd (some refl)

came_starved : (came_in : Outcome) → Starved (outcome_means came_in [])
came_starved (outcome.Got bytes) = refl
came_starved outcome.Silence = refl
came_starved outcome.Failed = refl
came_starved outcome.NoMemory = tt

pub asked : (to : Upstream) (by : Transport) (message : List ℕ) (came_in : Outcome) (result : Result Outcome NoMemory) {old new : SideState} {a b : Kept}
    → Adds old new (ask_marks to by message came_in) → Counted old new (behind_ask old.counts came_in) → KeepsOutcome came_in (inner.Asked to by message came_in) result a b
    → Forwards (take_ask to by message) result (state_at old a []) (state_at new b [])
asked to by message came_in (Ok out) told counts keeps = record {
  inners = inner.Asked to by message came_in ∷ [];
  told = told;
  counts = counts;
  kept = keeps.2;
  took = λ left. ap (λ (t : Bool). if t then outcome_means came_in left else Off) (ask_itself to by message) ∙ came_means came_in left keeps.1 ∙ ap (λ o. Done o left) (sym keeps.0);
  called = refl;
}
asked to by message came_in (Err e) told counts keeps = record {
  inners = inner.Asked to by message came_in ∷ [];
  told = told;
  counts = counts;
  kept = tt;
  took = subst (λ (t : Bool). Starved (if t then outcome_means came_in [] else Off)) (sym (ask_itself to by message)) (came_starved came_in);
  called = refl;
}

pub looked : (came_in : Outcome) (result : Result Outcome NoMemory) {old new : SideState} {a b : Kept}
    → Adds old new (more_marks came_in) → Counted old new (behind_ask old.counts came_in) → KeepsOutcome came_in (inner.More came_in) result a b → Forwards take_more result (state_at old a []) (state_at new b [])
looked came_in (Ok out) told counts keeps = record {
  inners = inner.More came_in ∷ [];
  told = told;
  counts = counts;
  kept = keeps.2;
  took = λ left. came_means came_in left keeps.1 ∙ ap (λ o. Done o left) (sym keeps.0);
  called = refl;
}
looked came_in (Err e) told counts keeps = record {
  inners = inner.More came_in ∷ [];
  told = told;
  counts = counts;
  kept = tt;
  took = came_starved came_in;
  called = refl;
}

-- how a reply is judge_by
pub judge-agreed : (most word : ℕ) (q : Query) (came_in : Outcome) (answer : AnswerData) → agreed_in word q came_in ≡ Some answer → (left : List Mark)
    → judge most word q came_in left ≡ Done (Some answer) left
unfolding judge
judge-agreed zero word q came_in answer e left = ap (λ a. Done a left) e
judge-agreed (suc most) word q came_in answer e left = ap (λ a. judge_by a (is_got came_in) (onward (take_more left) (judge most word q)) left) e

pub judge-last : (most word : ℕ) (q : Query) (came_in : Outcome) → most ≡ 0 → agreed_in word q came_in ≡ None → (left : List Mark)
    → judge most word q came_in left ≡ Done None left
unfolding judge
judge-last zero word q came_in z e left = ap (λ a. Done a left) e
judge-last (suc most) word q came_in z e left = absurd cc

pub judge-ends : (most word : ℕ) (q : Query) (came_in : Outcome) → agreed_in word q came_in ≡ None → is_got came_in ≡ false → (left : List Mark)
    → judge most word q came_in left ≡ Done None left
unfolding judge
judge-ends zero word q came_in e f left = ap (λ a. Done a left) e
judge-ends (suc most) word q came_in e f left =
    ap (λ a. judge_by a (is_got came_in) (onward (take_more left) (judge most word q)) left) e
    ∙ ap (λ g. judge_by None g (onward (take_more left) (judge most word q)) left) f

pub judge-goes : (most word : ℕ) (q : Query) (came_in : Outcome) → (most ≡ 0 → ⊥) → agreed_in word q came_in ≡ None → is_got came_in ≡ true → (left : List Mark)
    → judge most word q came_in left ≡ onward (take_more left) (judge (most - 1) word q)
unfolding judge
judge-goes zero word q came_in some e f left = absurd (some refl)
judge-goes (suc most) word q came_in some e f left =
    let less : most ≡ suc most - 1 = omega arith in
    ap (λ a. judge_by a (is_got came_in) (onward (take_more left) (judge most word q)) left) e
    ∙ ap (λ g. judge_by None g (onward (take_more left) (judge most word q)) left) f
    ∙ ap (λ n. onward (take_more left) (judge n word q)) less

judged_nothing : (answer : Option AnswerData) (got : Bool) (next : Outcome → List Mark → Meaning (Option AnswerData)) → Starved (judge_by answer got (onward (take_more []) next) [])
judged_nothing (Some answer) got next = refl
judged_nothing None true next = tt
judged_nothing None false next = refl

-- with no mark left it is starved
pub judge-nothing : (most word : ℕ) (q : Query) (came_in : Outcome) → Starved (judge most word q came_in [])
unfolding judge
judge-nothing zero word q came_in = refl
judge-nothing (suc most) word q came_in = judged_nothing (agreed_in word q came_in) (is_got came_in) (judge most word q)

pub try_as : (to : Upstream) (by : Transport) (q : Query) (marks : List Mark)
    → try_of to by q marks ≡ onward (take_word marks) (λ word left. onward (take_ask to by (ask_bytes word q) left) (judge (most_more by) word q))
unfolding try_of
try_as to by q marks = refl

pub sent : (to : Upstream) (by : Transport) {message other : List ℕ} → message ≡ other → (marks : List Mark) → take_ask to by other marks ≡ take_ask to by message marks
sent to by e marks = ap (λ m. take_ask to by m marks) (sym e)

pub try_answer-err : (result : Result Bool NoMemory) (slot : AnswerData) → IsErr result → IsErr (try_answer result slot)
try_answer-err (Ok true) slot failed = absurd cc
try_answer-err (Ok false) slot failed = absurd cc
try_answer-err (Err e) slot failed = refl

pub is-agreed : (word : ℕ) (q : Query) (came_in : Outcome) (old new : AnswerData) (b : Bool) → JudgesOutcome word q came_in old new (Ok b) → b ≡ true
    → agreed_in word q came_in ≡ Some new
is-agreed word q came_in old new b judges e = subst (λ (t : Bool). JudgesOutcome word q came_in old new (Ok t)) e judges

pub is-other : (word : ℕ) (q : Query) (came_in : Outcome) (old new : AnswerData) (b : Bool) → JudgesOutcome word q came_in old new (Ok b) → b ≡ false
    → agreed_in word q came_in ≡ None
is-other word q came_in old new b judges e =
    let both : JudgesOutcome word q came_in old new (Ok false) = subst (λ (t : Bool). JudgesOutcome word q came_in old new (Ok t)) e judges in both.1
