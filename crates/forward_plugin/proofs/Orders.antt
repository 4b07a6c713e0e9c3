-- Upstreams in their order.
use Rattle.std.proofs.Common.{◌≡◌, ℕ, Bool, true, false, List, [], ◌∷◌, Option, Some, None, Result, Ok, Err, length, refl, sym, ap, subst, ◌∙◌, arith}
use Rattle.std.specs.Prelude.{IsErr, IsOk, is_some, ◌==◌, ◌&&◌}
use Rattle.std.specs.Bool.{beq}
use Rattle.outside.specs.declared.entry.InnerMark.TheVariants as inner
use Rattle.forward_plugin.proofs.CallLaws.{lost, made}
use Rattle.dns_lists.specs.declared.memory.NoMemory.{NoMemory}
use Rattle.forward_plugin.specs.declared.say.ForwardSay.{ForwardSay}
use Rattle.forward_plugin.specs.Taking.{Forwards, ForwardState, Reports, try_answer, said}
use Rattle.std.specs.Prelude.{if◌then◌else◌}
use Rattle.std.specs.List.{filter}
use Rattle.dns_data.specs.Message.{AnswerData}
use Rattle.dns_data.specs.declared.message.Transport.{Transport}
use Rattle.dns_data.specs.declared.query.Query.{Query}
use Rattle.outside.specs.declared.mark.Mark.{Mark}
use Rattle.outside.specs.Meanings.{Meaning, Done, More, Off, Starved, onward}
use Rattle.forward_plugin.specs.declared.numbered.Numbered.{Numbered}
use Rattle.forward_plugin.specs.Laws.{tries_nothing}
use Rattle.forward_plugin.specs.Forward.{Said, all_failed, reply, answer_or, report_means, is_up, take_reported, tries, try_of}

pub empty : {T : Type 0} (xs : List T) → length xs ≡ 0 → xs ≡ []
empty [] e = refl
empty (x ∷ xs) e = absurd (omega (arith, e))

pub onward-done : (number : ℕ) (x : Meaning (Option AnswerData)) → onward x (report_means false number) ≡ x
onward-done number (Done v left) = refl
onward-done number More = refl
onward-done number Off = refl

module _ (by : Transport) (q : Query) (pooled : Bool) (mask : ℕ) where
  abbrev up : List Numbered → List Numbered
  up order = filter (is_up mask) order

  pub tries-end : (order : List Numbered) → length order ≡ 0 → (left : List Mark) → tries by q pooled (filter (is_up mask) order) left ≡ Done all_failed left
  unfolding tries
  tries-end order e left = ap (λ (o : List Numbered). tries by q pooled (filter (is_up mask) o) left) (empty order e)

  pub tries-left : {order : List Numbered} (p : Numbered) (ps : List Numbered) → order ≡ p ∷ ps → is_up mask p ≡ false → (marks : List Mark)
      → tries by q pooled (filter (is_up mask) order) marks ≡ tries by q pooled (filter (is_up mask) ps) marks
  tries-left p ps e out marks =
      ap (λ (o : List Numbered). tries by q pooled (filter (is_up mask) o) marks) e
      ∙ ap (λ (t : Bool). tries by q pooled (if t then p ∷ filter (is_up mask) ps else filter (is_up mask) ps) marks) out

  pub tries-tried : {order : List Numbered} (p : Numbered) (ps : List Numbered) → order ≡ p ∷ ps → is_up mask p ≡ true → (marks : List Mark)
      → tries by q pooled (filter (is_up mask) order) marks
      ≡ onward (onward (try_of p.upstream by q marks) (report_means pooled p.number)) (λ answer left. answer_or answer (tries by q pooled (filter (is_up mask) ps) left) left)
  unfolding tries
  tries-tried p ps e out marks =
      ap (λ (o : List Numbered). tries by q pooled (filter (is_up mask) o) marks) e
      ∙ ap (λ (t : Bool). tries by q pooled (if t then p ∷ filter (is_up mask) ps else filter (is_up mask) ps) marks) out

pub answered-nothing : (next : Meaning Said) (answer : Option AnswerData) → Starved next → Starved (answer_or answer next [])
answered-nothing next (Some answer) none = refl
answered-nothing next None none = none

-- what was found decides what is said
pub answered-some : (next : List Mark → Meaning Said) (answer : AnswerData) (left : List Mark) → answer_or (Some answer) (next left) left ≡ Done (reply answer) left
answered-some next answer left = refl

pub said-err : (result : Result ForwardSay NoMemory) (slot : AnswerData) → IsErr result → IsErr (said result slot)
said-err (Ok s) slot failed = absurd cc
said-err (Err e) slot failed = refl

-- what a try found, as its call tells it
pub try_answer-true : (slot : AnswerData) (b : Bool) → b ≡ true → try_answer (Ok b) slot ≡ Ok (Some slot)
try_answer-true slot b e = ap (λ (t : Bool). try_answer (Ok t) slot) e

pub try_answer-false : (slot : AnswerData) (b : Bool) → b ≡ false → try_answer (Ok b) slot ≡ Ok None
try_answer-false slot b e = ap (λ (t : Bool). try_answer (Ok t) slot) e

-- a try, and then the upstreams behind it
abbrev pub rest_of : Transport → Query → Bool → List Numbered → Option AnswerData → List Mark → Meaning Said
rest_of by q pooled others answer left = answer_or answer (tries by q pooled others left) left

pub rest-nothing : (by : Transport) (q : Query) (pooled : Bool) (others : List Numbered) (answer : Option AnswerData) → Starved (rest_of by q pooled others answer [])
rest-nothing by q pooled others answer = answered-nothing (tries by q pooled others []) answer (tries_nothing by q pooled others)

test-true : (number : ℕ) (agreed : Bool) (answer : Option AnswerData) → agreed ≡ is_some answer → (number == number && beq agreed (is_some answer)) ≡ true
test-true number agreed answer e = grind (arith, e)

-- a report of what a try found
pub reported : (number : ℕ) (agreed : Bool) (answer : Option AnswerData) → agreed ≡ is_some answer → (told : Result (Unit {0}) NoMemory) {old new : ForwardState}
    → Reports number agreed told old new → IsOk told → Forwards (take_reported number answer) (Ok answer) old new
reported number agreed answer e (Err f) p ok = absurd cc
reported number agreed answer e (Ok u) p ok =
    made (take_reported number answer) (inner.Reported number agreed ∷ []) answer p.told p.counts p.kept
    (λ left. ap (λ (t : Bool). if t then Done answer left else Off) (test-true number agreed answer e)) p.called

pub unreported : (number : ℕ) (agreed : Bool) (answer : Option AnswerData) → agreed ≡ is_some answer → (told : Result (Unit {0}) NoMemory) (f : NoMemory) {old new : ForwardState}
    → Reports number agreed told old new → Forwards (take_reported number answer) (Err f) old new
unreported number agreed answer e told f p =
    lost (take_reported number answer) (inner.Reported number agreed ∷ []) refl p.told p.counts
    (subst (λ (t : Bool). Starved (if t then Done answer [] else Off)) (sym (test-true number agreed answer e)) refl) p.called

-- what a try found, whichever it was
abbrev pub answer_by : Bool → AnswerData → Option AnswerData
answer_by true slot = Some slot
answer_by false slot = None

pub try_answer-is : (b : Bool) (slot : AnswerData) → try_answer (Ok b) slot ≡ Ok (answer_by b slot)
try_answer-is true slot = refl
try_answer-is false slot = refl

pub is-some : (b : Bool) (slot : AnswerData) → b ≡ is_some (answer_by b slot)
is-some true slot = refl
is-some false slot = refl
