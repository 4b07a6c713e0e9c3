-- Upstreams in their order, and the directives of a block.
use Rattle.std.proofs.Common.{◌≡◌, ℕ, Bool, true, false, List, [], ◌∷◌, Option, Result, IfOk, length, refl, ap, subst, ◌∙◌, arith, if◌then◌else◌}
use Rattle.std.specs.List.{filter}
use Rattle.dns_lists.specs.declared.memory.NoMemory.{NoMemory}
use Rattle.dns_data.specs.Message.{AnswerData}
use Rattle.dns_data.specs.declared.message.Transport.{Transport}
use Rattle.dns_data.specs.declared.query.Query.{Query}
use Rattle.outside.specs.declared.datagram.Upstream.{Upstream}
use Rattle.outside.specs.declared.mark.Mark.{Mark}
use Rattle.outside.specs.Meanings.{Meaning, Done, More, Off, onward}
use Rattle.chain_meaning.specs.Mean.{forward_answered}
use Rattle.chain_meaning.specs.declared.decision.Decision.{Decision}
use Rattle.forward_plugin.specs.declared.numbered.Numbered.{Numbered}
use Rattle.forward_plugin.specs.declared.turn.Turn.{Turn}
use Rattle.forward_plugin.specs.Forward.{all_failed, answer_or, cyclic, draw_means, forward_means, is_up, next, numbered, order, plan_means, plan_turn, report_means, start_means, tries, try_of, turn_means}
use Rattle.forward_plugin.specs.Options.{ForwardData, by_of, is_for, is_pooled}
use Rattle.upstream_health.specs.declared.drawn.Drawn.{Drawn}
use Rattle.plain_marks.specs.Meant.{IsDone, Means}
use Rattle.plain_marks.specs.MeantLaws.{followed-by, meant-as}
use Rattle.plain_marks.specs.declared.meant.Meant as declared

pub empty : {T : Type 0} (xs : List T) → length xs ≡ 0 → xs ≡ []
empty [] e = refl
empty (x ∷ xs) e = absurd (omega (arith, e))

-- one thing behind another, and a third
pub onward-onward : {A B C : Type 0} (x : Meaning A) (f : A → List Mark → Meaning B) (g : B → List Mark → Meaning C) → onward (onward x f) g ≡ onward x (λ v left. onward (f v left) g)
onward-onward (Done v left) f g = refl
onward-onward More f g = refl
onward-onward Off f g = refl

-- a try, and its report
abbrev pub try_reported : Transport → Query → Bool → Numbered → List Mark → Meaning (Option AnswerData)
try_reported by q pooled p marks = onward (try_of p.upstream by q marks) (report_means pooled p.number)

module _ (by : Transport) (q : Query) (pooled : Bool) (mask : ℕ) where
  -- what comes behind a try
  abbrev pub behind_try : List Numbered → Option AnswerData → List Mark → Meaning (Option Decision)
  behind_try ps answer left = onward (answer_or answer (tries by q pooled (filter (is_up mask) ps) left) left) forward_answered

  pub tries-end : (order : List Numbered) → length order ≡ 0 → (left : List Mark) → tries by q pooled (filter (is_up mask) order) left ≡ Done all_failed left
  unfolding tries
  tries-end order e left = ap (λ (o : List Numbered). tries by q pooled (filter (is_up mask) o) left) (empty order e)

  pub tries-tried : (order : List Numbered) (p : Numbered) (ps : List Numbered) → order ≡ p ∷ ps → is_up mask p ≡ true → (marks : List Mark)
      → onward (tries by q pooled (filter (is_up mask) order) marks) forward_answered ≡ onward (onward (try_of p.upstream by q marks) (report_means pooled p.number)) (behind_try ps)
  unfolding tries
  tries-tried order p ps e out marks =
      ap (λ (o : List Numbered). onward (tries by q pooled (filter (is_up mask) o) marks) forward_answered) e
      ∙ ap (λ (t : Bool). onward (tries by q pooled (if t then p ∷ filter (is_up mask) ps else filter (is_up mask) ps) marks) forward_answered) out
      ∙ onward-onward (onward (try_of p.upstream by q marks) (report_means pooled p.number)) (λ answer left. answer_or answer (tries by q pooled (filter (is_up mask) ps) left) left) forward_answered

-- a turn: the upstream with which it begins, and then the tries
pub turned : (by : Transport) (q : Query) (pooled : Bool) (us : List Upstream) {t turn : Turn} {count start : ℕ} {ring : List Numbered} → t ≡ turn → count ≡ length us → ring ≡ cyclic start (numbered us)
    → (marks left : List Mark) (result : Result (declared.Meant (Option Decision)) NoMemory) → IsDone (start_means t.start count) marks start left
    → IfOk result (Means (λ some. onward (tries by q pooled (filter (is_up t.mask) ring) some) forward_answered) left)
    → IfOk result (Means (λ some. onward (turn_means by q pooled us turn some) forward_answered) marks)
turned by q pooled us {t} {turn} {count} {start} {ring} same all from marks left result done rest =
    let by_turn : IsDone (start_means turn.start count) marks start left = subst (λ (x : Turn). IsDone (start_means x.start count) marks start left) same done in
    let begins : IsDone (start_means turn.start (length us)) marks start left = subst (λ (n : ℕ). IsDone (start_means turn.start n) marks start left) all by_turn in
    let masked : IfOk result (Means (λ some. onward (tries by q pooled (filter (is_up turn.mask) ring) some) forward_answered) left)
    = subst (λ (x : Turn). IfOk result (Means (λ some. onward (tries by q pooled (filter (is_up x.mask) ring) some) forward_answered) left)) same rest in
    let ordered : IfOk result (Means (λ some. onward (tries by q pooled (order turn.mask start us) some) forward_answered) left)
    = subst (λ (ps : List Numbered). IfOk result (Means (λ some. onward (tries by q pooled (filter (is_up turn.mask) ps) some) forward_answered) left)) from masked in
    meant-as result (λ some. onward (start_means turn.start (length us) some) (λ at more. onward (tries by q pooled (order turn.mask at us) more) forward_answered)) (λ some. onward (turn_means by q pooled us turn some) forward_answered)
    marks (λ some. onward-onward (start_means turn.start (length us) some) (λ at more. tries by q pooled (order turn.mask at us) more) forward_answered)
    (followed-by (start_means turn.start (length us)) (λ at more. onward (tries by q pooled (order turn.mask at us) more) forward_answered) marks left start result begins ordered)

-- what comes behind the draw of a directive
abbrev pub behind_draw : ForwardData → Query → Drawn → List Mark → Meaning (Option Decision)
behind_draw plan q drawn left = onward (turn_means (by_of plan q.by) q (is_pooled plan) plan.upstreams (plan_turn plan drawn) left) forward_answered

pub plan-drawn : (plan : ForwardData) (q : Query) (marks : List Mark) → onward (plan_means plan q marks) forward_answered ≡ onward (draw_means (is_pooled plan) marks) (behind_draw plan q)
unfolding plan_means
plan-drawn plan q marks = onward-onward (draw_means (is_pooled plan) marks) (λ drawn left. turn_means (by_of plan q.by) q (is_pooled plan) plan.upstreams (plan_turn plan drawn) left) forward_answered

module _ (q : Query) where
  pub forward-end : (plans : List ForwardData) → length plans ≡ 0 → (left : List Mark) → forward_means plans q left ≡ Done next left
  unfolding forward_means
  forward-end plans e left = ap (λ (ps : List ForwardData). forward_means ps q left) (empty plans e)

  pub forward-past : (plans : List ForwardData) (plan : ForwardData) (others : List ForwardData) → plans ≡ plan ∷ others → is_for plan q.name ≡ false → (marks : List Mark) → forward_means plans q marks ≡ forward_means others q marks
  unfolding forward_means
  forward-past plans plan others e out marks =
      ap (λ (ps : List ForwardData). forward_means ps q marks) e
      ∙ ap (λ (t : Bool). if t then plan_means plan q marks else forward_means others q marks) out

  pub forward-for : (plans : List ForwardData) (plan : ForwardData) (others : List ForwardData) → plans ≡ plan ∷ others → is_for plan q.name ≡ true → (marks : List Mark) → forward_means plans q marks ≡ plan_means plan q marks
  unfolding forward_means
  forward-for plans plan others e out marks =
      ap (λ (ps : List ForwardData). forward_means ps q marks) e
      ∙ ap (λ (t : Bool). if t then plan_means plan q marks else forward_means others q marks) out
