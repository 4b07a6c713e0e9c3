-- The directive that is used.
use Rattle.std.proofs.Common.{◌≡◌, ◌<◌, ℕ, zero, suc, ◌+◌, get_or, slice_get, slice_set, Bool, true, false, List, [], ◌∷◌, Option, Some, None, length, refl, sym, ap, subst, ◌∙◌, arith}
use Rattle.std.specs.Prelude.{if◌then◌else◌}
use Rattle.dns_data.specs.declared.query.Query.{Query}
use Rattle.outside.specs.declared.mark.Mark.{Mark}
use Rattle.outside.specs.Meanings.{Meaning, Done, onward}
use Rattle.forward_plugin.specs.Forward.{Said, start_means, draw_means, forward_means, next, order, plan_means, plan_turn, tries, turn_means, undrawn}
use Rattle.forward_plugin.specs.Options.{ForwardData, by_of, is_for, is_pooled}
use Rattle.forward_plugin.specs.PoolUses.{SameBut, UsedData, Uses, calls_by, calls_in, calls_of, counted, place_by, pool_count, pool_place, used_in}
use Rattle.forward_plugin.specs.declared.pool_use.PoolUse.{PoolUse}
use Rattle.forward_plugin.specs.declared.turn.Turn.{Turn}
use Rattle.upstream_health.specs.declared.drawn.Drawn.{Drawn}
use Rattle.outside.specs.declared.datagram.Upstream.{Upstream}
use Rattle.dns_data.specs.declared.message.Transport.{Transport}
use Rattle.std.proofs.lemmas.Option.{same_Some, slice_get-get_or}

abbrev means_by : Query → Option UsedData → List Mark → Meaning Said
means_by q None marks = Done next marks
means_by q (Some used) marks = plan_means used.plan q marks

means_used : (plans : List ForwardData) (q : Query) (before : ℕ) (marks : List Mark) → forward_means plans q marks ≡ means_by q (used_in q.name plans before) marks
unfolding forward_means
means_used [] q before marks = refl
means_used (plan ∷ plans) q before marks = by_test (is_for plan q.name) (means_used plans q (before + counted (is_pooled plan)) marks)
  where
    by_test : (b : Bool) → forward_means plans q marks ≡ means_by q (used_in q.name plans (before + counted (is_pooled plan))) marks
        → (if b then plan_means plan q marks else forward_means plans q marks)
        ≡ means_by q (if b then Some (record { plan = plan; before = before }) else used_in q.name plans (before + counted (is_pooled plan))) marks
    by_test true rest = refl
    by_test false rest = rest

pub means-none : (plans : List ForwardData) (q : Query) → used_in q.name plans 0 ≡ None → (left : List Mark) → forward_means plans q left ≡ Done next left
means-none plans q e left = means_used plans q 0 left ∙ ap (λ (u : Option UsedData). means_by q u left) e

pub means-some : (plans : List ForwardData) (q : Query) (plan : ForwardData) (before : ℕ) → used_in q.name plans 0 ≡ Some (record { plan = plan; before = before })
    → (marks : List Mark) → forward_means plans q marks ≡ plan_means plan q marks
means-some plans q plan before e marks = means_used plans q 0 marks ∙ ap (λ (u : Option UsedData). means_by q u marks) e

pub plan-as : (plan : ForwardData) (q : Query) (pooled : Bool) → is_pooled plan ≡ pooled → (marks : List Mark)
    → plan_means plan q marks ≡ onward (draw_means pooled marks) (λ drawn left. turn_means (by_of plan q.by) q pooled plan.upstreams (plan_turn plan drawn) left)
unfolding plan_means
plan-as plan q pooled e marks = ap (λ (b : Bool). onward (draw_means b marks) (λ drawn left. turn_means (by_of plan q.by) q b plan.upstreams (plan_turn plan drawn) left)) e

abbrev pub turn_rest : Transport → Query → Bool → ℕ → List Upstream → ℕ → List Mark → Meaning Said
turn_rest by q pooled mask us start left = tries by q pooled (order mask start us) left

-- how a turn goes on, as the code knows its parts
pub turn-as : (plan : ForwardData) (q : Query) (pooled : Bool) (drawn : Drawn) (turn : Turn) → turn ≡ plan_turn plan drawn → (count : ℕ) → count ≡ length plan.upstreams
    → (by : Transport) → by ≡ by_of plan q.by → (marks : List Mark)
    → turn_means (by_of plan q.by) q pooled plan.upstreams (plan_turn plan drawn) marks ≡ onward (start_means turn.start count marks) (turn_rest by q pooled turn.mask plan.upstreams)
turn-as plan q pooled drawn turn te count ce by be marks =
    λ i. onward (start_means (sym te i).start (sym ce i) marks) (turn_rest (sym be i) q pooled (sym te i).mask plan.upstreams)

pub alone-as : (plan : ForwardData) (q : Query) → is_pooled plan ≡ false → (turn : Turn) → turn ≡ plan_turn plan undrawn → (count : ℕ) → count ≡ length plan.upstreams
    → (by : Transport) → by ≡ by_of plan q.by → (marks : List Mark)
    → plan_means plan q marks ≡ onward (start_means turn.start count marks) (turn_rest by q false turn.mask plan.upstreams)
alone-as plan q e turn te count ce by be marks = plan-as plan q false e marks ∙ turn-as plan q false undrawn turn te count ce by be marks

-- the place of the pool that is used
pub used-below : (name : List (List ℕ)) (plans : List ForwardData) (before : ℕ) (plan : ForwardData) (k : ℕ) → used_in name plans before ≡ Some (record { plan = plan; before = k })
    → is_pooled plan ≡ true → k < before + pool_count plans
used-below name [] before plan k e p = absurd cc
used-below name (first ∷ plans) before plan k e p = by_test (is_for first name) e (used-below name plans (before + counted (is_pooled first)) plan k)
  where
    by_test : (b : Bool) → (if b then Some (record { plan = first; before = before }) else used_in name plans (before + counted (is_pooled first))) ≡ Some (record { plan = plan; before = k })
        → (used_in name plans (before + counted (is_pooled first)) ≡ Some (record { plan = plan; before = k }) → is_pooled plan ≡ true → k < before + counted (is_pooled first) + pool_count plans)
        → k < before + (counted (is_pooled first) + pool_count plans)
    by_test true f rest =
        let found : UsedData = record { plan = first; before = before } in
        let used : UsedData = record { plan = plan; before = k } in
        let same : found ≡ used = same_Some _ _ f in
        let one : counted (is_pooled first) ≡ 1 = ap (λ (u : UsedData). counted (is_pooled u.plan)) same ∙ ap counted p in
        let at : before ≡ k = ap (λ (u : UsedData). u.before) same in
        omega (arith, one, at)
    by_test false f rest = let h = rest f p in omega (arith, h)

pub place-some : (plans : List ForwardData) (name : List (List ℕ)) (plan : ForwardData) (k : ℕ) → used_in name plans 0 ≡ Some (record { plan = plan; before = k }) → is_pooled plan ≡ true
    → pool_place plans name ≡ Some k
place-some plans name plan k e p = ap place_by e ∙ ap (λ (b : Bool). if b then Some k else None) p

pub place-alone : (plans : List ForwardData) (name : List (List ℕ)) (plan : ForwardData) (k : ℕ) → used_in name plans 0 ≡ Some (record { plan = plan; before = k }) → is_pooled plan ≡ false
    → pool_place plans name ≡ None
place-alone plans name plan k e p = ap place_by e ∙ ap (λ (b : Bool). if b then Some k else None) p

pub place-none : (plans : List ForwardData) (name : List (List ℕ)) → used_in name plans 0 ≡ None → pool_place plans name ≡ None
place-none plans name e = ap place_by e

get_set : {A : Type 0} (xs : List A) (k : ℕ) (x : A) → k < length xs → slice_get (slice_set xs k x) k ≡ Some x
get_set [] k x h = absurd (omega (arith, h))
get_set (y ∷ xs) zero x h = refl
get_set (y ∷ xs) (suc k) x h = get_set xs k x (omega (arith, h))

pub calls-old : (place : Option ℕ) (pools : List PoolUse) (k : ℕ) (d : PoolUse) → place ≡ Some k → k < length pools → calls_by place pools ≡ calls_of (get_or pools k d)
calls-old place pools k d e h = ap (λ (p : Option ℕ). calls_by p pools) e ∙ ap calls_in (slice_get-get_or pools k d h)

pub calls-new : (place : Option ℕ) (pools : List PoolUse) (k : ℕ) (x : PoolUse) → place ≡ Some k → k < length pools → calls_by place (slice_set pools k x) ≡ calls_of x
calls-new place pools k x e h = ap (λ (p : Option ℕ). calls_by p (slice_set pools k x)) e ∙ ap calls_in (get_set pools k x h)

pub calls-none : (place : Option ℕ) (pools : List PoolUse) → place ≡ None → calls_by place pools ≡ []
calls-none place pools e = ap (λ (p : Option ℕ). calls_by p pools) e

pub same-but : (place : Option ℕ) (pools : List PoolUse) (k : ℕ) (d x : PoolUse) → place ≡ Some k → k < length pools → Uses (get_or pools k d) x → SameBut place pools (slice_set pools k x)
same-but place pools k d x e h uses =
    subst (λ (p : Option ℕ). SameBut p pools (slice_set pools k x)) (sym e) (record { before = get_or pools k d; after = x; was = slice_get-get_or pools k d h; is = refl; uses = uses })
