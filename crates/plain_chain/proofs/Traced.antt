-- The equations of what a chain means with its lines, step by step.
use Rattle.std.proofs.Common.{◌≡◌, ◌<◌, ℕ, ◌+◌, Bool, true, false, List, [], ◌∷◌, ◌++◌, drop, map, length, get_or, Option, Some, None, slice_get, if◌then◌else◌, refl, sym, ap, ◌∙◌, arith}
use Rattle.std.proofs.lemmas.List.{drop_more}
use Rattle.std.proofs.lemmas.Option.{slice_get-get_or}
use Rattle.cache_rules.specs.{cache_zones, key_of}
use Rattle.dns_data.specs.declared.directive.Directive.{Directive}
use Rattle.dns_data.specs.declared.query.Query.{Query}
use Rattle.dns64_plugin.specs.{ptr_query, translates}
use Rattle.extra_stock.specs.{said_at}
use Rattle.extra_stock.specs.Turns.{said_by}
use Rattle.outside.specs.{EntryData}
use Rattle.outside.specs.Meanings.{Meaning, Done, More, Off, onward}
use Rattle.outside.specs.declared.mark.Mark.{Mark}
use Rattle.plain_marks.specs.Caching.{look_means}
use Rattle.plugin_api.specs.{PlanData, Sayings}
use Rattle.plugin_api.specs.declared.verdict.Cause.TheVariants as cause
use Rattle.plugin_api.specs.declared.verdict.Code.TheVariants as code
use Rattle.rewrite_plugin.specs.{changed_by}
use Rattle.zone_words.specs.{is_in}
use Rattle.chain_meaning.specs.Caching.{take_looked, take_now}
use Rattle.chain_meaning.specs.Mean.{answer_of, error_noted, query_noted}
use Rattle.chain_meaning.specs.Steps.{Answerer, Step, Errors, Log, Dns64, Cache, Rewrite, Answers, Others, cache_steps, dns64_steps, extra_says, extra_steps, verdict_decides}
use Rattle.chain_meaning.specs.Translating.{bound_of}
use Rattle.chain_meaning.specs.declared.decision.Decision.{Decision}
use Rattle.chain_meaning.specs.declared.decision.Decision.TheVariants as decision
use Rattle.chain_build.specs.Compiled.{back_answerer, back_of, back_steps, front_answerer, front_of, middle_of}
use Rattle.chain_build.specs.declared.block_chain.BackAnswerer.{BackAnswerer}
use Rattle.chain_build.specs.declared.block_chain.FrontAnswerer.{FrontAnswerer}
use Rattle.chain_build.specs.declared.block_chain.FrontStep.{FrontStep}
use Rattle.chain_build.specs.declared.block_chain.FrontStep.TheVariants as front
use Rattle.chain_trail.specs.Says.{pass_say}
use Rattle.chain_trail.specs.Trail.{Follows, Trailed, answered, bare, behind_lines, by_meaning, cache_by, cached_by, end_name, found_by, head_name, others_answered, passes, pointed_by, reached, rewritten_by, second_by, tail_names, traced, trailed_onward, trailed_rule, translated_by}
use Rattle.chain_trail.specs.declared.reached.StepName.{StepName}

empty : {T : Type 0} (xs : List T) → length xs ≡ 0 → xs ≡ []
empty [] e = refl
empty (x ∷ xs) e = absurd (omega (arith, e))

traced-end : (ns : List StepName) (q : Query) (marks : List Mark) → traced [] ns q marks ≡ record { lines = reached end_name []; means = Done (decision.Code code.ServFail cause.EndOfChain) marks }
unfolding traced
traced-end ns q marks = refl

traced-step : (step : Step) (steps : List Step) (ns : List StepName) (q : Query) (marks : List Mark) → traced (step ∷ steps) ns q marks ≡ trailed_rule step (head_name ns) (traced steps (tail_names ns)) q marks
unfolding traced
traced-step step steps ns q marks = refl

module _ (n : StepName) (rest : Follows) (q : Query) (marks : List Mark) where
  rule-errors : trailed_rule Errors n rest q marks ≡ passes n rest q marks (error_noted q)
  unfolding trailed_rule
  rule-errors = refl

  rule-log : (plan : PlanData) → trailed_rule (Log plan) n rest q marks ≡ passes n rest q marks (query_noted plan q)
  unfolding trailed_rule
  rule-log plan = refl

  rule-dns64 : (d : Directive) → trailed_rule (Dns64 d) n rest q marks ≡ behind_lines (reached n pass_say) (translated_by n rest d q marks)
  unfolding trailed_rule
  rule-dns64 d = refl

  rule-cache : (plan : PlanData) → trailed_rule (Cache plan) n rest q marks ≡ cache_by n rest plan q marks
  unfolding trailed_rule
  rule-cache plan = refl

  rule-rewrite : (ds : List Directive) → trailed_rule (Rewrite ds) n rest q marks ≡ rewritten_by n rest ds (changed_by ds q) marks
  unfolding trailed_rule
  rule-rewrite ds = refl

  rule-answers : (plugin : Answerer) → trailed_rule (Answers plugin) n rest q marks ≡ trailed_onward (bare (answer_of plugin q marks)) (answered n rest plugin q)
  unfolding trailed_rule
  rule-answers plugin = refl

  rule-others : (says : Query → Option Decision) → trailed_rule (Others says) n rest q marks ≡ others_answered n rest q (says q) marks
  unfolding trailed_rule
  rule-others says = refl

-- behind a cache
pub back-end : (steps : List BackAnswerer) (ns : List StepName) (q : Query) → length steps ≡ 0 → (marks : List Mark)
    → traced (map back_of steps) ns q marks ≡ record { lines = reached end_name []; means = Done (decision.Code code.ServFail cause.EndOfChain) marks }
back-end steps ns q e marks = ap (λ s. traced (map back_of s) ns q marks) (empty steps e) ∙ traced-end ns q marks

pub back-answers : {steps : List BackAnswerer} (plugin : BackAnswerer) (rest : List BackAnswerer) (ns : List StepName) (q : Query) → steps ≡ plugin ∷ rest → (marks : List Mark)
    → traced (map back_of steps) ns q marks ≡ trailed_onward (bare (answer_of (back_answerer plugin) q marks)) (answered (head_name ns) (traced (map back_of rest) (tail_names ns)) (back_answerer plugin) q)
back-answers plugin rest ns q e marks =
    ap (λ s. traced (map back_of s) ns q marks) e ∙ traced-step (back_of plugin) (map back_of rest) ns q marks
    ∙ rule-answers (head_name ns) (traced (map back_of rest) (tail_names ns)) q marks (back_answerer plugin)

-- behind the rules of `rewrite`
pub behind-none : (rewrites : List Directive) (back : List BackAnswerer) (ns : List StepName) (q : Query) → length rewrites ≡ 0 → (marks : List Mark) → traced (back_steps rewrites back) ns q marks ≡ traced (map back_of back) ns q marks
behind-none rewrites back ns q e marks = ap (λ ds. traced (back_steps ds back) ns q marks) (empty rewrites e)

pub behind-rules : (rewrites : List Directive) (back : List BackAnswerer) (ns : List StepName) (q : Query) → 0 < length rewrites → (marks : List Mark)
    → traced (back_steps rewrites back) ns q marks ≡ rewritten_by (head_name ns) (traced (map back_of back) (tail_names ns)) rewrites (changed_by rewrites q) marks
behind-rules [] back ns q h marks = absurd (omega (arith, h))
behind-rules (d ∷ ds) back ns q h marks =
    traced-step (Rewrite (d ∷ ds)) (map back_of back) ns q marks ∙ rule-rewrite (head_name ns) (traced (map back_of back) (tail_names ns)) q marks (d ∷ ds)

-- where a chain has no cache, where it has one that isn't for the name, and where it has one that is
pub inner-none : (cache : Option PlanData) (steps : List Step) (ns : List StepName) (q : Query) → cache ≡ None → (marks : List Mark) → traced (cache_steps cache ++ steps) ns q marks ≡ traced steps ns q marks
inner-none cache steps ns q none marks = ap (λ (o : Option PlanData). traced (cache_steps o ++ steps) ns q marks) none

looked-at : {A : Type 0} (moment : ℕ) (found : ℕ × Option EntryData → List Mark → Trailed A) (y : Meaning (Option EntryData))
    → trailed_onward (bare y) (λ entry. found (moment, entry)) ≡ trailed_onward (bare (onward y (λ entry more. Done (moment, entry) more))) found
looked-at moment found (Done entry left) = refl
looked-at moment found More = refl
looked-at moment found Off = refl

looked-by : {A : Type 0} (key : ℕ → List Mark → Meaning (Option EntryData)) (found : ℕ × Option EntryData → List Mark → Trailed A) (x : Meaning ℕ)
    → trailed_onward (bare x) (λ moment left. trailed_onward (bare (key moment left)) (λ entry. found (moment, entry)))
    ≡ trailed_onward (bare (onward x (λ moment left. onward (key moment left) (λ entry more. Done (moment, entry) more)))) found
looked-by key found (Done moment left) = looked-at moment found (key moment left)
looked-by key found More = refl
looked-by key found Off = refl

module _ (n : StepName) (rest : Follows) (plan : PlanData) (q : Query) where
  -- what a look found, and when
  abbrev pub found_at : ℕ × Option EntryData → List Mark → Trailed Decision
  found_at look left = found_by n rest plan q look.0 look.1 left

  cached-looks : (marks : List Mark) → cached_by n rest plan q marks ≡ trailed_onward (bare (look_means (key_of q) marks)) found_at
  cached-looks marks = looked-by (take_looked (key_of q)) found_at (take_now marks)

  covered : (t : Bool) (marks : List Mark) → is_in q.name (cache_zones plan) ≡ t
      → cache_by n rest plan q marks ≡ (if t then cached_by n rest plan q marks else behind_lines (reached n pass_say) (rest q marks))
  covered t marks is = ap (λ (b : Bool). if b then cached_by n rest plan q marks else behind_lines (reached n pass_say) (rest q marks)) is

cache_rule : (cache : Option PlanData) (plan : PlanData) (steps : List Step) (ns : List StepName) (q : Query) → cache ≡ Some plan → (marks : List Mark)
    → traced (cache_steps cache ++ steps) ns q marks ≡ cache_by (head_name ns) (traced steps (tail_names ns)) plan q marks
cache_rule cache plan steps ns q is marks =
    ap (λ (o : Option PlanData). traced (cache_steps o ++ steps) ns q marks) is ∙ traced-step (Cache plan) steps ns q marks ∙ rule-cache (head_name ns) (traced steps (tail_names ns)) q marks plan

pub inner-beyond : (cache : Option PlanData) (plan : PlanData) (steps : List Step) (ns : List StepName) (q : Query) → cache ≡ Some plan → is_in q.name (cache_zones plan) ≡ false → (marks : List Mark)
    → traced (cache_steps cache ++ steps) ns q marks ≡ behind_lines (reached (head_name ns) pass_say) (traced steps (tail_names ns) q marks)
inner-beyond cache plan steps ns q is beyond marks = cache_rule cache plan steps ns q is marks ∙ covered (head_name ns) (traced steps (tail_names ns)) plan q false marks beyond

pub inner-cached : (cache : Option PlanData) (plan : PlanData) (steps : List Step) (ns : List StepName) (q : Query) → cache ≡ Some plan → is_in q.name (cache_zones plan) ≡ true → (marks : List Mark)
    → traced (cache_steps cache ++ steps) ns q marks ≡ trailed_onward (bare (look_means (key_of q) marks)) (found_at (head_name ns) (traced steps (tail_names ns)) plan q)
inner-cached cache plan steps ns q is covers marks =
    cache_rule cache plan steps ns q is marks ∙ covered (head_name ns) (traced steps (tail_names ns)) plan q true marks covers ∙ cached-looks (head_name ns) (traced steps (tail_names ns)) plan q marks

-- in front of it, whatever stands behind
pub front-end : (steps : List FrontStep) (behind : List Step) (ns : List StepName) (q : Query) → length steps ≡ 0 → (marks : List Mark) → traced (map front_of steps ++ behind) ns q marks ≡ traced behind ns q marks
front-end steps behind ns q e marks = ap (λ s. traced (map front_of s ++ behind) ns q marks) (empty steps e)

module _ {steps : List FrontStep} (step : FrontStep) (rest : List FrontStep) (behind : List Step) (ns : List StepName) (q : Query) (first : steps ≡ step ∷ rest) where
  abbrev others : Follows
  others = traced (map front_of rest ++ behind) (tail_names ns)

  step_is : (is : FrontStep) → step ≡ is → (marks : List Mark) → traced (map front_of steps ++ behind) ns q marks ≡ trailed_rule (front_of is) (head_name ns) others q marks
  step_is is f marks =
      ap (λ s. traced (map front_of s ++ behind) ns q marks) first ∙ traced-step (front_of step) (map front_of rest ++ behind) ns q marks ∙ ap (λ s. trailed_rule (front_of s) (head_name ns) others q marks) f

  pub front-errors : step ≡ front.Errors → (marks : List Mark) → traced (map front_of steps ++ behind) ns q marks ≡ passes (head_name ns) others q marks (error_noted q)
  front-errors f marks = step_is front.Errors f marks ∙ rule-errors (head_name ns) others q marks

  pub front-log : (plan : PlanData) → step ≡ front.Log plan → (marks : List Mark) → traced (map front_of steps ++ behind) ns q marks ≡ passes (head_name ns) others q marks (query_noted plan q)
  front-log plan f marks = step_is (front.Log plan) f marks ∙ rule-log (head_name ns) others q marks plan

-- between these and the extras
pub middle-end : (steps : List FrontAnswerer) (behind : List Step) (ns : List StepName) (q : Query) → length steps ≡ 0 → (marks : List Mark) → traced (map middle_of steps ++ behind) ns q marks ≡ traced behind ns q marks
middle-end steps behind ns q e marks = ap (λ s. traced (map middle_of s ++ behind) ns q marks) (empty steps e)

pub middle-answers : {steps : List FrontAnswerer} (plugin : FrontAnswerer) (rest : List FrontAnswerer) (behind : List Step) (ns : List StepName) (q : Query) → steps ≡ plugin ∷ rest → (marks : List Mark)
    → traced (map middle_of steps ++ behind) ns q marks
    ≡ trailed_onward (bare (answer_of (front_answerer plugin) q marks)) (answered (head_name ns) (traced (map middle_of rest ++ behind) (tail_names ns)) (front_answerer plugin) q)
middle-answers plugin rest behind ns q e marks =
    ap (λ s. traced (map middle_of s ++ behind) ns q marks) e ∙ traced-step (middle_of plugin) (map middle_of rest ++ behind) ns q marks
    ∙ rule-answers (head_name ns) (traced (map middle_of rest ++ behind) (tail_names ns)) q marks (front_answerer plugin)

-- extras
pub others-end : (said : Sayings) (ds : List Directive) (at : ℕ) (behind : List Step) (ns : List StepName) (q : Query) → drop at ds ≡ [] → (marks : List Mark) → traced (extra_steps said (drop at ds) ++ behind) ns q marks ≡ traced behind ns q marks
others-end said ds at behind ns q e marks = ap (λ (left : List Directive). traced (extra_steps said left ++ behind) ns q marks) e

pub others-at : (said : Sayings) (ds : List Directive) (at : ℕ) (behind : List Step) (ns : List StepName) (q : Query) → at < length ds → (marks : List Mark)
    → traced (extra_steps said (drop at ds) ++ behind) ns q marks
    ≡ others_answered (head_name ns) (traced (extra_steps said (drop (at + 1) ds) ++ behind) (tail_names ns)) q (verdict_decides (said_at said ds at q)) marks
others-at said [] at behind ns q inside marks = absurd (omega (arith, inside))
others-at said (first ∷ more) at behind ns q inside marks =
    let ds = first ∷ more in
    let d : Directive = get_or ds at first in
    let read : slice_get ds at ≡ Some d = slice_get-get_or ds at first inside in
    let rest : Follows = traced (extra_steps said (drop (at + 1) ds) ++ behind) (tail_names ns) in
    ap (λ (left : List Directive). traced (extra_steps said left ++ behind) ns q marks) (drop_more ds at first inside)
    ∙ traced-step (Others (extra_says said d)) (extra_steps said (drop (at + 1) ds) ++ behind) ns q marks
    ∙ rule-others (head_name ns) rest q marks (extra_says said d)
    ∙ ap (λ (o : Option Directive). others_answered (head_name ns) rest q (verdict_decides (said_by said o q)) marks) (sym read)

-- at `dns64`, where it stands
pub dns64-none : (dns64 : Option Directive) (behind : List Step) (ns : List StepName) (q : Query) → dns64 ≡ None → (marks : List Mark) → traced (dns64_steps dns64 ++ behind) ns q marks ≡ traced behind ns q marks
dns64-none dns64 behind ns q e marks = ap (λ (o : Option Directive). traced (dns64_steps o ++ behind) ns q marks) e

pub dns64-some : (dns64 : Option Directive) (d : Directive) (behind : List Step) (ns : List StepName) (q : Query) → dns64 ≡ Some d → (marks : List Mark)
    → traced (dns64_steps dns64 ++ behind) ns q marks ≡ behind_lines (reached (head_name ns) pass_say) (translated_by (head_name ns) (traced behind (tail_names ns)) d q marks)
dns64-some dns64 d behind ns q e marks =
    ap (λ (o : Option Directive). traced (dns64_steps o ++ behind) ns q marks) e ∙ traced-step (Dns64 d) behind ns q marks ∙ rule-dns64 (head_name ns) (traced behind (tail_names ns)) q marks d

module _ (n : StepName) (rest : Follows) (d : Directive) (q : Query) (marks : List Mark) where
  by_test : (t : Bool) → translates d q ≡ t → translated_by n rest d q marks ≡ (if t then trailed_onward (rest q marks) (λ v left. second_by n rest d q v (bound_of v) left) else pointed_by n rest q (ptr_query d q) marks)
  by_test t is = ap (λ (b : Bool). if b then trailed_onward (rest q marks) (λ v left. second_by n rest d q v (bound_of v) left) else pointed_by n rest q (ptr_query d q) marks) is

  pub twice : translates d q ≡ true → translated_by n rest d q marks ≡ trailed_onward (rest q marks) (λ v left. second_by n rest d q v (bound_of v) left)
  twice is = by_test true is

  pub once : (inner : Option Query) → translates d q ≡ false → ptr_query d q ≡ inner → translated_by n rest d q marks ≡ pointed_by n rest q inner marks
  once inner is named = by_test false is ∙ ap (λ (o : Option Query). pointed_by n rest q o marks) named
