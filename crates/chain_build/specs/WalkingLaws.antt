-- The equations of the steps of a compiled chain, for those who walk it.
use Rattle.std.proofs.Common.{◌≡◌, ◌<◌, Bool, true, false, List, [], ◌∷◌, ◌++◌, map, length, Option, Some, None, if◌then◌else◌, refl, ap, ◌∙◌, arith}
use Rattle.dns_data.specs.declared.directive.Directive.{Directive}
use Rattle.dns_data.specs.declared.query.Query.{Query}
use Rattle.outside.specs.Meanings.{Done, onward}
use Rattle.outside.specs.declared.mark.Mark.{Mark}
use Rattle.plugin_api.specs.{PlanData}
use Rattle.plugin_api.specs.declared.verdict.Cause.TheVariants as cause
use Rattle.plugin_api.specs.declared.verdict.Code.TheVariants as code
use Rattle.rewrite_plugin.specs.{changed_by}
use Rattle.chain_meaning.specs.declared.decision.Decision.TheVariants as decision
use Rattle.chain_meaning.specs.Mean.{answer_of, error_noted, mean, or_rest, query_noted, rewritten, rule}
use Rattle.chain_meaning.specs.Caching.{cache_means, cached}
use Rattle.chain_meaning.specs.MeanLaws.{mean-end, mean-step, rule-answers, rule-cache, rule-dns64, rule-errors, rule-log, rule-rewrite}
use Rattle.chain_meaning.specs.Steps.{Step, Dns64, Cache, Rewrite, cache_steps, dns64_steps}
use Rattle.chain_meaning.specs.Translating.{dns64_means}
use Rattle.cache_rules.specs.{cache_zones}
use Rattle.zone_words.specs.{is_in}
use Rattle.chain_build.specs.Compiled.{back_answerer, back_of, back_steps, front_answerer, front_of, middle_of}
use Rattle.chain_build.specs.declared.block_chain.BackAnswerer.{BackAnswerer}
use Rattle.chain_build.specs.declared.block_chain.FrontAnswerer.{FrontAnswerer}
use Rattle.chain_build.specs.declared.block_chain.FrontStep.{FrontStep}
use Rattle.chain_build.specs.declared.block_chain.FrontStep.TheVariants as front

empty : {T : Type 0} (xs : List T) → length xs ≡ 0 → xs ≡ []
empty [] e = refl
empty (x ∷ xs) e = absurd (omega (arith, e))

-- behind a cache
pub back-end : (steps : List BackAnswerer) (q : Query) → length steps ≡ 0 → (left : List Mark) → mean (map back_of steps) q left ≡ Done (decision.Code code.ServFail cause.EndOfChain) left
back-end steps q e left = ap (λ s. mean (map back_of s) q left) (empty steps e) ∙ mean-end q left

pub back-answers : {steps : List BackAnswerer} (plugin : BackAnswerer) (rest : List BackAnswerer) (q : Query) → steps ≡ plugin ∷ rest → (marks : List Mark)
    → mean (map back_of steps) q marks ≡ onward (answer_of (back_answerer plugin) q marks) (or_rest (mean (map back_of rest)) q)
back-answers plugin rest q e marks =
    ap (λ s. mean (map back_of s) q marks) e ∙ mean-step (back_of plugin) (map back_of rest) q marks ∙ rule-answers (back_answerer plugin) (mean (map back_of rest)) q marks

-- behind the rules of `rewrite`
pub behind-none : (rewrites : List Directive) (back : List BackAnswerer) (q : Query) → length rewrites ≡ 0 → (marks : List Mark) → mean (back_steps rewrites back) q marks ≡ mean (map back_of back) q marks
behind-none rewrites back q e marks = ap (λ ds. mean (back_steps ds back) q marks) (empty rewrites e)

pub behind-rules : (rewrites : List Directive) (back : List BackAnswerer) (q : Query) → 0 < length rewrites → (marks : List Mark)
    → mean (back_steps rewrites back) q marks ≡ rewritten (mean (map back_of back)) rewrites (changed_by rewrites q) marks
behind-rules [] back q h marks = absurd (omega (arith, h))
behind-rules (d ∷ ds) back q h marks = mean-step (Rewrite (d ∷ ds)) (map back_of back) q marks ∙ rule-rewrite (d ∷ ds) (mean (map back_of back)) q marks

-- where a chain has no cache, where it has one for the name, and where it has one that isn't
pub inner-none : (cache : Option PlanData) (steps : List Step) (q : Query) → cache ≡ None → (marks : List Mark) → mean (cache_steps cache ++ steps) q marks ≡ mean steps q marks
inner-none cache steps q none marks = ap (λ (o : Option PlanData). mean (cache_steps o ++ steps) q marks) none

cache_rule : (cache : Option PlanData) (plan : PlanData) (steps : List Step) (q : Query) → cache ≡ Some plan → (marks : List Mark) → mean (cache_steps cache ++ steps) q marks ≡ cache_means (mean steps) plan q marks
cache_rule cache plan steps q is marks = ap (λ (o : Option PlanData). mean (cache_steps o ++ steps) q marks) is ∙ mean-step (Cache plan) steps q marks ∙ rule-cache plan (mean steps) q marks

pub inner-cached : (cache : Option PlanData) (plan : PlanData) (steps : List Step) (q : Query) → cache ≡ Some plan → is_in q.name (cache_zones plan) ≡ true → (marks : List Mark)
    → mean (cache_steps cache ++ steps) q marks ≡ cached (mean steps) plan q marks
inner-cached cache plan steps q is covers marks = cache_rule cache plan steps q is marks ∙ ap (λ (t : Bool). if t then cached (mean steps) plan q marks else mean steps q marks) covers

pub inner-beyond : (cache : Option PlanData) (plan : PlanData) (steps : List Step) (q : Query) → cache ≡ Some plan → is_in q.name (cache_zones plan) ≡ false → (marks : List Mark) → mean (cache_steps cache ++ steps) q marks ≡ mean steps q marks
inner-beyond cache plan steps q is beyond marks = cache_rule cache plan steps q is marks ∙ ap (λ (t : Bool). if t then cached (mean steps) plan q marks else mean steps q marks) beyond

-- in front of it, whatever stands behind
pub front-end : (steps : List FrontStep) (behind : List Step) (q : Query) → length steps ≡ 0 → (marks : List Mark) → mean (map front_of steps ++ behind) q marks ≡ mean behind q marks
front-end steps behind q e marks = ap (λ s. mean (map front_of s ++ behind) q marks) (empty steps e)

module _ {steps : List FrontStep} (step : FrontStep) (rest : List FrontStep) (behind : List Step) (q : Query) (first : steps ≡ step ∷ rest) where
  step_is : (is : FrontStep) → step ≡ is → (marks : List Mark) → mean (map front_of steps ++ behind) q marks ≡ rule (front_of is) (mean (map front_of rest ++ behind)) q marks
  step_is is f marks =
      ap (λ s. mean (map front_of s ++ behind) q marks) first ∙ mean-step (front_of step) (map front_of rest ++ behind) q marks ∙ ap (λ s. rule (front_of s) (mean (map front_of rest ++ behind)) q marks) f

  pub front-errors : step ≡ front.Errors → (marks : List Mark) → mean (map front_of steps ++ behind) q marks ≡ onward (mean (map front_of rest ++ behind) q marks) (error_noted q)
  front-errors f marks = step_is front.Errors f marks ∙ rule-errors (mean (map front_of rest ++ behind)) q marks

  pub front-log : (plan : PlanData) → step ≡ front.Log plan → (marks : List Mark) → mean (map front_of steps ++ behind) q marks ≡ onward (mean (map front_of rest ++ behind) q marks) (query_noted plan q)
  front-log plan f marks = step_is (front.Log plan) f marks ∙ rule-log plan (mean (map front_of rest ++ behind)) q marks

-- and between these and the extras
pub middle-end : (steps : List FrontAnswerer) (behind : List Step) (q : Query) → length steps ≡ 0 → (marks : List Mark) → mean (map middle_of steps ++ behind) q marks ≡ mean behind q marks
middle-end steps behind q e marks = ap (λ s. mean (map middle_of s ++ behind) q marks) (empty steps e)

pub middle-answers : {steps : List FrontAnswerer} (plugin : FrontAnswerer) (rest : List FrontAnswerer) (behind : List Step) (q : Query) → steps ≡ plugin ∷ rest → (marks : List Mark)
    → mean (map middle_of steps ++ behind) q marks ≡ onward (answer_of (front_answerer plugin) q marks) (or_rest (mean (map middle_of rest ++ behind)) q)
middle-answers plugin rest behind q e marks =
    ap (λ s. mean (map middle_of s ++ behind) q marks) e ∙ mean-step (middle_of plugin) (map middle_of rest ++ behind) q marks ∙ rule-answers (front_answerer plugin) (mean (map middle_of rest ++ behind)) q marks

-- at `dns64`, where it stands
pub dns64-none : (dns64 : Option Directive) (behind : List Step) (q : Query) → dns64 ≡ None → (marks : List Mark) → mean (dns64_steps dns64 ++ behind) q marks ≡ mean behind q marks
dns64-none dns64 behind q e marks = ap (λ (o : Option Directive). mean (dns64_steps o ++ behind) q marks) e

pub dns64-some : (dns64 : Option Directive) (d : Directive) (behind : List Step) (q : Query) → dns64 ≡ Some d → (marks : List Mark) → mean (dns64_steps dns64 ++ behind) q marks ≡ dns64_means (mean behind) d q marks
dns64-some dns64 d behind q e marks = ap (λ (o : Option Directive). mean (dns64_steps o ++ behind) q marks) e ∙ mean-step (Dns64 d) behind q marks ∙ rule-dns64 d (mean behind) q marks
