-- Chains that are tried without the outside: what stands in front of them changes nothing.
use Rattle.std.proofs.Common.{◌≡◌, ◌≤◌, ◌<◌, Bool, true, false, not, List, [], ◌∷◌, ◌++◌, length, is_some, Option, None, Some, Ok, if◌then◌else◌, refl, ap, ◌∙◌, arith}
use Rattle.std.specs.Prelude.{IsTrue}
use Rattle.dns_data.specs.Message.{AnswerData}
use Rattle.dns_data.specs.declared.directive.Directive.{Directive}
use Rattle.dns_data.specs.declared.query.Query.{Query}
use Rattle.dns64_plugin.specs.{ptr_query, translates}
use Rattle.outside.specs.Meanings.{Meaning, Done, Starved, onward}
use Rattle.outside.specs.declared.mark.Mark.{Mark}
use Rattle.plugin_api.specs.{PlanData, Sayings}
use Rattle.chain_meaning.specs.Mean.{error_noted, mean}
use Rattle.chain_meaning.specs.MeanLaws.{mean-step, mean_nothing, rule-errors}
use Rattle.chain_meaning.specs.Serving.{chain_decides}
use Rattle.chain_meaning.specs.Steps.{Step, Errors, dns64_steps}
use Rattle.chain_meaning.specs.Translating.{pointed_by, second}
use Rattle.chain_meaning.specs.declared.decision.Decision.{Decision}
use Rattle.chain_build.specs.Compiled.{head_of, inner_steps, whole_by}
use Rattle.chain_build.specs.Plans.{behind_of, steps_in}
use Rattle.chain_build.specs.Walking.{IsUncoded, NotesCodes, PassesDns64, Tries, decision_of}
use Rattle.chain_build.specs.WalkingLaws.{dns64-some}
use Rattle.chain_build.proofs.Served.{some_steps}
use Rattle.chain_build.proofs.Walks.{tries-as}
use Rattle.chain_build.specs.declared.block.BlockChain.{BlockChain}
use Rattle.chain_build.specs.declared.block_chain.FrontAnswerer.{FrontAnswerer}
use Rattle.chain_build.specs.declared.block_chain.FrontStep.{FrontStep}
use Rattle.chain_build.specs.declared.ended.Ended.{Ended}
use Rattle.chain_build.specs.declared.ended.Ended.TheVariants as end

-- `dns64` goes on with a query that it neither translates nor points elsewhere
pub passes_some : (dns64 : Option Directive) (d : Directive) (q : Query) → dns64 ≡ Some d → translates d q ≡ false → ptr_query d q ≡ None → PassesDns64 dns64 q
passes_some dns64 d q is once none behind marks =
    dns64-some dns64 d behind q is marks ∙ ap (λ (t : Bool). if t then onward (mean behind q marks) (second (mean behind) d q) else pointed_by (mean behind) d q (ptr_query d q) marks) once
    ∙ ap (λ (o : Option Query). pointed_by (mean behind) d q o marks) none

-- with no marks a chain is starved or ends
pub decides_nothing : (steps : List Step) (q : Query) → Starved (chain_decides steps q [])
decides_nothing [] q = refl
decides_nothing (step ∷ steps) q = mean_nothing (step ∷ steps) q

module _ (dns64 : Option Directive) (behind : List Step) where
  short_by : (o : Option Directive) → (dns64_steps o ++ []) ++ behind ≡ dns64_steps o ++ behind
  short_by None = refl
  short_by (Some d) = refl

  longer_by : (o : Option Directive) → 0 < length behind → 0 < length (dns64_steps o ++ behind)
  longer_by None some = some
  longer_by (Some d) some = omega arith

  module _ (q : Query) (passes : PassesDns64 dns64 q) where
    passed : (marks : List Mark) → mean ((dns64_steps dns64 ++ []) ++ behind) q marks ≡ mean behind q marks
    passed marks = ap (λ (s : List Step). mean s q marks) (short_by dns64) ∙ passes behind marks

    -- with nothing else in front
    pub decides_plain : 0 < length behind → (marks : List Mark) → chain_decides ((dns64_steps dns64 ++ []) ++ behind) q marks ≡ mean behind q marks
    decides_plain some marks =
        ap (λ (s : List Step). chain_decides s q marks) (short_by dns64) ∙ some_steps (dns64_steps dns64 ++ behind) q (longer_by dns64 some) marks ∙ passes behind marks

    -- with `errors` in front
    pub decides_noted : (marks : List Mark) → chain_decides (Errors ∷ ((dns64_steps dns64 ++ []) ++ behind)) q marks ≡ onward (mean behind q marks) (error_noted q)
    decides_noted marks =
        mean-step Errors ((dns64_steps dns64 ++ []) ++ behind) q marks ∙ rule-errors (mean ((dns64_steps dns64 ++ []) ++ behind)) q marks
        ∙ ap (λ (m : Meaning Decision). onward m (error_noted q)) (passed marks)

-- nothing is noted of what is no code
unnoted : (e : Ended) → IsUncoded (Some e) → (q : Query) (slot : AnswerData) (left : List Mark) → error_noted q (decision_of e slot) left ≡ Done (decision_of e slot) left
unnoted end.Reply un q slot left = refl
unnoted (end.Lent tail) un q slot left = refl
unnoted (end.Code code cause) un q slot left = absurd un
unnoted end.Drop un q slot left = refl

tries_noted : (means whole : List Mark → Meaning Decision) (q : Query) (slot : AnswerData) (r : Option Ended) → ((marks : List Mark) → whole marks ≡ onward (means marks) (error_noted q)) → IsUncoded r → Tries means slot (Ok r) → Tries whole slot (Ok r)
tries_noted means whole q slot None same un h = h
tries_noted means whole q slot (Some e) same un h = λ left. same left ∙ ap (λ (m : Meaning Decision). onward m (error_noted q)) (h left) ∙ unnoted e un q slot left

module _ (said : Sayings) (chain : BlockChain) (q : Query) (slot : AnswerData) (r : Option Ended) where
  -- the steps of a chain without a cache, extras or plugins in front of a cache
  steps_so : {front : List FrontStep} → chain.front ≡ front → chain.middle ≡ [] → chain.extras ≡ [] → chain.cache ≡ None → steps_in said chain ≡ whole_by said (head_of front chain.dns64 []) [] (inner_steps None chain.rewrites chain.back)
  steps_so f m e c = λ i. whole_by said (head_of (f i) chain.dns64 (m i)) (e i) (inner_steps (c i) chain.rewrites chain.back)

  pub tries_by : (notes : Bool) → NotesCodes chain.front notes → (notes ≡ true → IsUncoded r) → chain.middle ≡ [] → chain.extras ≡ [] → chain.cache ≡ None → 0 < length (behind_of chain) → PassesDns64 chain.dns64 q
      → Tries (mean (behind_of chain) q) slot (Ok r) → Tries (chain_decides (steps_in said chain) q) slot (Ok r)
  tries_by false none un m e c some passes h =
      tries-as (mean (behind_of chain) q) (chain_decides (steps_in said chain) q) slot (Ok r)
      (λ marks. ap (λ (s : List Step). chain_decides s q marks) (steps_so none m e c) ∙ decides_plain chain.dns64 (behind_of chain) q passes some marks) h
  tries_by true one un m e c some passes h =
      tries_noted (mean (behind_of chain) q) (chain_decides (steps_in said chain) q) q slot r
      (λ marks. ap (λ (s : List Step). chain_decides s q marks) (steps_so one m e c) ∙ decides_noted chain.dns64 (behind_of chain) q passes marks) (un refl) h

-- of a negation
pub not_true : (b : Bool) → IsTrue (not b) → b ≡ false
not_true true h = absurd cc
not_true false h = refl

-- a list with no element
pub no_middle : (middle : List FrontAnswerer) → length middle ≤ 0 → middle ≡ []
no_middle [] h = refl
no_middle (plugin ∷ middle) h = absurd (omega (arith, h))

-- no cache
pub no_cache : (cache : Option PlanData) → is_some cache ≡ false → cache ≡ None
no_cache None h = refl
no_cache (Some plan) h = absurd cc
