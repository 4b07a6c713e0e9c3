-- Laws of the trail: the lines change nothing of what a chain means, and each step has its name.
use Rattle.std.proofs.Common.{◌≡◌, ◌∙◌, ℕ, Bool, true, false, if◌then◌else◌, List, [], ◌∷◌, ◌++◌}
use Rattle.std.proofs.Common.{Option, Some, None, refl, ap, codes}
use Rattle.cache_rules.specs.{cache_zones, key_of}
use Rattle.dns_data.specs.declared.directive.Directive.{Directive}
use Rattle.dns_data.specs.declared.query.Query.{Query}
use Rattle.dns64_plugin.specs.{a_query, ptr_query, translates}
use Rattle.outside.specs.{EntryData}
use Rattle.outside.specs.Meanings.{Meaning, Done, More, Off, onward}
use Rattle.outside.specs.declared.mark.Mark.{Mark}
use Rattle.plugin_api.specs.{PlanData}
use Rattle.rewrite_plugin.specs.{changed_by}
use Rattle.zone_words.specs.{is_in}
use Rattle.chain_meaning.specs.Caching.{cached, found, inners_in, kept_with}
use Rattle.chain_meaning.specs.Caching.{take_looked, take_now, taken}
use Rattle.chain_meaning.specs.Mean.{answer_of, error_noted, mean, or_rest, query_noted}
use Rattle.chain_meaning.specs.Mean.{reply_restored, rule}
use Rattle.chain_meaning.specs.Steps.{Answerer, Step, Errors, Log, Dns64, Cache, Rewrite}
use Rattle.chain_meaning.specs.Steps.{Answers, Others}
use Rattle.chain_meaning.specs.Translating.{bound_of, combined_in, pointed_by}
use Rattle.chain_meaning.specs.Translating.{pointed_in, second_by}
use Rattle.chain_meaning.specs.declared.decision.Decision.{Decision}
use Rattle.chain_trail.specs.Trail.{Follows, Trailed, answered, bare, by_meaning}
use Rattle.chain_trail.specs.Trail.{cached_by, found_by, head_name, others_answered}
use Rattle.chain_trail.specs.Trail.{pointed_by as pointed_lines, second_by as second_lines}
use Rattle.chain_trail.specs.Trail.{tail_names, traced, trailed_onward, trailed_rule, trailed_then}
use Rattle.chain_trail.specs.declared.reached.Reached.{Reached}
use Rattle.chain_trail.specs.declared.reached.StepName.{StepName}

-- what is meant behind an answer, without its lines
pub means-onward : {A B : Type 0} (lines : List Reached) (x : Meaning A)
    (next : A → List Mark → Trailed B)
    → (by_meaning lines x next).means ≡ onward x (λ v left. (next v left).means)
means-onward lines (Done v left) next = refl
means-onward lines More next = refl
means-onward lines Off next = refl

onward_as : {A B : Type 0} (x : Meaning A) (f g : A → List Mark → Meaning B)
    → ((v : A) (left : List Mark) → f v left ≡ g v left) → onward x f ≡ onward x g
onward_as (Done v left) f g same = same v left
onward_as More f g same = refl
onward_as Off f g same = refl

module _ (n : StepName) (rest : Follows) (behind : Query → List Mark → Meaning Decision)
    (same : (q : Query) (marks : List Mark) → (rest q marks).means ≡ behind q marks) where
  then_as : (q : Query) (marks : List Mark) (next : Decision → List Mark → Meaning Decision)
      → (trailed_then (rest q marks) next).means ≡ onward (behind q marks) next
  then_as q marks next =
      means-onward (rest q marks).lines (rest q marks).means (λ v left. bare (next v left))
      ∙ ap (λ x. onward x next) (same q marks)

  answers_as : (plugin : Answerer) (q : Query) (v : Option Decision) (left : List Mark)
      → (answered n rest plugin q v left).means ≡ or_rest behind q v left
  answers_as plugin q (Some v) left = refl
  answers_as plugin q None left = same q left

  others_as : (q : Query) (v : Option Decision) (left : List Mark)
      → (others_answered n rest q v left).means ≡ or_rest behind q v left
  others_as q (Some v) left = refl
  others_as q None left = same q left

  found_as : (plan : PlanData) (q : Query) (moment : ℕ) (entry : Option EntryData)
      (left : List Mark)
      → (found_by n rest plan q moment entry left).means ≡ found behind plan q moment entry left
  found_as plan q moment (Some entry) left = refl
  found_as plan q moment None left =
      then_as q left (λ v end. kept_with plan q moment (inners_in (taken left end)) v end)

  looked_as : (plan : PlanData) (q : Query) (moment : ℕ) (left : List Mark)
      → (trailed_onward (bare (take_looked (key_of q) moment left))
      (found_by n rest plan q moment)).means
      ≡ onward (take_looked (key_of q) moment left) (found behind plan q moment)
  looked_as plan q moment left =
      means-onward [] (take_looked (key_of q) moment left) (found_by n rest plan q moment)
      ∙ onward_as (take_looked (key_of q) moment left)
      (λ e more. (found_by n rest plan q moment e more).means) (found behind plan q moment)
      (found_as plan q moment)

  cached_as : (plan : PlanData) (q : Query) (marks : List Mark)
      → (cached_by n rest plan q marks).means ≡ cached behind plan q marks
  cached_as plan q marks =
      means-onward [] (take_now marks)
      (λ moment left. trailed_onward (bare (take_looked (key_of q) moment left))
      (found_by n rest plan q moment))
      ∙ onward_as (take_now marks)
      (λ moment left. (trailed_onward (bare (take_looked (key_of q) moment left))
      (found_by n rest plan q moment)).means)
      (λ moment left. onward (take_looked (key_of q) moment left)
      (found behind plan q moment))
      (looked_as plan q)

  covered_as : (plan : PlanData) (q : Query) (marks : List Mark) (t : Bool)
      → (if t then cached_by n rest plan q marks
      else record { lines = (record { line = n.line; name = n.name; say = codes "pass" } ∷ []) ++ (rest q marks).lines; means = (rest q marks).means }).means
      ≡ if t then cached behind plan q marks else behind q marks
  covered_as plan q marks true = cached_as plan q marks
  covered_as plan q marks false = same q marks

  second_as : (d : Directive) (q : Query) (v : Decision) (bound : Option ℕ) (left : List Mark)
      → (second_lines n rest d q v bound left).means ≡ second_by behind d q v bound left
  second_as d q v None left = refl
  second_as d q v (Some bound) left =
      then_as (a_query q) left (λ w more. Done (combined_in d bound w) more)

  pointed_as : (d : Directive) (q : Query) (inner : Option Query) (marks : List Mark)
      → (pointed_lines n rest q inner marks).means ≡ pointed_by behind d q inner marks
  pointed_as d q None marks = same q marks
  pointed_as d q (Some inner) marks =
      then_as inner marks (λ v left. Done (pointed_in q inner v) left)

  twice_as : (d : Directive) (q : Query) (marks : List Mark)
      → (trailed_onward (rest q marks)
      (λ v left. second_lines n rest d q v (bound_of v) left)).means
      ≡ onward (behind q marks) (λ v left. second_by behind d q v (bound_of v) left)
  twice_as d q marks =
      means-onward (rest q marks).lines (rest q marks).means
      (λ v left. second_lines n rest d q v (bound_of v) left)
      ∙ onward_as (rest q marks).means
      (λ v left. (second_lines n rest d q v (bound_of v) left).means)
      (λ v left. second_by behind d q v (bound_of v) left)
      (λ v left. second_as d q v (bound_of v) left)
      ∙ ap (λ x. onward x (λ v left. second_by behind d q v (bound_of v) left)) (same q marks)

  translated_at : (d : Directive) (q : Query) (marks : List Mark) (t : Bool)
      → (if t then trailed_onward (rest q marks)
      (λ v left. second_lines n rest d q v (bound_of v) left)
      else pointed_lines n rest q (ptr_query d q) marks).means
      ≡ if t then onward (behind q marks) (λ v left. second_by behind d q v (bound_of v) left)
      else pointed_by behind d q (ptr_query d q) marks
  translated_at d q marks true = twice_as d q marks
  translated_at d q marks false = pointed_as d q (ptr_query d q) marks

  rule_as : (step : Step) (q : Query) (marks : List Mark)
      → (trailed_rule step n rest q marks).means ≡ rule step behind q marks
  unfolding rule trailed_rule
  rule_as Errors q marks = then_as q marks (error_noted q)
  rule_as (Log plan) q marks = then_as q marks (query_noted plan q)
  rule_as (Dns64 d) q marks = translated_at d q marks (translates d q)
  rule_as (Cache plan) q marks = covered_as plan q marks (is_in q.name (cache_zones plan))
  rule_as (Rewrite ds) q marks =
      then_as (changed_by ds q).query marks (reply_restored ds (changed_by ds q))
  rule_as (Answers plugin) q marks =
      means-onward [] (answer_of plugin q marks) (answered n rest plugin q)
      ∙ onward_as (answer_of plugin q marks)
      (λ v left. (answered n rest plugin q v left).means) (or_rest behind q)
      (answers_as plugin q)
  rule_as (Others says) q marks = others_as q (says q) marks

-- with its lines a chain means what it means without them
pub traced-means : (steps : List Step) (ns : List StepName) (q : Query) (marks : List Mark)
    → (traced steps ns q marks).means ≡ mean steps q marks
unfolding traced mean
traced-means [] ns q marks = refl
traced-means (step ∷ steps) ns q marks =
    rule_as (head_name ns) (traced steps (tail_names ns)) (mean steps)
    (traced-means steps (tail_names ns)) step q marks
