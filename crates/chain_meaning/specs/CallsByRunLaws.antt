-- What stands behind `dns64` is one run. Without a mark there is no call.
use Rattle.std.proofs.Common.{◌≡◌, ◌∙◌, ℕ, Bool, true, false, List, [], ◌∷◌, ◌++◌, Option, Some, None, refl, sym, ap, if◌then◌else◌}
use Rattle.std.proofs.lemmas.List.{append-nil}
use Rattle.dns_data.specs.declared.directive.Directive.{Directive}
use Rattle.dns_data.specs.declared.query.Query.{Query}
use Rattle.dns64_plugin.specs.{ptr_query, translates}
use Rattle.outside.specs.Meanings.{Meaning, Done, More, Off, Starved}
use Rattle.outside.specs.declared.mark.Mark.{Mark}
use Rattle.plugin_api.specs.{Sayings}
use Rattle.rewrite_plugin.specs.{changed_by}
use Rattle.chain_meaning.specs.declared.decision.Decision.{Decision}
use Rattle.chain_meaning.specs.CallsByRun.{NumberedMark, Pools, Shards, Shared, number_in, of_number, of_rest, pool_in, run_calls, runs_once, shard_in, told_in}
use Rattle.chain_meaning.specs.Caching.{taken}
use Rattle.chain_meaning.specs.Mean.{mean}
use Rattle.chain_meaning.specs.MeanLaws.{behind_front, extras_say, mean_nothing, together}
use Rattle.chain_meaning.specs.Steps.{Acl, Any, Template, Hosts, File, Forward, Whoami, Step, Errors, Log, Dns64, Cache, Rewrite, Answers, Others, extra_steps}
use Rattle.chain_meaning.specs.TranslatingCalls.{dns64_calls, first_calls, pointed_calls}
use Rattle.chain_meaning.specs.TranslatingCallsLaws.{failed_calls, taken_front}

pub once_calls : (which : Shared) (steps : List Step) (q : Query) (marks : List Mark) → runs_once steps ≡ true → run_calls which steps q marks ≡ of_number (number_in which steps q) (told_in which marks)
once_calls which [] q marks once = refl
once_calls which (Errors ∷ steps) q marks once = absurd cc
once_calls which (Log plan ∷ steps) q marks once = absurd cc
once_calls which (Dns64 d ∷ steps) q marks once = absurd cc
once_calls which (Cache plan ∷ steps) q marks once = refl
once_calls which (Rewrite ds ∷ steps) q marks once = refl
once_calls which (Answers plugin ∷ steps) q marks once = refl
once_calls which (Others says ∷ steps) q marks once = refl

-- the rest took these marks, and a line was noted behind them; or it ran out of memory
pub noted_calls : (calls : List Mark → List NumberedMark) (m n : List Mark) (x : Meaning Decision) (v : Decision) → x ≡ Done v n → of_rest calls (m ++ n) x ≡ calls m
noted_calls calls m n x v is = ap (of_rest calls (m ++ n)) is ∙ ap calls (taken_front m n)

pub starved_rest : (calls : List Mark → List NumberedMark) (m : List Mark) (x : Meaning Decision) → Starved x → of_rest calls m x ≡ calls m
starved_rest calls m (Done v left) empty =
    let all : taken m [] ≡ m = ap (λ (ms : List Mark). taken ms []) (sym (append-nil m)) ∙ taken_front m [] in
    ap (λ (ms : List Mark). calls (taken m ms)) empty ∙ ap calls all
starved_rest calls m More empty = refl
starved_rest calls m Off empty = absurd empty

of_nothing : (number : Option ℕ) → of_number number [] ≡ []
of_nothing None = refl
of_nothing (Some number) = refl

untold : (which : Shared) (number : Option ℕ) → of_number number (told_in which []) ≡ []
untold Shards number = of_nothing number
untold Pools number = of_nothing number

if_not : {A : Type 0} (t : Bool) (x y : A) → t ≡ false → (if t then x else y) ≡ y
if_not true x y is = absurd cc
if_not false x y is = refl

module _ (calls : Query → List Mark → List NumberedMark) (d : Directive) (q : Query) (none : (p : Query) → calls p [] ≡ []) where
  pointed_none : (inner : Option Query) → pointed_calls calls d q inner [] ≡ []
  pointed_none None = none q
  pointed_none (Some inner) = none inner

  dns64_none : (rest : Query → List Mark → Meaning Decision) → Starved (rest q []) → (t : Bool) → translates d q ≡ t → dns64_calls calls d q rest [] ≡ []
  dns64_none rest starved true is = failed_calls calls rest d q is none [] starved ∙ none q
  dns64_none rest starved false is = if_not (translates d q) (first_calls calls d q [] (rest q [])) (pointed_calls calls d q (ptr_query d q) []) is ∙ pointed_none (ptr_query d q)

module _ (which : Shared) where
  pub calls_none : (steps : List Step) (q : Query) → run_calls which steps q [] ≡ []
  calls_none [] q = untold which (number_in which [] q)
  calls_none (Errors ∷ steps) q = starved_rest (λ left. run_calls which steps q left) [] (mean steps q []) (mean_nothing steps q) ∙ calls_none steps q
  calls_none (Log plan ∷ steps) q = starved_rest (λ left. run_calls which steps q left) [] (mean steps q []) (mean_nothing steps q) ∙ calls_none steps q
  calls_none (Dns64 d ∷ steps) q = dns64_none (λ p left. run_calls which steps p left) d q (calls_none steps) (mean steps) (mean_nothing steps q) (translates d q) refl
  calls_none (Cache plan ∷ steps) q = untold which (number_in which (Cache plan ∷ steps) q)
  calls_none (Rewrite ds ∷ steps) q = untold which (number_in which (Rewrite ds ∷ steps) q)
  calls_none (Answers plugin ∷ steps) q = untold which (number_in which (Answers plugin ∷ steps) q)
  calls_none (Others says ∷ steps) q = untold which (number_in which (Others says ∷ steps) q)

-- one step for all extras of a block takes the same as one for each
shards_together : (said : Sayings) (ds : List Directive) (back : List Step) (q : Query) → shard_in back q ≡ shard_in (extra_steps said ds ++ back) q
shards_together said [] back q = refl
shards_together said (d ∷ ds) back q = shards_together said ds back q

pools_together : (said : Sayings) (ds : List Directive) (back : List Step) (q : Query) → pool_in back q ≡ pool_in (extra_steps said ds ++ back) q
pools_together said [] back q = refl
pools_together said (d ∷ ds) back q = pools_together said ds back q

shards_front : (a b front : List Step) → ((q : Query) → shard_in a q ≡ shard_in b q) → (q : Query) → shard_in (front ++ a) q ≡ shard_in (front ++ b) q
shards_front a b [] same q = same q
shards_front a b (Errors ∷ front) same q = shards_front a b front same q
shards_front a b (Log plan ∷ front) same q = shards_front a b front same q
shards_front a b (Dns64 d ∷ front) same q = shards_front a b front same q
shards_front a b (Cache plan ∷ front) same q = refl
shards_front a b (Rewrite ds ∷ front) same q = shards_front a b front same q
shards_front a b (Answers plugin ∷ front) same q = shards_front a b front same q
shards_front a b (Others says ∷ front) same q = shards_front a b front same q

pools_front : (a b front : List Step) → ((q : Query) → pool_in a q ≡ pool_in b q) → (q : Query) → pool_in (front ++ a) q ≡ pool_in (front ++ b) q
pools_front a b [] same q = same q
pools_front a b (Errors ∷ front) same q = pools_front a b front same q
pools_front a b (Log plan ∷ front) same q = pools_front a b front same q
pools_front a b (Dns64 d ∷ front) same q = pools_front a b front same q
pools_front a b (Cache plan ∷ front) same q = pools_front a b front same q
pools_front a b (Rewrite ds ∷ front) same q = pools_front a b front same (changed_by ds q).query
pools_front a b (Answers (Acl plans) ∷ front) same q = pools_front a b front same q
pools_front a b (Answers Any ∷ front) same q = pools_front a b front same q
pools_front a b (Answers (Template plans) ∷ front) same q = pools_front a b front same q
pools_front a b (Answers (Hosts plan) ∷ front) same q = pools_front a b front same q
pools_front a b (Answers (File plans) ∷ front) same q = pools_front a b front same q
pools_front a b (Answers (Forward plans) ∷ front) same q = refl
pools_front a b (Answers Whoami ∷ front) same q = pools_front a b front same q
pools_front a b (Others says ∷ front) same q = pools_front a b front same q

-- and calls it the same
module _ (said : Sayings) (ds : List Directive) (back : List Step) where
  abbrev one : List Step
  one = Others (extras_say said ds) ∷ back

  abbrev each : List Step
  each = extra_steps said ds ++ back

  pub numbers-extras : (which : Shared) (front : List Step) (q : Query) → number_in which (front ++ one) q ≡ number_in which (front ++ each) q
  numbers-extras Shards front q = shards_front one each front (shards_together said ds back) q
  numbers-extras Pools front q = pools_front one each front (pools_together said ds back) q

  behind_calls : (which : Shared) (front : List Step) (q : Query) (marks : List Mark)
      → of_number (number_in which (front ++ one) q) (told_in which marks) ≡ of_number (number_in which (front ++ each) q) (told_in which marks)
  behind_calls which front q marks = ap (λ (n : Option ℕ). of_number n (told_in which marks)) (numbers-extras which front q)

  means_same : (front : List Step) → mean (front ++ one) ≡ mean (front ++ each)
  means_same front = behind_front one each front (together said ds back)

once_extras : (said : Sayings) (ds : List Directive) (back : List Step) → runs_once back ≡ true → runs_once (extra_steps said ds ++ back) ≡ true
once_extras said [] back once = once
once_extras said (d ∷ ds) back once = refl

module _ (said : Sayings) (ds : List Directive) (back : List Step) (once : runs_once back ≡ true) (which : Shared) where
  calls_front : (front : List Step) → run_calls which (front ++ one said ds back) ≡ run_calls which (front ++ each said ds back)
  calls_front [] = λ i q marks. (behind_calls said ds back which [] q marks ∙ sym (once_calls which (each said ds back) q marks (once_extras said ds back once))) i
  calls_front (Errors ∷ front) = λ i q marks. of_rest (λ left. calls_front front i q left) marks (means_same said ds back front i q marks)
  calls_front (Log plan ∷ front) = λ i q marks. of_rest (λ left. calls_front front i q left) marks (means_same said ds back front i q marks)
  calls_front (Dns64 d ∷ front) = λ i q marks. dns64_calls (λ p left. calls_front front i p left) d q (means_same said ds back front i) marks
  calls_front (Cache plan ∷ front) = λ i q marks. behind_calls said ds back which (Cache plan ∷ front) q marks i
  calls_front (Rewrite rules ∷ front) = λ i q marks. behind_calls said ds back which (Rewrite rules ∷ front) q marks i
  calls_front (Answers plugin ∷ front) = λ i q marks. behind_calls said ds back which (Answers plugin ∷ front) q marks i
  calls_front (Others says ∷ front) = λ i q marks. behind_calls said ds back which (Others says ∷ front) q marks i

  pub calls-extras : (front : List Step) (q : Query) (marks : List Mark) → run_calls which (front ++ one said ds back) q marks ≡ run_calls which (front ++ each said ds back) q marks
  calls-extras front q marks = λ i. calls_front front i q marks
