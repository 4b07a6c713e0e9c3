-- What a walk took and logged, run by run: one lemma for each way on.
use Rattle.std.proofs.Common.{◌≡◌, ◌∙◌, ℕ, Bool, true, false, List, [], ◌∷◌, ◌++◌, length, map, Option, Some, None, Result, Ok, Err, refl, sym, ap, subst, arith, if◌then◌else◌}
use Rattle.std.specs.Prelude.{IsErr, IfOk}
use Rattle.std.proofs.lemmas.List.{append-nil}
use Rattle.dns_lists.specs.declared.memory.NoMemory.{NoMemory}
use Rattle.dns_data.specs.Message.{AnswerData}
use Rattle.dns_data.specs.declared.directive.Directive.{Directive}
use Rattle.dns_data.specs.declared.query.Query.{Query}
use Rattle.dns64_plugin.specs.{a_query, ptr_query, translates}
use Rattle.outside.specs.Journals.{adds-nothing, adds-then}
use Rattle.outside.specs.Meanings.{Meaning, Done, Starved, onward}
use Rattle.outside.specs.States.{SideState}
use Rattle.outside.specs.TakingLaws.{stays-nothing, stays-then, took-as, took-starved, took-then}
use Rattle.outside.specs.declared.mark.Mark.{Mark}
use Rattle.plugin_api.specs.{PlanData}
use Rattle.chain_meaning.specs.CallsByRun.{Pools, Shards, Shared, number_in, numbers_in, of_rest, run_calls, runs_once}
use Rattle.chain_meaning.specs.CallsByRunLaws.{calls_none, noted_calls, once_calls, starved_rest}
use Rattle.chain_meaning.specs.Mean.{mean}
use Rattle.chain_meaning.specs.MeanLaws.{mean_nothing}
use Rattle.chain_meaning.specs.Steps.{Step, dns64_steps}
use Rattle.chain_meaning.specs.Translating.{bound_of, combined_in, dns64_means, pointed_by, pointed_in, second, second_by}
use Rattle.chain_meaning.specs.TranslatingCalls.{first_calls, pointed_calls, second_calls}
use Rattle.chain_meaning.specs.TranslatingCallsLaws.{both_calls, failed_calls}
use Rattle.chain_meaning.specs.TranslatingNothingLaws.{pointed_nothing, second_nothing}
use Rattle.chain_meaning.specs.declared.decision.Decision.{Decision}
use Rattle.chain_build.specs.Compiled.{front_of, middle_of}
use Rattle.chain_build.specs.LoggedWalks.{Runs, TakesBy, TakesCalls, TakesQuietly, TakeState, chain_runs, dns64_runs, pointed_runs, taking}
use Rattle.chain_build.specs.Logs.{logs_of}
use Rattle.chain_build.specs.Plans.{inner_of, others_of, rest_of, run_of}
use Rattle.chain_build.specs.Walking.{decided, decision_of}
use Rattle.chain_build.specs.WalkingLaws.{dns64-none, dns64-some}
use Rattle.chain_build.specs.declared.block.BlockChain.{BlockChain}
use Rattle.chain_build.specs.declared.block_chain.FrontAnswerer.{FrontAnswerer}
use Rattle.chain_build.specs.declared.block_chain.FrontStep.{FrontStep}
use Rattle.chain_build.specs.declared.block_chain.FrontStep.TheVariants as front
use Rattle.chain_build.specs.declared.block_uses.BlockUses.{BlockUses}
use Rattle.chain_build.specs.declared.ended.Ended.{Ended}
use Rattle.chain_build.proofs.Logging.{by_kind, called_as, called_by, called_none, called_then}
use Rattle.chain_build.proofs.LoggedWalks.{middle_number}

-- the same under other names
pub tc_as : {A : Type 0} (calls other : Runs) (means same : List Mark → Meaning A) {result : Result A NoMemory} {old new : TakeState} → ((which : Shared) (marks : List Mark) → other which marks ≡ calls which marks)
    → ((marks : List Mark) → same marks ≡ means marks) → TakesCalls calls means result old new → TakesCalls other same result old new
tc_as calls other means same {result = result} like so p = record {
  takes = record { marks = p.takes.marks; told = p.takes.told; stays = p.takes.stays; took = took-as means same result p.takes.marks so p.takes.took };
  logged = λ which. called_as (sym (like which p.takes.marks)) (p.logged which);
}

pub tc_nothing : {A : Type 0} (calls : Runs) (means : List Mark → Meaning A) {v : A} {s : SideState} {uses : BlockUses} → ((which : Shared) → calls which [] ≡ []) → ((left : List Mark) → means left ≡ Done v left)
    → TakesCalls calls means (Ok v) (taking s uses) (taking s uses)
tc_nothing calls means {s = s} {uses = uses} quiet so =
    record { takes = record { marks = []; told = adds-nothing s; stays = stays-nothing s; took = so }; logged = λ which. called_as (sym (quiet which)) (called_none (logs_of which uses)) }

pub tc_starved : {A : Type 0} (calls : Runs) (means : List Mark → Meaning A) {result : Result A NoMemory} {s : SideState} {uses : BlockUses} → IsErr result → ((which : Shared) → calls which [] ≡ []) → Starved (means [])
    → TakesCalls calls means result (taking s uses) (taking s uses)
tc_starved calls means {result = Ok v} fails quiet starved = absurd cc
tc_starved calls means {result = Err e} {s = s} {uses = uses} fails quiet starved =
    record { takes = record { marks = []; told = adds-nothing s; stays = stays-nothing s; took = starved }; logged = λ which. called_as (sym (quiet which)) (called_none (logs_of which uses)) }

-- by the calls of one run
number_is : (steps : List Step) (which : Shared) (q : Query) → number_in which steps q ≡ by_kind (numbers_in steps q) which
number_is steps Shards q = refl
number_is steps Pools q = refl

pub tc_once : {A : Type 0} (steps inner : List Step) (q : Query) {means : List Mark → Meaning A} {result : Result A NoMemory} {old new : TakeState} → runs_once steps ≡ true
    → ((which : Shared) → number_in which steps q ≡ number_in which inner q) → TakesBy (numbers_in inner q) means result old new → TakesCalls (chain_runs steps q) means result old new
tc_once steps inner q once same p = record {
  takes = p.takes;
  logged = λ which.
      called_as (sym (once_calls which steps q p.takes.marks once))
      (called_by (numbers_in inner q) which (number_in which steps q) p.takes.marks (same which ∙ number_is inner which q) p.logged);
}

-- and a note behind them
pub tc_noted : {B : Type 0} (calls : Runs) (means : List Mark → Meaning Decision) (next : Decision → List Mark → Meaning B) {v : Decision} {result : Result B NoMemory} {s t u : SideState} {old new : BlockUses}
    → TakesCalls calls means (Ok v) (taking s old) (taking t new) → TakesQuietly (next v) result t u
    → TakesCalls (λ which marks. of_rest (calls which) marks (means marks)) (λ marks. onward (means marks) next) result (taking s old) (taking u new)
tc_noted calls means next {v = v} {result = result} p q =
    let m = p.takes.marks in
    let n = q.takes.marks in
    record {
      takes = record {
        marks = p.takes.marks ++ q.takes.marks;
        told = adds-then p.takes.told q.takes.told;
        stays = stays-then p.takes.stays q.takes.stays;
        took = took-then means next v result p.takes.marks q.takes.marks p.takes.took q.takes.took;
      };
      logged = λ which. called_as (sym (noted_calls (calls which) m n (means (m ++ n)) v (p.takes.took n))) (p.logged which);
    }

pub tc_fails : {B : Type 0} (calls : Runs) (means : List Mark → Meaning Decision) (next : Decision → List Mark → Meaning B) {e : NoMemory} {result : Result B NoMemory} {old new : TakeState}
    → IsErr result → TakesCalls calls means (Err e) old new → ((v : Decision) → Starved (next v []))
    → TakesCalls (λ which marks. of_rest (calls which) marks (means marks)) (λ marks. onward (means marks) next) result old new
tc_fails calls means next {result = Ok v} fails p none = absurd cc
tc_fails calls means next {e} {result = Err f} fails p none = record {
  takes = record { marks = p.takes.marks; told = p.takes.told; stays = p.takes.stays; took = took-starved means next e f p.takes.marks p.takes.took none };
  logged = λ which. called_as (sym (starved_rest (calls which) p.takes.marks (means p.takes.marks) p.takes.took)) (p.logged which);
}

-- what stands behind `dns64` is one run, and its calls are those of what stands behind the extras
once_middle : (middle : List FrontAnswerer) (behind : List Step) → runs_once behind ≡ true → runs_once (map middle_of middle ++ behind) ≡ true
once_middle [] behind once = once
once_middle (plugin ∷ middle) behind once = refl

-- a run by a slice of the plugins there
module _ (chain : BlockChain) (slice : List FrontAnswerer) (q : Query) (are : slice ≡ chain.middle) where
  pub run_as : {says now : Query → Option Decision} {result : Result Decision NoMemory} {old new : TakeState} → now ≡ says
      → TakesBy (numbers_in (inner_of chain) q) (mean (map middle_of slice ++ others_of now chain) q) result old new → TakesCalls (chain_runs (run_of says chain) q) (mean (run_of says chain) q) result old new
  run_as {says} {now} {result} {old} {new} same p =
      tc_once (run_of says chain) (inner_of chain) q (once_middle chain.middle (others_of says chain) refl) (λ which. middle_number which chain.middle (others_of says chain) q ∙ other which)
      (subst (λ (m : List FrontAnswerer). TakesBy (numbers_in (inner_of chain) q) (mean (map middle_of m ++ others_of says chain) q) result old new) are
      (subst (λ (f : Query → Option Decision). TakesBy (numbers_in (inner_of chain) q) (mean (map middle_of slice ++ others_of f chain) q) result old new) same p))
    where
      other : (which : Shared) → number_in which (others_of says chain) q ≡ number_in which (inner_of chain) q
      other Shards = refl
      other Pools = refl

-- what is made of a decision of the rest
abbrev pub Calls : Type 0
Calls = Query → Runs

abbrev pub Rest : Type 0
Rest = Query → List Mark → Meaning Decision

if_is : {A : Type 0} (t b : Bool) (x y : A) → t ≡ b → (if t then x else y) ≡ (if b then x else y)
if_is t b x y is = ap (λ (s : Bool). if s then x else y) is

given_takes : (rest : Rest) (calls : Calls) (result : Result Ended NoMemory) (given : Decision → Decision) (o : Query) (w : Decision) (slot : AnswerData) {old new : TakeState}
    → TakesCalls (calls o) (rest o) (Ok w) old new → IfOk result (λ e. decision_of e slot ≡ given w)
    → TakesCalls (calls o) (λ marks. onward (rest o marks) (λ x more. Done (given x) more)) (decided result slot) old new
given_takes rest calls (Ok e) given o w slot run so = record {
  takes = record {
    marks = run.takes.marks;
    told = run.takes.told;
    stays = run.takes.stays;
    took = λ left. ap (λ (m : Meaning Decision). onward m (λ x more. Done (given x) more)) (run.takes.took left) ∙ ap (λ (x : Decision). Done x left) (sym so);
  };
  logged = run.logged;
}
given_takes rest calls (Err e) given o w slot run so =
    let end : rest o run.takes.marks ≡ Done w [] = ap (rest o) (sym (append-nil run.takes.marks)) ∙ run.takes.took [] in
    record {
      takes = record {
        marks = run.takes.marks;
        told = run.takes.told;
        stays = run.takes.stays;
        took = subst (λ (m : Meaning Decision). Starved (onward m (λ x more. Done (given x) more))) (sym end) refl;
      };
      logged = run.logged;
    }

given_fails : (rest : Rest) (calls : Calls) (given : Decision → Decision) (o : Query) (e : NoMemory) (result : Result Decision NoMemory) {old new : TakeState} → IsErr result → TakesCalls (calls o) (rest o) (Err e) old new
    → TakesCalls (calls o) (λ marks. onward (rest o marks) (λ x more. Done (given x) more)) result old new
given_fails rest calls given o e (Ok v) fails run = absurd cc
given_fails rest calls given o e (Err f) fails run = record {
  takes = record {
    marks = run.takes.marks;
    told = run.takes.told;
    stays = run.takes.stays;
    took = took-starved (rest o) (λ x more. Done (given x) more) e f run.takes.marks run.takes.took (λ v. refl);
  };
  logged = run.logged;
}

-- at `dns64`
module _ (steps : List Step) (d : Directive) (q : Query) where
  abbrev pub rest : Rest
  rest = mean steps

  abbrev pub calls : Calls
  calls = chain_runs steps

  abbrev pub second_runs : Option ℕ → Runs
  second_runs bound which marks = second_calls (run_calls which steps) d q bound marks

  twice_means : (both : translates d q ≡ true) (marks : List Mark) → dns64_means rest d q marks ≡ onward (rest q marks) (second rest d q)
  twice_means both marks = if_is (translates d q) true (onward (rest q marks) (second rest d q)) (pointed_by rest d q (ptr_query d q) marks) both

  abbrev pub Twice : Result Decision NoMemory → TakeState → TakeState → Type 0
  Twice result old new = TakesCalls (dns64_runs steps d q) (dns64_means rest d q) result old new

  -- both runs
  pub twice_takes : (both : translates d q ≡ true) {v : Decision} {result : Result Decision NoMemory} {old mid new : TakeState} → TakesCalls (calls q) (rest q) (Ok v) old mid
      → TakesCalls (second_runs (bound_of v)) (second_by rest d q v (bound_of v)) result mid new → Twice result old new
  twice_takes both {v = v} {result = result} p s =
      let m = p.takes.marks in
      let n = s.takes.marks in
      record {
        takes = record {
          marks = p.takes.marks ++ s.takes.marks;
          told = adds-then p.takes.told s.takes.told;
          stays = stays-then p.takes.stays s.takes.stays;
          took = took-as (λ marks. onward (rest q marks) (second rest d q)) (dns64_means rest d q) result (p.takes.marks ++ s.takes.marks) (twice_means both)
              (took-then (rest q) (second rest d q) v result p.takes.marks s.takes.marks p.takes.took s.takes.took);
        };
        logged = λ which. called_as (sym (both_calls (run_calls which steps) rest d q both v m n (p.takes.took n))) (called_then (p.logged which) (s.logged which));
      }

  -- a first run that ran out of memory
  pub twice_fails : (both : translates d q ≡ true) {e : NoMemory} (result : Result Decision NoMemory) {old new : TakeState} → IsErr result → TakesCalls (calls q) (rest q) (Err e) old new → Twice result old new
  twice_fails both (Ok v) fails p = absurd cc
  twice_fails both {e = e} (Err f) fails p = record {
    takes = record {
      marks = p.takes.marks;
      told = p.takes.told;
      stays = p.takes.stays;
      took = took-as (λ marks. onward (rest q marks) (second rest d q)) (dns64_means rest d q) (Err f) p.takes.marks (twice_means both)
          (took-starved (rest q) (second rest d q) e f p.takes.marks p.takes.took (λ v. second_nothing rest d q (mean_nothing steps) v (bound_of v)));
    };
    logged = λ which. called_as (sym (failed_calls (run_calls which steps) rest d q both (calls_none which steps) p.takes.marks p.takes.took)) (p.logged which);
  }

  abbrev pub Seconds : Option ℕ → Decision → Result Decision NoMemory → TakeState → TakeState → Type 0
  Seconds bound v result old new = TakesCalls (second_runs bound) (second_by rest d q v bound) result old new

  -- the first decision stands
  pub second_stands : (v : Decision) {s : SideState} {uses : BlockUses} → bound_of v ≡ None → Seconds (bound_of v) v (Ok v) (taking s uses) (taking s uses)
  second_stands v {s} {uses} is =
      subst (λ (b : Option ℕ). Seconds b v (Ok v) (taking s uses) (taking s uses)) (sym is) (tc_nothing (second_runs None) (second_by rest d q v None) (λ which. refl) (λ left. refl))

  -- no memory for the second query
  pub second_starved : (v : Decision) (bound : ℕ) (result : Result Decision NoMemory) {s : SideState} {uses : BlockUses} → bound_of v ≡ Some bound → IsErr result → Seconds (bound_of v) v result (taking s uses) (taking s uses)
  second_starved v bound result {s} {uses} is fails =
      subst (λ (b : Option ℕ). Seconds b v result (taking s uses) (taking s uses)) (sym is)
      (tc_starved (second_runs (Some bound)) (second_by rest d q v (Some bound)) fails (λ which. calls_none which steps (a_query q)) (second_nothing rest d q (mean_nothing steps) v (Some bound)))

  -- a second run that ran out of memory
  pub second_fails : (v : Decision) (other : Query) (bound : ℕ) {e : NoMemory} (result : Result Decision NoMemory) {old new : TakeState} → bound_of v ≡ Some bound → other ≡ a_query q → IsErr result
      → TakesCalls (calls other) (rest other) (Err e) old new → Seconds (bound_of v) v result old new
  second_fails v other bound {e = e} result {old = old} {new = new} is asked fails p =
      subst (λ (b : Option ℕ). Seconds b v result old new) (sym is)
      (given_fails rest calls (combined_in d bound) (a_query q) e result fails (subst (λ (o : Query). TakesCalls (calls o) (rest o) (Err e) old new) asked p))

  -- the second run, combined
  pub second_takes : (v : Decision) (other : Query) (bound : ℕ) (w : Decision) (result : Result Ended NoMemory) (slot : AnswerData) {old new : TakeState} → bound_of v ≡ Some bound → other ≡ a_query q
      → TakesCalls (calls other) (rest other) (Ok w) old new → IfOk result (λ e. decision_of e slot ≡ combined_in d bound w) → Seconds (bound_of v) v (decided result slot) old new
  second_takes v other bound w result slot {old = old} {new = new} is asked p last =
      subst (λ (b : Option ℕ). Seconds b v (decided result slot) old new) (sym is)
      (given_takes rest calls result (combined_in d bound) (a_query q) w slot (subst (λ (o : Query). TakesCalls (calls o) (rest o) (Ok w) old new) asked p) last)

  -- the rest for the name of an address of IPv4
  pub pointed_fails : (inner : Query) {e : NoMemory} (result : Result Decision NoMemory) {old new : TakeState} → IsErr result → TakesCalls (calls inner) (rest inner) (Err e) old new
      → TakesCalls (pointed_runs steps d q (Some inner)) (pointed_by rest d q (Some inner)) result old new
  pointed_fails inner {e = e} result fails p = given_fails rest calls (pointed_in q inner) inner e result fails p

  pub pointed_takes : (inner : Query) (w : Decision) (result : Result Ended NoMemory) (slot : AnswerData) {old new : TakeState} → TakesCalls (calls inner) (rest inner) (Ok w) old new
      → IfOk result (λ e. decision_of e slot ≡ pointed_in q inner w)
      → TakesCalls (pointed_runs steps d q (Some inner)) (pointed_by rest d q (Some inner)) (decided result slot) old new
  pointed_takes inner w result slot p last = given_takes rest calls result (pointed_in q inner) inner w slot p last

  -- once, under that name or the client's
  pub once_takes : {result : Result Decision NoMemory} {old new : TakeState} (inner : Option Query) → translates d q ≡ false → ptr_query d q ≡ inner
      → TakesCalls (pointed_runs steps d q inner) (pointed_by rest d q inner) result old new → Twice result old new
  once_takes inner once is p =
      tc_as (pointed_runs steps d q inner) (dns64_runs steps d q) (pointed_by rest d q inner) (dns64_means rest d q)
      (λ which marks. if_is (translates d q) false (first_calls (run_calls which steps) d q marks (rest q marks)) (pointed_calls (run_calls which steps) d q (ptr_query d q) marks) once
      ∙ ap (λ (o : Option Query). pointed_calls (run_calls which steps) d q o marks) is)
      (λ marks. if_is (translates d q) false (onward (rest q marks) (second rest d q)) (pointed_by rest d q (ptr_query d q) marks) once ∙ ap (λ (o : Option Query). pointed_by rest d q o marks) is) p

  quiet_by : (o : Option Query) (which : Shared) → pointed_runs steps d q o which [] ≡ []
  quiet_by None which = calls_none which steps q
  quiet_by (Some inner) which = calls_none which steps inner

  -- no memory for the other name
  pub once_starved : (result : Result Decision NoMemory) {s : SideState} {uses : BlockUses} → translates d q ≡ false → IsErr result → Twice result (taking s uses) (taking s uses)
  once_starved result once fails =
      once_takes (ptr_query d q) once refl
      (tc_starved (pointed_runs steps d q (ptr_query d q)) (pointed_by rest d q (ptr_query d q)) fails (quiet_by (ptr_query d q)) (pointed_nothing rest d q (mean_nothing steps) (ptr_query d q)))

-- at the steps that note
module _ {steps : List FrontStep} (step : FrontStep) (more : List FrontStep) (behind : List Step) (q : Query) (first : steps ≡ step ∷ more) where
  calls_first : (is : FrontStep) → step ≡ is → (which : Shared) (marks : List Mark) → run_calls which (map front_of steps ++ behind) q marks ≡ run_calls which (front_of is ∷ (map front_of more ++ behind)) q marks
  calls_first is f which marks =
      ap (λ (s : List FrontStep). run_calls which (map front_of s ++ behind) q marks) first ∙ ap (λ (s : FrontStep). run_calls which (front_of s ∷ (map front_of more ++ behind)) q marks) f

  pub front_calls_errors : step ≡ front.Errors → (which : Shared) (marks : List Mark)
      → run_calls which (map front_of steps ++ behind) q marks ≡ of_rest (run_calls which (map front_of more ++ behind) q) marks (mean (map front_of more ++ behind) q marks)
  front_calls_errors f which marks = calls_first front.Errors f which marks

  pub front_calls_log : (plan : PlanData) → step ≡ front.Log plan → (which : Shared) (marks : List Mark)
      → run_calls which (map front_of steps ++ behind) q marks ≡ of_rest (run_calls which (map front_of more ++ behind) q) marks (mean (map front_of more ++ behind) q marks)
  front_calls_log plan f which marks = calls_first (front.Log plan) f which marks

no_front : (steps : List FrontStep) → length steps ≡ 0 → steps ≡ []
no_front [] e = refl
no_front (step ∷ steps) e = absurd (omega (arith, e))

pub front_calls_end : (steps : List FrontStep) (behind : List Step) (q : Query) → length steps ≡ 0 → (which : Shared) (marks : List Mark) → run_calls which (map front_of steps ++ behind) q marks ≡ run_calls which behind q marks
front_calls_end steps behind q e which marks = ap (λ (s : List FrontStep). run_calls which (map front_of s ++ behind) q marks) (no_front steps e)

-- the walk at `dns64` of a chain, where it doesn't stand and where it does
module _ (says : Query → Option Decision) (chain : BlockChain) (q : Query) where
  abbrev pub Walked : Result Decision NoMemory → TakeState → TakeState → Type 0
  Walked result old new = TakesCalls (chain_runs (rest_of says chain) q) (mean (rest_of says chain) q) result old new

  pub walked_none : {result : Result Decision NoMemory} {old new : TakeState} → chain.dns64 ≡ None → TakesCalls (chain_runs (run_of says chain) q) (mean (run_of says chain) q) result old new → Walked result old new
  walked_none none p =
      tc_as (chain_runs (run_of says chain) q) _ (mean (run_of says chain) q) _ (λ which marks. ap (λ (o : Option Directive). run_calls which (dns64_steps o ++ run_of says chain) q marks) none)
      (dns64-none chain.dns64 (run_of says chain) q none) p

  pub walked_some : (d : Directive) {result : Result Decision NoMemory} {old new : TakeState} → chain.dns64 ≡ Some d → Twice (run_of says chain) d q result old new → Walked result old new
  walked_some d some p =
      tc_as (dns64_runs (run_of says chain) d q) _ (dns64_means (mean (run_of says chain)) d q) _ (λ which marks. ap (λ (o : Option Directive). run_calls which (dns64_steps o ++ run_of says chain) q marks) some)
      (dns64-some chain.dns64 d (run_of says chain) q some) p

-- a walk by a slice of the steps that note, as what the whole chain means
module _ (chain : BlockChain) (q : Query) {slice : List FrontStep} (are : slice ≡ chain.front) where
  pub front_takes : {says now : Query → Option Decision} {result : Result Decision NoMemory} {old new : TakeState} → now ≡ says → (steps : List Step) {means : List Mark → Meaning Decision}
      → ((which : Shared) (marks : List Mark) → run_calls which steps q marks ≡ run_calls which (map front_of chain.front ++ rest_of says chain) q marks)
      → ((marks : List Mark) → means marks ≡ mean (map front_of chain.front ++ rest_of says chain) q marks)
      → TakesCalls (chain_runs (map front_of slice ++ rest_of now chain) q) (mean (map front_of slice ++ rest_of now chain) q) result old new → TakesCalls (chain_runs steps q) means result old new
  front_takes {says} {now} {result} {old} {new} same steps like so p =
      tc_as (chain_runs (map front_of chain.front ++ rest_of says chain) q) (chain_runs steps q) (mean (map front_of chain.front ++ rest_of says chain) q) _ like so
      (subst (λ (f : List FrontStep). TakesCalls (chain_runs (map front_of f ++ rest_of says chain) q) (mean (map front_of f ++ rest_of says chain) q) result old new) are
      (subst (λ (f : Query → Option Decision). TakesCalls (chain_runs (map front_of slice ++ rest_of f chain) q) (mean (map front_of slice ++ rest_of f chain) q) result old new) same p))
