-- What a walk took and logged: one lemma for each way on.
use Rattle.std.proofs.Common.{◌≡◌, ◌≢◌, ◌<◌, nat_eq, Bool, true, false, if◌then◌else◌, ℕ, List, [], ◌∷◌, ◌++◌, map, length, Option, Some, None, Result, Ok, Err, refl, sym, ap, subst, ◌∙◌, arith}
use Rattle.std.specs.Prelude.{IsErr, OnOk}
use Rattle.std.proofs.lemmas.List.{map-append}
use Rattle.dns_lists.specs.declared.memory.NoMemory.{NoMemory}
use Rattle.dns_data.specs.Message.{AnswerData}
use Rattle.dns_data.specs.declared.directive.Directive.{Directive}
use Rattle.dns_data.specs.declared.query.Query.{Query}
use Rattle.outside.specs.Meanings.{Meaning, Done, Off, Starved, Took, onward}
use Rattle.outside.specs.States.{SideState}
use Rattle.outside.specs.Journals.{adds-nothing, adds-then}
use Rattle.outside.specs.Kept.{Keeps}
use Rattle.outside.specs.Marks.{Adds}
use Rattle.outside.specs.TakingLaws.{keeps-nothing, keeps-then, stays-nothing, stays-then, took-as, took-starved, took-then}
use Rattle.outside.specs.declared.entry.InnerMark.{InnerMark}
use Rattle.outside.specs.declared.kept.Kept.{Kept}
use Rattle.outside.specs.declared.mark.Mark.{Mark}
use Rattle.outside.specs.declared.mark.Mark.TheVariants.{Inner}
use Rattle.forward_plugin.specs.{ForwardData, Forwards, SameBut, calls_by, forward_means, pool_place, said, state_at}
use Rattle.forward_plugin.specs.Taking.{said_of}
use Rattle.forward_plugin.specs.declared.pool_use.PoolUse.{PoolUse}
use Rattle.forward_plugin.specs.declared.say.ForwardSay.{ForwardSay}
use Rattle.one_history.specs.Shared.{Logged, cache_calls_in, pool_calls_in}
use Rattle.outside.specs.Marks.{noted}
use Rattle.outside.specs.States.{Stays}
use Rattle.outside.specs.declared.datagram.Wrote.{Wrote}
use Rattle.plain_plugins.specs.{error_line, log_line, plain_zones}
use Rattle.plugin_api.specs.{PlanData}
use Rattle.plugin_api.specs.declared.verdict.Cause.{Cause}
use Rattle.plugin_api.specs.declared.verdict.Code.{Code}
use Rattle.std.specs.Bool.{Decides}
use Rattle.std.specs.Cmp.{unsigned_Decides}
use Rattle.std.specs.Cmp.Lexicographic.{pointwise}
use Rattle.std.proofs.lemmas.Slice.Eq.{slice_eq-Decides}
use Rattle.zone_words.specs.{is_in}
use Rattle.chain_meaning.specs.declared.decision.Decision.TheVariants as decision
use Rattle.chain_build.specs.declared.ended.Ended.TheVariants as end
use Rattle.rewrite_plugin.specs.{changed_by}
use Rattle.rewrite_plugin.specs.declared.plan_data.Changed.{Changed}
use Rattle.chain_meaning.specs.CallsByRun.{CallNumbers, Pools, Shards, Shared, number_in, pool_in, shard_in}
use Rattle.chain_build.specs.declared.block_uses.BlockUses.{BlockUses}
use Rattle.lent_caches.specs.declared.uses.LentCache.{LentCache}
use Rattle.chain_meaning.specs.declared.decision.Decision.{Decision}
use Rattle.chain_meaning.specs.Mean.{answer_of, error_noted, forward_answer, forward_answered, mean, or_rest, outcome_of, query_noted, reply_restored, take_note}
use Rattle.chain_meaning.specs.MeanLaws.{answer_nothing, mean_nothing, or_rest_nothing}
use Rattle.chain_meaning.specs.Steps.{Answerer, Forward, Step, Others}
use Rattle.chain_build.specs.Compiled.{back_of, back_steps, middle_of}
use Rattle.chain_build.specs.LoggedWalks.{AsksBy, AskState, TakesBy, TakesQuietly, TakeState, UsesLogged, asking, taking}
use Rattle.chain_build.specs.Logs.{pool_logs, shard_logs}
use Rattle.chain_build.specs.Pools.{HasLoneForward, HasNoForward}
use Rattle.chain_build.specs.Walking.{Answered, Restored, answered, decided, decision_of}
use Rattle.chain_build.specs.declared.block_chain.BackAnswerer.{BackAnswerer}
use Rattle.chain_build.specs.declared.block_chain.BackAnswerer.TheVariants as behind
use Rattle.chain_build.specs.declared.block_chain.FrontAnswerer.TheVariants as before
use Rattle.chain_build.specs.declared.block_chain.FrontAnswerer.{FrontAnswerer}
use Rattle.chain_build.specs.declared.ended.Ended.{Ended}
use Rattle.chain_build.specs.declared.given.Given.{Given}
use Rattle.chain_build.specs.Giving.{gave}
use Rattle.chain_build.proofs.Logging.{calls_then, inners_apart, inners_then, logged_any, logged_as, logged_by, logged_forward, logged_nothing, logged_quiet, logged_then, shards_then}
use Rattle.chain_build.proofs.Walks.{gave-err, others}

-- the calls that inner marks tell, one after another
behind_logged : (number : Option ℕ) (a b : List InnerMark) {x y z : List (List Mark)} → Logged number (pool_calls_in (map Inner a)) x y → Logged number (pool_calls_in (map Inner b)) y z
    → Logged number (pool_calls_in (map Inner (a ++ b))) x z
behind_logged number a b p q = logged_as number (sym (inners_then a b)) (logged_then number p q)

-- the same under other names
pub by_as : {A : Type 0} {number other : Option ℕ} (means same : List Mark → Meaning A) {result : Result A NoMemory} {old new : AskState} → number ≡ other → ((marks : List Mark) → same marks ≡ means marks)
    → AsksBy number means result old new → AsksBy other same result old new
by_as means same {result = result} is so p = record {
  asks = record { inners = p.asks.inners; told = p.asks.told; stays = p.asks.stays; kept = p.asks.kept; took = took-as means same result (map Inner p.asks.inners) so p.asks.took };
  logged = logged_by is p.logged;
}

pub by_nothing : {A : Type 0} (number : Option ℕ) (means : List Mark → Meaning A) {v : A} {s : SideState} {k : Kept} {uses : List PoolUse} → ((left : List Mark) → means left ≡ Done v left)
    → AsksBy number means (Ok v) (asking s k uses) (asking s k uses)
by_nothing number means {s = s} {k = k} {uses = uses} so = record {
  asks = record { inners = []; told = adds-nothing s; stays = stays-nothing s; kept = keeps-nothing k; took = so };
  logged = logged_nothing number (pool_logs uses);
}

pub by_starved : {A : Type 0} (number : Option ℕ) (means : List Mark → Meaning A) {result : Result A NoMemory} {s : SideState} {k : Kept} {uses : List PoolUse} → IsErr result → Starved (means [])
    → AsksBy number means result (asking s k uses) (asking s k uses)
by_starved number means {result = Ok v} fails starved = absurd cc
by_starved number means {result = Err e} {s = s} {uses = uses} fails starved = record {
  asks = record { inners = []; told = adds-nothing s; stays = stays-nothing s; kept = tt; took = starved };
  logged = logged_nothing number (pool_logs uses);
}

kept_behind : {B : Type 0} (a b c : Kept) (xs ys : List InnerMark) (result : Result B NoMemory) → Keeps a b xs → OnOk result (Keeps b c ys) → OnOk result (Keeps a c (xs ++ ys))
kept_behind a b c xs ys (Ok w) p q = keeps-then a b c xs ys p q
kept_behind a b c xs ys (Err e) p q = tt

pub by_then : {A B : Type 0} {number : Option ℕ} (means : List Mark → Meaning A) (next : A → List Mark → Meaning B) {v : A} {result : Result B NoMemory} {old mid new : AskState}
    → AsksBy number means (Ok v) old mid → AsksBy number (next v) result mid new → AsksBy number (λ marks. onward (means marks) next) result old new
by_then {number = number} means next {v} {result} {old} {mid} {new} p q =
    let e = map-append Inner p.asks.inners q.asks.inners in
    record {
      asks = record {
        inners = p.asks.inners ++ q.asks.inners;
        told = subst (λ m. Adds old.side new.side m) (sym e) (adds-then p.asks.told q.asks.told);
        stays = stays-then p.asks.stays q.asks.stays;
        kept = kept_behind old.kept mid.kept new.kept p.asks.inners q.asks.inners result p.asks.kept q.asks.kept;
        took = subst (λ m. Took (λ marks. onward (means marks) next) result m) (sym e) (took-then means next v result (map Inner p.asks.inners) (map Inner q.asks.inners) p.asks.took q.asks.took);
      };
      logged = behind_logged number p.asks.inners q.asks.inners p.logged q.logged;
    }

pub by_fails : {A B : Type 0} {number : Option ℕ} (means : List Mark → Meaning A) (next : A → List Mark → Meaning B) {e : NoMemory} {result : Result B NoMemory} {old new : AskState}
    → IsErr result → AsksBy number means (Err e) old new → ((v : A) → Starved (next v [])) → AsksBy number (λ marks. onward (means marks) next) result old new
by_fails means next {result = Ok v} fails p none = absurd cc
by_fails means next {e} {result = Err f} fails p none = record {
  asks = record { inners = p.asks.inners; told = p.asks.told; stays = p.asks.stays; kept = tt; took = took-starved means next e f (map Inner p.asks.inners) p.asks.took none };
  logged = p.logged;
}

-- which pool the steps behind a cache take
none_place : (rest : List BackAnswerer) (q : Query) → HasNoForward (map back_of rest) → pool_in (map back_of rest) q ≡ None
none_place [] q none = refl
none_place (behind.Template plans ∷ rest) q none = none_place rest q none
none_place (behind.Hosts plan ∷ rest) q none = none_place rest q none
none_place (behind.File plans ∷ rest) q none = none_place rest q none
none_place (behind.Forward plans ∷ rest) q none = absurd cc
none_place (behind.Whoami ∷ rest) q none = none_place rest q none

none_lone : (rest : List BackAnswerer) → HasNoForward (map back_of rest) → HasLoneForward (map back_of rest)
none_lone [] none = refl
none_lone (behind.Template plans ∷ rest) none = none_lone rest none
none_lone (behind.Hosts plan ∷ rest) none = none_lone rest none
none_lone (behind.File plans ∷ rest) none = none_lone rest none
none_lone (behind.Forward plans ∷ rest) none = absurd cc
none_lone (behind.Whoami ∷ rest) none = none_lone rest none

lone_more : (plugin : BackAnswerer) (rest : List BackAnswerer) → HasLoneForward (map back_of (plugin ∷ rest)) → HasLoneForward (map back_of rest)
lone_more (behind.Template plans) rest lone = lone
lone_more (behind.Hosts plan) rest lone = lone
lone_more (behind.File plans) rest lone = lone
lone_more (behind.Forward plans) rest lone = none_lone rest lone
lone_more behind.Whoami rest lone = lone

pub lone_rest : {steps : List BackAnswerer} (plugin : BackAnswerer) (rest : List BackAnswerer) → steps ≡ plugin ∷ rest → HasLoneForward (map back_of steps) → HasLoneForward (map back_of rest)
lone_rest plugin rest is lone = lone_more plugin rest (subst (λ (s : List BackAnswerer). HasLoneForward (map back_of s)) is lone)

first_number : (plugin : BackAnswerer) (rest : List BackAnswerer) (q : Query) {calls : List Mark} {x y : List (List Mark)} → Logged (pool_in (back_of plugin ∷ []) q) calls x y
    → Logged (pool_in (map back_of (plugin ∷ rest)) q) calls x y
first_number (behind.Template plans) rest q p = logged_any None _ refl p
first_number (behind.Hosts plan) rest q p = logged_any None _ refl p
first_number (behind.File plans) rest q p = logged_any None _ refl p
first_number (behind.Forward plans) rest q p = p
first_number behind.Whoami rest q p = logged_any None _ refl p

rest_number : (plugin : BackAnswerer) (rest : List BackAnswerer) (q : Query) {calls : List Mark} {x y : List (List Mark)} → HasLoneForward (map back_of (plugin ∷ rest)) → Logged (pool_in (map back_of rest) q) calls x y
    → Logged (pool_in (map back_of (plugin ∷ rest)) q) calls x y
rest_number (behind.Template plans) rest q lone p = p
rest_number (behind.Hosts plan) rest q lone p = p
rest_number (behind.File plans) rest q lone p = p
rest_number (behind.Forward plans) rest q lone p = logged_any (pool_in (map back_of rest) q) (pool_place plans q.name) (none_place rest q lone) p
rest_number behind.Whoami rest q lone p = p

module _ {steps : List BackAnswerer} (plugin : BackAnswerer) (rest : List BackAnswerer) (q : Query) (is : steps ≡ plugin ∷ rest) where
  -- by the first of the steps, and by those behind it
  pub by_first : {A : Type 0} {means : List Mark → Meaning A} {result : Result A NoMemory} {old new : AskState} → AsksBy (pool_in (back_of plugin ∷ []) q) means result old new
      → AsksBy (pool_in (map back_of steps) q) means result old new
  by_first {means = means} {result = result} {old = old} {new = new} p =
      subst (λ (s : List BackAnswerer). AsksBy (pool_in (map back_of s) q) means result old new) (sym is) (record { asks = p.asks; logged = first_number plugin rest q p.logged })

  pub by_rest : {A : Type 0} {means : List Mark → Meaning A} {result : Result A NoMemory} {old new : AskState} → HasLoneForward (map back_of steps) → AsksBy (pool_in (map back_of rest) q) means result old new
      → AsksBy (pool_in (map back_of steps) q) means result old new
  by_rest {means = means} {result = result} {old = old} {new = new} lone p =
      subst (λ (s : List BackAnswerer). AsksBy (pool_in (map back_of s) q) means result old new) (sym is)
      (record { asks = p.asks; logged = rest_number plugin rest q (subst (λ (s : List BackAnswerer). HasLoneForward (map back_of s)) is lone) p.logged })

no_rules : (ds : List Directive) → length ds ≡ 0 → ds ≡ []
no_rules [] e = refl
no_rules (d ∷ ds) e = absurd (omega (arith, e))

pub behind_none_pool : (ds : List Directive) (back : List BackAnswerer) (q : Query) → length ds ≡ 0 → pool_in (map back_of back) q ≡ pool_in (back_steps ds back) q
behind_none_pool ds back q e = ap (λ (rules : List Directive). pool_in (back_steps rules back) q) (sym (no_rules ds e))

pub behind_rules_pool : (ds : List Directive) (back : List BackAnswerer) (q : Query) → 0 < length ds → pool_in (map back_of back) (changed_by ds q).query ≡ pool_in (back_steps ds back) q
behind_rules_pool [] back q h = absurd (omega (arith, h))
behind_rules_pool (d ∷ ds) back q h = refl

-- what stands in front of the extras takes none
middle_shard : (middle : List FrontAnswerer) (behind : List Step) (q : Query) → shard_in (map middle_of middle ++ behind) q ≡ shard_in behind q
middle_shard [] behind q = refl
middle_shard (plugin ∷ steps) behind q = middle_shard steps behind q

middle_pool : (middle : List FrontAnswerer) (behind : List Step) (q : Query) → pool_in (map middle_of middle ++ behind) q ≡ pool_in behind q
middle_pool [] behind q = refl
middle_pool (before.Acl plans ∷ steps) behind q = middle_pool steps behind q
middle_pool (before.Any ∷ steps) behind q = middle_pool steps behind q

pub middle_number : (which : Shared) (middle : List FrontAnswerer) (behind : List Step) (q : Query) → number_in which (map middle_of middle ++ behind) q ≡ number_in which behind q
middle_number Shards middle behind q = middle_shard middle behind q
middle_number Pools middle behind q = middle_pool middle behind q

-- a plugin that takes no marks
answered_so : (number : Option ℕ) (plugin : Answerer) (q : Query) (old new : AnswerData) (r : Result (Option Ended) NoMemory) {s : SideState} {k : Kept} {uses : List PoolUse}
    → Answered plugin q old new r → AsksBy number (answer_of plugin q) (answered r new) (asking s k uses) (asking s k uses)
answered_so number plugin q old new (Ok None) h = by_nothing number (answer_of plugin q) h.1
answered_so number plugin q old new (Ok (Some e)) h = by_nothing number (answer_of plugin q) h
answered_so number plugin q old new (Err e) h = by_starved number (answer_of plugin q) refl (answer_nothing plugin q)

pub by_answered : (number : Option ℕ) (plugin : Answerer) (q : Query) (old new : AnswerData) (r : Result (Option Ended) NoMemory) {s : SideState} {k l : Kept} {uses : List PoolUse}
    → Answered plugin q old new r → l ≡ k → AsksBy number (answer_of plugin q) (answered r new) (asking s k uses) (asking s l uses)
by_answered number plugin q old new r {s} {k} {l} {uses} h same =
    subst (λ (x : Kept). AsksBy number (answer_of plugin q) (answered r new) (asking s k uses) (asking s x uses)) (sym same) (answered_so number plugin q old new r h)

-- a plugin answered by what it asked, or goes on
pub ends_by : {number : Option ℕ} (plugin : Answerer) (rest : Query → List Mark → Meaning Decision) (q : Query) (slot : AnswerData) {r : Option Ended} (e : Ended) {old new : AskState}
    → AsksBy number (answer_of plugin q) (answered (Ok r) slot) old new → r ≡ Some e → AsksBy number (λ marks. onward (answer_of plugin q marks) (or_rest rest q)) (Ok (decision_of e slot)) old new
ends_by {number} plugin rest q slot e {old} {new} asks is =
    by_then (answer_of plugin q) (or_rest rest q) (subst (λ (o : Option Ended). AsksBy number (answer_of plugin q) (answered (Ok o) slot) old new) is asks)
    (by_nothing number (or_rest rest q (Some (decision_of e slot))) (λ left. refl))

pub goes_by : {number : Option ℕ} (plugin : Answerer) (rest : Query → List Mark → Meaning Decision) (q : Query) (slot : AnswerData) {r : Option Ended} {result : Result Decision NoMemory} {old mid new : AskState}
    → AsksBy number (answer_of plugin q) (answered (Ok r) slot) old mid → r ≡ None → AsksBy number (rest q) result mid new
    → AsksBy number (λ marks. onward (answer_of plugin q marks) (or_rest rest q)) result old new
goes_by {number} plugin rest q slot {r} {result} {old} {mid} {new} asks is behind =
    by_then (answer_of plugin q) (or_rest rest q) (subst (λ (o : Option Ended). AsksBy number (answer_of plugin q) (answered (Ok o) slot) old mid) is asks) behind

pub fails_by : {number : Option ℕ} (plugin : Answerer) (steps : List Step) (q : Query) {result : Result Decision NoMemory} {e : NoMemory} {old new : AskState}
    → IsErr result → AsksBy number (answer_of plugin q) (Err e) old new → AsksBy number (λ marks. onward (answer_of plugin q marks) (or_rest (mean steps) q)) result old new
fails_by plugin steps q fails asks = by_fails (answer_of plugin q) (or_rest (mean steps) q) fails asks (or_rest_nothing (mean steps) q (mean_nothing steps q))

-- the upstreams of a block said this
pub forwarded_by : (plans : List ForwardData) (q : Query) (says : ForwardSay) (slot : AnswerData) (o : Option Ended) {s t : SideState} {k l : Kept} (old new : List PoolUse)
    → SameBut (pool_place plans q.name) old new
    → Forwards (forward_means plans q) (said (Ok says) slot) (state_at s k (calls_by (pool_place plans q.name) old)) (state_at t l (calls_by (pool_place plans q.name) new))
    → answered (Ok o) slot ≡ Ok (forward_answer (said_of says slot)) → AsksBy (pool_place plans q.name) (answer_of (Forward plans) q) (answered (Ok o) slot) (asking s k old) (asking t l new)
unfolding answer_of
forwarded_by plans q says slot o {s} {t} {k} {l} old new but p is =
    let number = pool_place plans q.name in
    let asked : AsksBy number (forward_means plans q) (Ok (said_of says slot)) (asking s k old) (asking t l new)
    = record { asks = record { inners = p.inners; told = p.told; stays = p.counts.stays; kept = p.kept; took = p.took }; logged = logged_forward old new p.inners number but p.called } in
    subst (λ (r : Result (Option Decision) NoMemory). AsksBy number (λ marks. onward (forward_means plans q marks) forward_answered) r (asking s k old) (asking t l new)) (sym is)
    (by_then (forward_means plans q) forward_answered asked (by_nothing number (forward_answered (said_of says slot)) (λ left. refl)))

pub forward_starves_by : (plans : List ForwardData) (q : Query) (e : NoMemory) (result : Result (Option Ended) NoMemory) (slot : AnswerData) {s t : SideState} {k l : Kept} (old new : List PoolUse)
    → IsErr result → SameBut (pool_place plans q.name) old new
    → Forwards (forward_means plans q) (Err e) (state_at s k (calls_by (pool_place plans q.name) old)) (state_at t l (calls_by (pool_place plans q.name) new))
    → AsksBy (pool_place plans q.name) (answer_of (Forward plans) q) (answered result slot) (asking s k old) (asking t l new)
unfolding answer_of
forward_starves_by plans q e (Ok o) slot old new fails but p = absurd cc
forward_starves_by plans q e (Err f) slot {s} {t} {k} {l} old new fails but p =
    let number = pool_place plans q.name in
    let asked : AsksBy number (forward_means plans q) (Err e) (asking s k old) (asking t l new)
    = record { asks = record { inners = p.inners; told = p.told; stays = p.counts.stays; kept = p.kept; took = p.took }; logged = logged_forward old new p.inners number but p.called } in
    by_fails (forward_means plans q) forward_answered refl asked (λ v. refl)

-- a reply that was restored
restores_by : (number : Option ℕ) (ds : List Directive) (changed : Changed) (v : Decision) (slot : AnswerData) (result : Result Ended NoMemory) {s : SideState} {k : Kept} {uses : List PoolUse}
    → Restored ds changed v slot result → AsksBy number (reply_restored ds changed v) (decided result slot) (asking s k uses) (asking s k uses)
restores_by number ds changed v slot (Ok e) h = by_nothing number (reply_restored ds changed v) (λ left. ap (λ w. Done w left) h)
restores_by number ds changed v slot (Err e) h = by_starved number (reply_restored ds changed v) refl refl

pub restored_by : (number : Option ℕ) (ds : List Directive) (changed : Changed) (v : Decision) (slot : AnswerData) (result : Result Ended NoMemory) {s : SideState} {k l : Kept} {uses : List PoolUse}
    → Restored ds changed v slot result → l ≡ k → AsksBy number (reply_restored ds changed v) (decided result slot) (asking s k uses) (asking s l uses)
restored_by number ds changed v slot result {s} {k} {l} {uses} h same =
    subst (λ (x : Kept). AsksBy number (reply_restored ds changed v) (decided result slot) (asking s k uses) (asking s x uses)) (sym same) (restores_by number ds changed v slot result h)

-- what is logged of two kinds
uses_nothing : (numbers : CallNumbers) (uses : BlockUses) → UsesLogged numbers [] uses uses
uses_nothing numbers uses = record { pools = logged_nothing numbers.pool (pool_logs uses.pools); shards = logged_nothing numbers.shard (shard_logs uses.cache) }

pub uses_then : (numbers : CallNumbers) (a b : List Mark) {x y z : BlockUses} → UsesLogged numbers a x y → UsesLogged numbers b y z → UsesLogged numbers (a ++ b) x z
uses_then numbers a b p q = record {
  pools = logged_as numbers.pool (sym (calls_then a b)) (logged_then numbers.pool p.pools q.pools);
  shards = logged_as numbers.shard (sym (shards_then a b)) (logged_then numbers.shard p.shards q.shards);
}

uses_quiet : (numbers : CallNumbers) (marks : List Mark) (uses : BlockUses) → pool_calls_in marks ≡ [] → cache_calls_in marks ≡ [] → UsesLogged numbers marks uses uses
uses_quiet numbers marks uses p c = record {
  pools = logged_quiet numbers.pool (pool_calls_in marks) (pool_logs uses.pools) p;
  shards = logged_quiet numbers.shard (cache_calls_in marks) (shard_logs uses.cache) c;
}

-- what asks takes
pub takes_by : {A : Type 0} {number : Option ℕ} {means : List Mark → Meaning A} {result : Result A NoMemory} {s t : SideState} {k l : Kept} {old new : List PoolUse} (shard : Option ℕ) (cache : Option LentCache)
    → AsksBy number means result (asking s k old) (asking t l new)
    → TakesBy (record { shard = shard; pool = number }) means result (taking s (record { pools = old; cache = cache })) (taking t (record { pools = new; cache = cache }))
takes_by shard cache p = record {
  takes = record { marks = map Inner p.asks.inners; told = p.asks.told; stays = p.asks.stays; took = p.asks.took };
  logged = record { pools = p.logged; shards = logged_quiet shard (cache_calls_in (map Inner p.asks.inners)) (shard_logs cache) (inners_apart p.asks.inners) };
}

pub tb_as : {A : Type 0} {numbers other : CallNumbers} (means same : List Mark → Meaning A) {result : Result A NoMemory} {old new : TakeState} → numbers ≡ other → ((marks : List Mark) → same marks ≡ means marks)
    → TakesBy numbers means result old new → TakesBy other same result old new
tb_as means same {result = result} {old = old} {new = new} is so p = record {
  takes = record { marks = p.takes.marks; told = p.takes.told; stays = p.takes.stays; took = took-as means same result p.takes.marks so p.takes.took };
  logged = subst (λ (n : CallNumbers). UsesLogged n p.takes.marks old.uses new.uses) is p.logged;
}

pub tb_nothing : {A : Type 0} (numbers : CallNumbers) (means : List Mark → Meaning A) {v : A} {s : SideState} {uses : BlockUses} → ((left : List Mark) → means left ≡ Done v left)
    → TakesBy numbers means (Ok v) (taking s uses) (taking s uses)
tb_nothing numbers means {s = s} {uses = uses} so =
    record { takes = record { marks = []; told = adds-nothing s; stays = stays-nothing s; took = so }; logged = uses_nothing numbers uses }

pub tb_starved : {A : Type 0} (numbers : CallNumbers) (means : List Mark → Meaning A) {result : Result A NoMemory} {s : SideState} {uses : BlockUses} → IsErr result → Starved (means [])
    → TakesBy numbers means result (taking s uses) (taking s uses)
tb_starved numbers means {result = Ok v} fails starved = absurd cc
tb_starved numbers means {result = Err e} {s = s} {uses = uses} fails starved =
    record { takes = record { marks = []; told = adds-nothing s; stays = stays-nothing s; took = starved }; logged = uses_nothing numbers uses }

pub tb_noted : {A B : Type 0} {numbers : CallNumbers} (means : List Mark → Meaning A) (next : A → List Mark → Meaning B) {v : A} {result : Result B NoMemory} {s t u : SideState} {old new : BlockUses}
    → TakesBy numbers means (Ok v) (taking s old) (taking t new) → TakesQuietly (next v) result t u → TakesBy numbers (λ marks. onward (means marks) next) result (taking s old) (taking u new)
tb_noted {numbers = numbers} means next {v = v} {result = result} {new = new} p q = record {
  takes = record {
    marks = p.takes.marks ++ q.takes.marks;
    told = adds-then p.takes.told q.takes.told;
    stays = stays-then p.takes.stays q.takes.stays;
    took = took-then means next v result p.takes.marks q.takes.marks p.takes.took q.takes.took;
  };
  logged = uses_then numbers p.takes.marks q.takes.marks p.logged (uses_quiet numbers q.takes.marks new q.pools q.shards);
}

pub tb_fails : {A B : Type 0} {numbers : CallNumbers} (means : List Mark → Meaning A) (next : A → List Mark → Meaning B) {e : NoMemory} {result : Result B NoMemory} {old new : TakeState}
    → IsErr result → TakesBy numbers means (Err e) old new → ((v : A) → Starved (next v [])) → TakesBy numbers (λ marks. onward (means marks) next) result old new
tb_fails means next {result = Ok v} fails p none = absurd cc
tb_fails means next {e} {result = Err f} fails p none =
    record { takes = record { marks = p.takes.marks; told = p.takes.told; stays = p.takes.stays; took = took-starved means next e f p.takes.marks p.takes.took none }; logged = p.logged }

-- plugins of others
pub others_starved_by : (numbers : CallNumbers) (says : Query → Option Decision) (steps : List Step) (q : Query) (result : Result Given NoMemory) (answer : AnswerData) (s : SideState) (uses : BlockUses)
    → IsErr result → TakesBy numbers (mean (Others says ∷ steps) q) (gave result answer) (taking s uses) (taking s uses)
others_starved_by numbers says steps q result answer s uses fails = tb_starved numbers (mean (Others says ∷ steps) q) (gave-err result answer fails) (mean_nothing (Others says ∷ steps) q)

pub others_say_by : (numbers : CallNumbers) (says : Query → Option Decision) (steps : List Step) (q : Query) (v : Decision) (s : SideState) (uses : BlockUses)
    → says q ≡ Some v → TakesBy numbers (mean (Others says ∷ steps) q) (Ok v) (taking s uses) (taking s uses)
others_say_by numbers says steps q v s uses said = tb_nothing numbers (mean (Others says ∷ steps) q) (others says steps q said)

pub others_go_by : (numbers : CallNumbers) (says : Query → Option Decision) (steps : List Step) (q : Query) (result : Result Decision NoMemory) (old new : TakeState)
    → says q ≡ None → TakesBy numbers (mean steps q) result old new → TakesBy numbers (mean (Others says ∷ steps) q) result old new
others_go_by numbers says steps q result old new said p = tb_as (mean steps q) (mean (Others says ∷ steps) q) refl (others says steps q said) p

-- a note
pub quiet_starved : {A : Type 0} (means : List Mark → Meaning A) {result : Result A NoMemory} {s : SideState} → IsErr result → Starved (means []) → TakesQuietly means result s s
quiet_starved means {result = Ok v} fails starved = absurd cc
quiet_starved means {result = Err e} {s = s} fails starved = record { takes = record { marks = []; told = adds-nothing s; stays = stays-nothing s; took = starved }; pools = refl; shards = refl }

-- the line that is asked for was noted
same_line : (line : List ℕ) → pointwise nat_eq line line ≡ true
same_line line = by_test (pointwise nat_eq line line) (slice_eq-Decides unsigned_Decides line line (pointwise nat_eq line line) refl)
  where
    by_test : (t : Bool) → Decides t (line ≡ line) → t ≡ true
    by_test true d = refl
    by_test false d = d.1 refl

quiet_note : (line : List ℕ) (v : Decision) (out : Wrote) {s t : SideState} → Adds s t (noted line out) → Stays s t → TakesQuietly (take_note line v) (Ok v) s t
quiet_note line v out told stays = record {
  takes = record { marks = noted line out; told = told; stays = stays; took = λ left. ap (λ (same : Bool). if same then Done v left else Off) (same_line line) };
  pools = refl;
  shards = refl;
}

pub quiet_code : (q : Query) (ended : Ended) (code : Code) (cause : Cause) (answer : AnswerData) (line : List ℕ) (out : Wrote) {s t : SideState} → ended ≡ end.Code code cause → line ≡ error_line q code cause
    → Adds s t (noted line out) → Stays s t → TakesQuietly (error_noted q (decision_of ended answer)) (Ok (decision_of ended answer)) s t
quiet_code q ended code cause answer line out {s} {t} is same told stays =
    subst (λ (e : Ended). TakesQuietly (error_noted q (decision_of e answer)) (Ok (decision_of e answer)) s t) (sym is)
    (quiet_note (error_line q code cause) (decision.Code code cause) out (subst (λ (l : List ℕ). Adds s t (noted l out)) same told) stays)

pub quiet_nothing : {A : Type 0} (means : List Mark → Meaning A) {v : A} {s : SideState} → ((left : List Mark) → means left ≡ Done v left) → TakesQuietly means (Ok v) s s
quiet_nothing means {s = s} so = record { takes = record { marks = []; told = adds-nothing s; stays = stays-nothing s; took = so }; pools = refl; shards = refl }

pub quiet_other : (q : Query) (ended : Ended) (answer : AnswerData) {s : SideState} → ((code : Code) (cause : Cause) → ended ≢ end.Code code cause)
    → TakesQuietly (error_noted q (decision_of ended answer)) (Ok (decision_of ended answer)) s s
quiet_other q end.Reply answer other = quiet_nothing (error_noted q (decision.Reply answer)) (λ left. refl)
quiet_other q (end.Lent tail) answer other = quiet_nothing (error_noted q (decision_of (end.Lent tail) answer)) (λ left. refl)
quiet_other q (end.Code code cause) answer other = absurd (other code cause refl)
quiet_other q end.Drop answer other = quiet_nothing (error_noted q decision.Drop) (λ left. refl)

pub quiet_query : (plan : PlanData) (q : Query) (v : Decision) (line : List ℕ) (out : Wrote) {s t : SideState} → is_in q.name (plain_zones plan) ≡ true → line ≡ log_line q (outcome_of v)
    → Adds s t (noted line out) → Stays s t → TakesQuietly (query_noted plan q v) (Ok v) s t
quiet_query plan q v line out {s} {t} inside same told stays =
    let noted_it = quiet_note (log_line q (outcome_of v)) v out (subst (λ (l : List ℕ). Adds s t (noted l out)) same told) stays in
    record {
      takes = record {
        marks = noted_it.takes.marks;
        told = noted_it.takes.told;
        stays = noted_it.takes.stays;
        took = λ left. ap (λ (t : Bool). if t then take_note (log_line q (outcome_of v)) v (noted_it.takes.marks ++ left) else Done v (noted_it.takes.marks ++ left)) inside ∙ noted_it.takes.took left;
      };
      pools = noted_it.pools;
      shards = noted_it.shards;
    }

pub quiet_beyond : (plan : PlanData) (q : Query) (v : Decision) {s : SideState} → is_in q.name (plain_zones plan) ≡ false → TakesQuietly (query_noted plan q v) (Ok v) s s
quiet_beyond plan q v beyond = quiet_nothing (query_noted plan q v) (λ left. ap (λ (t : Bool). if t then take_note (log_line q (outcome_of v)) v left else Done v left) beyond)
