-- What a walk took and logged where the chain has a cache.
use Rattle.std.proofs.Common.{◌≡◌, ◌<◌, ◌∙◌, ℕ, Bool, true, false, List, [], ◌∷◌, ◌++◌, map, take, length, Option, Some, None, Result, Ok, Err, if◌then◌else◌, refl, sym, ap, subst, arith, append_assoc, length-append}
use Rattle.std.specs.Prelude.{IfOk, IsErr, is_some, nat_le, option_and_then, option_map}
use Rattle.std.proofs.Common.{leb-true}
use Rattle.std.proofs.lemmas.List.{append-nil}
use Rattle.dns_lists.specs.declared.memory.NoMemory.{NoMemory}
use Rattle.dns_data.specs.Message.{AnswerData}
use Rattle.dns_data.specs.declared.query.Query.{Query}
use Rattle.cache_plugin.specs.{ArePast, CacheState, CallsBy, state_at, use_logs}
use Rattle.cache_rules.specs.{cache_zones, class_of, entry_weight, key_of}
use Rattle.cache_rules.specs.declared.classes.Lived.{Lived}
use Rattle.outside.specs.{EntryData}
use Rattle.outside.specs.Journals.{adds-nothing, adds-then}
use Rattle.outside.specs.Kept.{Keeps}
use Rattle.outside.specs.Keys.{shard_of}
use Rattle.outside.specs.Meanings.{Meaning, Done, More, Off, Starved, Took, onward}
use Rattle.outside.specs.States.{SideState}
use Rattle.outside.specs.TakingLaws.{starved_onward, stays-nothing, stays-then, took-starved, took-then}
use Rattle.outside.specs.Weight.{inner_weight}
use Rattle.outside.specs.declared.entry.InnerMark.{InnerMark}
use Rattle.outside.specs.declared.entry.Key.{Key}
use Rattle.outside.specs.declared.kept.Kept.{Kept}
use Rattle.outside.specs.declared.kept.Kept.TheVariants as kept
use Rattle.outside.specs.declared.mark.Mark.{Mark}
use Rattle.outside.specs.declared.mark.Mark.TheVariants.{Inner}
use Rattle.forward_plugin.specs.declared.pool_use.PoolUse.{PoolUse}
use Rattle.one_history.specs.Shared.{Logged, cache_calls_in, pool_calls_in}
use Rattle.plugin_api.specs.{PlanData}
use Rattle.chain_meaning.specs.Caching.{Justified, Look, cached, entry_for, entry_of, found, inners_in, kept_with, looked_at, put_or, take_look, take_looked, take_now, taken}
use Rattle.chain_meaning.specs.CallsByRun.{CallNumbers, numbers_in, pool_in}
use Rattle.chain_meaning.specs.Mean.{mean}
use Rattle.chain_meaning.specs.Steps.{Step, cache_steps}
use Rattle.zone_words.specs.{is_in}
use Rattle.chain_meaning.specs.declared.decision.Decision.{Decision}
use Rattle.chain_meaning.specs.declared.decision.Decision.TheVariants as decision
use Rattle.chain_build.specs.LoggedWalks.{AsksBy, TakesBy, UsesLogged, asking, taking}
use Rattle.chain_build.specs.Logs.{pool_logs}
use Rattle.chain_build.specs.declared.block_uses.BlockUses.{BlockUses}
use Rattle.lent_caches.specs.declared.uses.LentCache.{LentCache}
use Rattle.chain_build.specs.Caches.{IsFairFor}
use Rattle.chain_build.specs.Judges.{Judges}
use Rattle.lent_caches.specs.Named.{NamedData, named_data}
use Rattle.lent_caches.specs.Judging.{is_just}
use Rattle.lent_caches.specs.PlanLaws.{justified_stays}
use Rattle.lent_caches.specs.declared.judge.BlockJudge.{BlockJudge}
use Rattle.block_readings.specs.PlansLaws.{bare_plan}
use Rattle.lent_caches.specs.declared.name.NamedCache.{NamedCache}
use Rattle.chain_build.specs.Plans.{behind_of}
use Rattle.chain_build.specs.Uses.{chain_named, lent_cache}
use Rattle.chain_build.specs.Walking.{decided, decision_of}
use Rattle.chain_build.specs.declared.block.BlockChain.{BlockChain}
use Rattle.chain_build.specs.declared.ended.Ended.{Ended}
use Rattle.chain_build.proofs.Served.{starved_after}
use Rattle.chain_build.proofs.Logging.{inners_apart, logged_as, logged_nothing, logged_quiet, logged_then, shards_then, calls_then}
use Rattle.chain_build.proofs.LoggedWalks.{tb_nothing, tb_starved, uses_then}

-- the uses of a block with this cache
abbrev uses_of : List PoolUse → LentCache → BlockUses
uses_of pools u = record { pools = pools; cache = Some u }

-- a call of the cache, as uses tell it
called_logged : (key : Key) (number : Option ℕ) (marks : List Mark) (pools : List PoolUse) (u v : LentCache) → Logged (Some (shard_of key)) (cache_calls_in marks) (use_logs u.of) (use_logs v.of) → pool_calls_in marks ≡ []
    → UsesLogged (record { shard = Some (shard_of key); pool = number }) marks (uses_of pools u) (uses_of pools v)
called_logged key number marks pools u v logged apart = record { pools = logged_quiet number (pool_calls_in marks) (pool_logs pools) apart; shards = logged }

pub called_then : {A B : Type 0} (key : Key) (number : Option ℕ) (means : List Mark → Meaning A) (next : A → List Mark → Meaning B) {v : A} {result : Result B NoMemory} {s t w : SideState} (pools : List PoolUse) (u x : LentCache) {new : BlockUses}
    → CallsBy key means (Ok v) (state_at s (use_logs u.of)) (state_at t (use_logs x.of)) → TakesBy (record { shard = Some (shard_of key); pool = number }) (next v) result (taking t (uses_of pools x)) (taking w new)
    → TakesBy (record { shard = Some (shard_of key); pool = number }) (λ marks. onward (means marks) next) result (taking s (uses_of pools u)) (taking w new)
called_then key number means next {v} {result} pools u x p q = record {
  takes = record {
    marks = p.takes.marks ++ q.takes.marks;
    told = adds-then p.takes.told q.takes.told;
    stays = stays-then p.takes.stays q.takes.stays;
    took = took-then means next v result p.takes.marks q.takes.marks p.takes.took q.takes.took;
  };
  logged = uses_then (record { shard = Some (shard_of key); pool = number }) p.takes.marks q.takes.marks (called_logged key number p.takes.marks pools u x p.logged p.apart) q.logged;
}

pub called_fails : {A B : Type 0} (key : Key) (number : Option ℕ) (means : List Mark → Meaning A) (next : A → List Mark → Meaning B) {e : NoMemory} {result : Result B NoMemory} {s t : SideState} (pools : List PoolUse) (u x : LentCache)
    → IsErr result → CallsBy key means (Err e) (state_at s (use_logs u.of)) (state_at t (use_logs x.of)) → ((v : A) → Starved (next v []))
    → TakesBy (record { shard = Some (shard_of key); pool = number }) (λ marks. onward (means marks) next) result (taking s (uses_of pools u)) (taking t (uses_of pools x))
called_fails key number means next {result = Ok v} pools u x fails p none = absurd cc
called_fails key number means next {e} {result = Err f} pools u x fails p none = record {
  takes = record { marks = p.takes.marks; told = p.takes.told; stays = p.takes.stays; took = took-starved means next e f p.takes.marks p.takes.took none };
  logged = called_logged key number p.takes.marks pools u x p.logged p.apart;
}

-- behind a miss no meaning is off at the end
put_ends : (plan : PlanData) (moment : ℕ) (a : AnswerData) (o : Option EntryData) → Starved (put_or plan moment a o [])
put_ends plan moment a None = refl
put_ends plan moment a (Some entry) = tt

pub kept_ends : (plan : PlanData) (q : Query) (moment : ℕ) (inner : List InnerMark) (v : Decision) → Starved (kept_with plan q moment inner v [])
kept_ends plan q moment inner (decision.Reply a) = put_ends plan moment a (entry_for plan q moment a inner)
kept_ends plan q moment inner (decision.Code code cause) = refl
kept_ends plan q moment inner decision.Drop = refl

module _ (rest : Query → List Mark → Meaning Decision) (plan : PlanData) (q : Query) where
  -- a look, and what is behind it
  abbrev pub found_at : Look → List Mark → Meaning Decision
  found_at look left = found rest plan q look.moment look.entry left

  by_looked : (moment : ℕ) (m : Meaning (Option EntryData)) → onward m (found rest plan q moment) ≡ onward (onward m (looked_at moment)) found_at
  by_looked moment (Done entry left) = refl
  by_looked moment More = refl
  by_looked moment Off = refl

  by_now : (key : Key) (m : Meaning ℕ) → onward m (λ moment left. onward (take_looked key moment left) (found rest plan q moment))
      ≡ onward (onward m (λ moment left. onward (take_looked key moment left) (looked_at moment))) found_at
  by_now key (Done moment left) = by_looked moment (take_looked key moment left)
  by_now key More = refl
  by_now key Off = refl

  pub cached_look : (marks : List Mark) → cached rest plan q marks ≡ onward (take_look (key_of q) marks) found_at
  cached_look marks = by_now (key_of q) (take_now marks)

  pub found_nothing : Starved (rest q []) → (look : Look) → Starved (found_at look [])
  found_nothing none look = by_entry look.entry
    where
      by_entry : (o : Option EntryData) → Starved (found rest plan q look.moment o [])
      by_entry (Some entry) = refl
      by_entry None = starved_onward (rest q []) (λ v end. kept_with plan q look.moment (inners_in (taken [] end)) v end) none (λ v. kept_ends plan q look.moment (inners_in (taken [] [])) v)

-- the marks that were taken in front of others
taken_front : (a b : List Mark) → taken (a ++ b) b ≡ a
taken_front a b = ap (λ (n : ℕ). take n (a ++ b)) (let long = length-append a b in omega (arith, long)) ∙ take_front a b
  where
    take_front : (a b : List Mark) → take (length a) (a ++ b) ≡ a
    take_front [] b = refl
    take_front (m ∷ a) b = ap (λ (ms : List Mark). m ∷ ms) (take_front a b)

inners_inner : (inners : List InnerMark) → inners_in (map Inner inners) ≡ inners
inners_inner [] = refl
inners_inner (m ∷ inners) = ap (λ (ms : List InnerMark). m ∷ ms) (inners_inner inners)

module _ (rest : Query → List Mark → Meaning Decision) (plan : PlanData) (q : Query) (moment : ℕ) where
  -- behind the marks of the rest
  missed_is : (v : Decision) (inners : List InnerMark) → ((left : List Mark) → rest q (map Inner inners ++ left) ≡ Done v left) → (left : List Mark)
      → found rest plan q moment None (map Inner inners ++ left) ≡ kept_with plan q moment inners v left
  missed_is v inners took left =
      (λ i. onward (took left i) (λ v end. kept_with plan q moment (inners_in (taken (map Inner inners ++ left) end)) v end))
      ∙ ap (λ (inner : List InnerMark). kept_with plan q moment inner v left) (ap inners_in (taken_front (map Inner inners) left) ∙ inners_inner inners)

  missed_took : (v : Decision) (inners : List InnerMark) (result : Result Decision NoMemory) (marks : List Mark) → ((left : List Mark) → rest q (map Inner inners ++ left) ≡ Done v left)
      → Took (kept_with plan q moment inners v) result marks → Took (found rest plan q moment None) result (map Inner inners ++ marks)
  missed_took v inners (Ok w) marks took p = λ left. ap (found rest plan q moment None) (append_assoc (map Inner inners) marks left) ∙ missed_is v inners took (marks ++ left) ∙ p left
  missed_took v inners (Err e) marks took p = subst Starved (sym (missed_is v inners took marks)) p

  -- what stands behind a miss asked, and its answer was kept or wasn't
  pub missed_then : (key : Key) (number : Option ℕ) {v : Decision} {result : Result Decision NoMemory} {s t w : SideState} {k : Kept} {pools news : List PoolUse} (u x : LentCache)
      → (p : AsksBy number (rest q) (Ok v) (asking s (kept.On []) pools) (asking t k news))
      → CallsBy key (kept_with plan q moment p.asks.inners v) result (state_at t (use_logs u.of)) (state_at w (use_logs x.of))
      → TakesBy (record { shard = Some (shard_of key); pool = number }) (found rest plan q moment None) result (taking s (uses_of pools u)) (taking w (uses_of news x))
  missed_then key number {v} {result} {pools = pools} {news = news} u x p c = record {
    takes = record {
      marks = map Inner p.asks.inners ++ c.takes.marks;
      told = adds-then p.asks.told c.takes.told;
      stays = stays-then p.asks.stays c.takes.stays;
      took = missed_took v p.asks.inners result c.takes.marks p.asks.took c.takes.took;
    };
    logged = record {
      pools = logged_as number (sym (calls_then (map Inner p.asks.inners) c.takes.marks)) (logged_then number p.logged (logged_quiet number (pool_calls_in c.takes.marks) (pool_logs news) c.apart));
      shards = logged_as (Some (shard_of key)) (sym (shards_then (map Inner p.asks.inners) c.takes.marks))
          (logged_then (Some (shard_of key)) (logged_quiet (Some (shard_of key)) (cache_calls_in (map Inner p.asks.inners)) (use_logs u.of) (inners_apart p.asks.inners)) c.logged);
    };
  }

  pub missed_fails : (key : Key) (number : Option ℕ) {e : NoMemory} {result : Result Decision NoMemory} {s t : SideState} {k : Kept} {pools news : List PoolUse} (u : LentCache) → IsErr result
      → AsksBy number (rest q) (Err e) (asking s (kept.On []) pools) (asking t k news)
      → TakesBy (record { shard = Some (shard_of key); pool = number }) (found rest plan q moment None) result (taking s (uses_of pools u)) (taking t (uses_of news u))
  missed_fails key number {result = Ok v} u fails p = absurd cc
  missed_fails key number {result = Err f} u fails p = record {
    takes = record {
      marks = map Inner p.asks.inners;
      told = p.asks.told;
      stays = p.asks.stays;
      took = starved_onward (rest q (map Inner p.asks.inners)) (λ v end. kept_with plan q moment (inners_in (taken (map Inner p.asks.inners) end)) v end) p.asks.took
          (λ v. kept_ends plan q moment (inners_in (taken (map Inner p.asks.inners) [])) v);
    };
    logged = record { pools = p.logged; shards = logged_quiet (Some (shard_of key)) (cache_calls_in (map Inner p.asks.inners)) (use_logs u.of) (inners_apart p.asks.inners) };
  }

-- the fields of an entry that is made
light_fields : (q : Query) (moment : ℕ) (a : AnswerData) (inner : List InnerMark) (lived : Lived) (light : Bool) (entry : EntryData) → (if light then Some (entry_of q moment a inner lived) else None) ≡ Some entry
    → (entry.origin ≡ q) × ((entry.born ≡ moment) × ((entry.answer ≡ a) × (entry.inner ≡ inner)))
light_fields q moment a inner lived true entry is = let made : entry_of q moment a inner lived ≡ entry = cc in (
  ap (λ (e : EntryData). e.origin) (sym made),
  (ap (λ (e : EntryData). e.born) (sym made), (ap (λ (e : EntryData). e.answer) (sym made), ap (λ (e : EntryData). e.inner) (sym made))),
)
light_fields q moment a inner lived false entry is = absurd cc

pub entry_fields : (plan : PlanData) (q : Query) (moment : ℕ) (a : AnswerData) (inner : List InnerMark) (entry : EntryData) → entry_for plan q moment a inner ≡ Some entry
    → (entry.origin ≡ q) × ((entry.born ≡ moment) × ((entry.answer ≡ a) × (entry.inner ≡ inner)))
entry_fields plan q moment a inner entry is = by_class (class_of plan a) is
  where
    by_class : (o : Option Lived) → option_and_then (λ lived. if nat_le (entry_weight a inner) 16384 then Some (entry_of q moment a inner lived) else None) o ≡ Some entry
        → (entry.origin ≡ q) × ((entry.born ≡ moment) × ((entry.answer ≡ a) × (entry.inner ≡ inner)))
    by_class None e = absurd cc
    by_class (Some lived) e = light_fields q moment a inner lived (nat_le (entry_weight a inner) 16384) entry e

-- want of memory, a decision that stands, and an answer that is given from an entry
pub calls_starved : (key : Key) (means : List Mark → Meaning Decision) {result : Result Decision NoMemory} {s : SideState} {x : List (List Mark)} → IsErr result → Starved (means []) → CallsBy key means result (state_at s x) (state_at s x)
calls_starved key means {result = Ok v} fails starved = absurd cc
calls_starved key means {result = Err e} {s} {x} fails starved =
    record { takes = record { marks = []; told = adds-nothing s; stays = stays-nothing s; took = starved }; logged = logged_nothing (Some (shard_of key)) x; apart = refl }

pub calls_nothing : (key : Key) (means : List Mark → Meaning Decision) {v : Decision} {s : SideState} {x : List (List Mark)} → ((left : List Mark) → means left ≡ Done v left) → CallsBy key means (Ok v) (state_at s x) (state_at s x)
calls_nothing key means {v} {s} {x} so =
    record { takes = record { marks = []; told = adds-nothing s; stays = stays-nothing s; took = so }; logged = logged_nothing (Some (shard_of key)) x; apart = refl }

pub calls_err : (key : Key) (means : List Mark → Meaning Decision) {e : NoMemory} {result : Result Decision NoMemory} {old new : CacheState} → IsErr result → CallsBy key means (Err e) old new → CallsBy key means result old new
calls_err key means {result = Ok v} fails p = absurd cc
calls_err key means {result = Err f} fails p = record { takes = record { marks = p.takes.marks; told = p.takes.told; stays = p.takes.stays; took = p.takes.took }; logged = p.logged; apart = p.apart }

pub calls_given : (key : Key) (means : List Mark → Meaning Decision) {v : Decision} (r : Result Ended NoMemory) (slot : AnswerData) {old new : CacheState} → IfOk r (λ ended. decision_of ended slot ≡ v) → CallsBy key means (Ok v) old new
    → CallsBy key means (decided r slot) old new
calls_given key means (Ok ended) slot {old} {new} is p = subst (λ (w : Decision). CallsBy key means (Ok w) old new) (sym is) p
calls_given key means {v} (Err e) slot is p = record {
  takes = record { marks = p.takes.marks; told = p.takes.told; stays = p.takes.stays; took = starved_after means v p.takes.marks p.takes.took };
  logged = p.logged;
  apart = p.apart;
}

pub tb_given : (numbers : CallNumbers) (means : List Mark → Meaning Decision) {v : Decision} (r : Result Ended NoMemory) (slot : AnswerData) {s : SideState} {uses : BlockUses} → ((left : List Mark) → means left ≡ Done v left) → IfOk r (λ ended. decision_of ended slot ≡ v)
    → TakesBy numbers means (decided r slot) (taking s uses) (taking s uses)
tb_given numbers means (Ok ended) slot {s} {uses} so is = subst (λ (w : Decision). TakesBy numbers means (Ok w) (taking s uses) (taking s uses)) (sym is) (tb_nothing numbers means so)
tb_given numbers means (Err e) slot so is = tb_starved numbers means refl (subst Starved (sym (so [])) refl)

-- where a chain has a cache for the name it calls the key's shard, and its pools are those behind it
pub cached_numbers : (cache : Option PlanData) (plan : PlanData) (steps : List Step) (q : Query) → cache ≡ Some plan → is_in q.name (cache_zones plan) ≡ true
    → record { shard = Some (shard_of (key_of q)); pool = pool_in steps q } ≡ numbers_in (cache_steps cache ++ steps) q
cached_numbers cache plan steps q is covers =
    (λ i. record { shard = if sym covers i then Some (shard_of (key_of q)) else None; pool = pool_in steps q }) ∙ ap (λ (o : Option PlanData). numbers_in (cache_steps o ++ steps) q) (sym is)

pub inner_pool : (cache : Option PlanData) (steps : List Step) (q : Query) → pool_in steps q ≡ pool_in (cache_steps cache ++ steps) q
inner_pool None steps q = refl
inner_pool (Some plan) steps q = refl

-- the use of the cache that a chain has
pub some_cache : (chain : BlockChain) (plan : PlanData) (o : Option LentCache) → is_some o ≡ is_some chain.cache → chain.cache ≡ Some plan → (u : LentCache) × (o ≡ Some u)
some_cache chain plan None cached is = absurd cc
some_cache chain plan (Some u) cached is = (u, refl)

-- it is of the cache that serves the chain, whose judge takes what stands behind it as just
judged : (chain : BlockChain) (u : LentCache) → Some (lent_cache u) ≡ chain_named chain → Judges u.of.cache.judge chain.cache chain.rewrites chain.back
judged chain u same = by chain.named refl same
  where
    by : (o : Option NamedCache) → chain.named ≡ o → Some (lent_cache u) ≡ option_map named_data o → Judges u.of.cache.judge chain.cache chain.rewrites chain.back
    by None is e = absurd cc
    by (Some n) is e =
        let it : lent_cache u ≡ named_data n = cc in
        subst (λ (m : NamedData). Judges m.cache.judge chain.cache chain.rewrites chain.back) (sym it) (chain.judged n is)

just_for : (chain : BlockChain) (plan : PlanData) (judge : BlockJudge) (entry : EntryData) → Judges judge chain.cache chain.rewrites chain.back → chain.cache ≡ Some plan → Justified (mean (behind_of chain)) plan entry → is_just judge entry
just_for chain plan judge entry judges is j =
    let bare = justified_stays (mean (behind_of chain)) plan entry j in
    record {
      plan = bare_plan plan;
      is = judges.1 ∙ ap (option_map bare_plan) is;
      just = record { decided = judges.0 entry.origin (map Inner entry.inner) ∙ bare.decided; kept = bare.kept };
    }

-- what is decided behind a miss makes a just entry
too_heavy : (plan : PlanData) (q : Query) (moment : ℕ) (a : AnswerData) (inner : List InnerMark) (entry : EntryData) → 16384 < inner_weight inner → entry_for plan q moment a inner ≡ Some entry → ⊥
too_heavy plan q moment a inner entry heavy is = by_class (class_of plan a) is
  where
    past_it : nat_le (entry_weight a inner) 16384 ≡ true → ⊥
    past_it e = let low = leb-true (entry_weight a inner) 16384 e in absurd (omega (arith, low, heavy))

    by_light : (lived : Lived) (light : Bool) → nat_le (entry_weight a inner) 16384 ≡ light → (if light then Some (entry_of q moment a inner lived) else None) ≡ Some entry → ⊥
    by_light lived true e f = past_it e
    by_light lived false e f = absurd cc

    by_class : (o : Option Lived) → option_and_then (λ lived. if nat_le (entry_weight a inner) 16384 then Some (entry_of q moment a inner lived) else None) o ≡ Some entry → ⊥
    by_class None e = absurd cc
    by_class (Some lived) e = by_light lived (nat_le (entry_weight a inner) 16384) refl e

same_inner : (plan : PlanData) (q : Query) (moment : ℕ) (a : AnswerData) (k : Kept) (inners inner : List InnerMark) (entry : EntryData) → Keeps (kept.On []) k inners → ArePast k inner → entry_for plan q moment a inner ≡ Some entry → inners ≡ inner
same_inner plan q moment a kept.Off inners inner entry kept_so past is = absurd past
same_inner plan q moment a (kept.On marks) inners inner entry kept_so past is = sym kept_so ∙ past
same_inner plan q moment a kept.Past inners inner entry kept_so past is = absurd (too_heavy plan q moment a inner entry past is)

pub fair_entry : (chain : BlockChain) (plan : PlanData) (u : LentCache) (q : Query) (moment : ℕ) (v : Decision) (k : Kept) {number : Option ℕ} {s t : SideState} {pools news : List PoolUse} → Some (lent_cache u) ≡ chain_named chain
    → chain.cache ≡ Some plan → AsksBy number (mean (behind_of chain) q) (Ok v) (asking s (kept.On []) pools) (asking t k news) → IsFairFor u.of.cache plan q moment v k
fair_entry chain plan u q moment v k made is p answer reply inner past entry found =
    let same = same_inner plan q moment answer k p.asks.inners inner entry p.asks.kept past found in
    let fields = entry_fields plan q moment answer inner entry found in
    let took : mean (behind_of chain) q (map Inner inner) ≡ Done (decision.Reply answer) []
    = ap (mean (behind_of chain) q) (ap (map Inner) (sym same) ∙ sym (append-nil (map Inner p.asks.inners))) ∙ p.asks.took [] ∙ ap (λ (w : Decision). Done w []) reply in
    just_for chain plan u.of.cache.judge entry (judged chain u made) is
    (record {
      decided = (λ i. mean (behind_of chain) (fields.0 i) (map Inner (fields.1.1.1 i))) ∙ took ∙ ap (λ (a : AnswerData). Done (decision.Reply a) []) (sym fields.1.1.0);
      kept = (λ i. entry_for plan (fields.0 i) (fields.1.0 i) (fields.1.1.0 i) (fields.1.1.1 i)) ∙ found;
    })
