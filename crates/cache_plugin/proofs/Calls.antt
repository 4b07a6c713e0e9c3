-- What one call of a cache takes, and what its log grows by.
use Rattle.std.proofs.Common.{◌≡◌, ◌≢◌, ◌<◌, ◌⊎◌, inl, inr, ◌∙◌, eqb-true, ℕ, zero, suc, ◌==◌, ◌&&◌, Bool, true, false, List, [], ◌∷◌, ◌++◌, length, Option, Some, None, Result, Ok, Err, if◌then◌else◌, refl, sym, ap, subst, arith}
use Rattle.std.specs.Prelude.{IfOk, IsErr}
use Rattle.std.specs.Arc.{arc_value}
use Rattle.std.proofs.lemmas.Bool.{eq-eqb}
use Rattle.std.proofs.lemmas.List.{append-nil, length-map}
use Rattle.dns_lists.specs.declared.memory.NoMemory.{NoMemory}
use Rattle.dns_data.specs.Message.{AnswerData}
use Rattle.cache_rules.specs.{aged, key_of}
use Rattle.cache_shards.specs.Seats.{AddsAt, CacheData, IsSeatOf, ShardSeat, ShardView, added_at, logs, views_of}
use Rattle.cache_shards.specs.Calls.{DoesNothingOr, looked_marks}
use Rattle.cache_shards.specs.declared.calls.Looked as gets
use Rattle.cache_shards.specs.declared.calls.Looked.TheVariants as getv
use Rattle.cache_shards.specs.Stores.{Held}
use Rattle.cache_shards.proofs.SeatLists.{same_length}
use Rattle.outside.specs.{EntryData, same_key}
use Rattle.outside.specs.Journals.{adds-nothing, adds-then}
use Rattle.outside.specs.Keys.{shard_of}
use Rattle.outside.specs.Marks.{Adds}
use Rattle.outside.specs.Meanings.{Meaning, Done, Off, Starved, onward}
use Rattle.outside.specs.SameLaws.{entry_itself, key_itself}
use Rattle.outside.specs.States.{SideState, Stays}
use Rattle.outside.specs.TakingLaws.{starved_onward, stays-nothing, stays-then}
use Rattle.outside.specs.declared.entry.Key.{Key}
use Rattle.outside.specs.declared.mark.Mark.{Mark}
use Rattle.outside.specs.declared.mark.Mark.TheVariants.{Looked, Now, Put}
use Rattle.one_history.specs.Shared.{Logged, log_at}
use Rattle.plugin_api.specs.{PlanData}
use Rattle.chain_meaning.specs.Caching.{look_of, looked_at, put_or, take_look, take_looked, take_put}
use Rattle.chain_meaning.specs.declared.decision.Decision.{Decision}
use Rattle.chain_meaning.specs.declared.decision.Decision.TheVariants as decision
use Rattle.cache_plugin.specs.Calling.{CacheState, CallsBy, IsEntryFound, entry_found, look_result, looked, state_at}
use Rattle.cache_plugin.specs.Keeping.{kept_result, put_result}
use Rattle.cache_plugin.specs.declared.cache_use.Found.{Found}

-- marks come behind those of one shard, and of no other
differ : (x y : ℕ) → (x == y) ≡ false → x ≢ y
differ x y apart same = let found : (x == y) ≡ true = eq-eqb x y same in absurd (false_true (sym apart ∙ found))
  where
    false_true : false ≡ true → ⊥
    false_true e = absurd cc

added_here : (at : ℕ) (marks : List Mark) (parts : List (List Mark)) → at < length parts → log_at (added_at at marks parts) at ≡ log_at parts at ++ marks
added_here at marks [] low = absurd (omega (arith, low))
added_here zero marks (part ∷ parts) low = refl
added_here (suc at) marks (part ∷ parts) low = added_here at marks parts (omega (arith, low))

added_there : (at other : ℕ) (marks : List Mark) (parts : List (List Mark)) → at ≢ other → log_at (added_at at marks parts) other ≡ log_at parts other
added_there at other marks [] apart = refl
added_there zero zero marks (part ∷ parts) apart = absurd (apart refl)
added_there zero (suc other) marks (part ∷ parts) apart = refl
added_there (suc at) zero marks (part ∷ parts) apart = refl
added_there (suc at) (suc other) marks (part ∷ parts) apart = added_there at other marks parts (λ e. apart (ap suc e))

added_logged : (at : ℕ) (marks : List Mark) (parts : List (List Mark)) → at < length parts → Logged (Some at) marks parts (added_at at marks parts)
added_logged at marks parts low = record { each = λ other. by_test other (at == other) refl; none = λ is. absurd cc }
  where
    by_test : (other : ℕ) (t : Bool) → (at == other) ≡ t → log_at (added_at at marks parts) other ≡ log_at parts other ++ (if t then marks else [])
    by_test other true is = subst (λ (n : ℕ). log_at (added_at at marks parts) n ≡ log_at parts n ++ marks) (eqb-true at other is) (added_here at marks parts low)
    by_test other false is = added_there at other marks parts (differ at other is) ∙ sym (append-nil (log_at parts other))

same_logged : (at : ℕ) (parts : List (List Mark)) → Logged (Some at) [] parts parts
same_logged at parts = record { each = λ other. sym (append-nil (log_at parts other)) ∙ ap (λ (more : List Mark). log_at parts other ++ more) (none (at == other)); none = λ is. absurd cc }
  where
    nothing : List Mark
    nothing = []

    none : (t : Bool) → nothing ≡ (if t then nothing else nothing)
    none true = refl
    none false = refl

-- a use has a log for each of eight shards
module _ {J : Type 0} (cache : CacheData J) (seats : List (ShardSeat J)) (own : IsSeatOf cache seats) where
  eight : length (logs (views_of seats)) ≡ 8
  eight = length-map (views_of seats) _ ∙ length-map seats _ ∙ same_length cache.capacities cache.judge cache.ids seats own.each ∙ own.eight

  pub adds_logged : (just : EntryData → Type 0) (at : ℕ) (news : List (ShardView J)) (marks : List Mark) → at < 8 → AddsAt cache.capacities just at (views_of seats) news marks
      → Logged (Some at) marks (logs (views_of seats)) (logs news)
  adds_logged just at news marks low adds =
      subst (λ (l : List (List Mark)). Logged (Some at) marks (logs (views_of seats)) l) (sym adds.logs)
      (added_logged at marks (logs (views_of seats)) (let long = eight in omega (arith, low, long)))

  -- for want of memory nothing was done
  pub nothing_logged : (just : EntryData → Type 0) (at : ℕ) (after : List (ShardSeat J)) → at < 8 → (after ≡ seats) ⊎ (AddsAt cache.capacities just at (views_of seats) (views_of after) [])
      → Logged (Some at) [] (logs (views_of seats)) (logs (views_of after))
  nothing_logged just at after low (inl same) =
      subst (λ (s : List (ShardSeat J)). Logged (Some at) [] (logs (views_of seats)) (logs (views_of s))) (sym same) (same_logged at (logs (views_of seats)))
  nothing_logged just at after low (inr adds) = adds_logged just at (views_of after) [] low adds

few_shards : (key : Key) → shard_of key < 8
few_shards key = omega arith

-- a look
module _ (key : Key) (moment : ℕ) where
  looks_right : (entry : Option EntryData) (left : List Mark) → take_looked key moment (Looked key moment entry ∷ left) ≡ Done entry left
  looks_right entry left = (λ i. if key_itself key i && (itself moment) i then Done entry left else Off)
    where
      itself : (n : ℕ) → (n == n) ≡ true
      itself n = grind arith

  calls_look : (entry : Option EntryData) {s t : SideState} {x y : List (List Mark)} → Adds s t (Looked key moment entry ∷ []) → Stays s t → Logged (Some (shard_of key)) (Looked key moment entry ∷ []) x y
      → CallsBy key (take_looked key moment) (Ok entry) (state_at s x) (state_at t y)
  calls_look entry told stays logged = record { takes = record { marks = Looked key moment entry ∷ []; told = told; stays = stays; took = λ left. looks_right entry left }; logged = logged; apart = refl }

  look_starves : {result : Result (Option EntryData) NoMemory} {s t : SideState} {x y : List (List Mark)} → IsErr result → Adds s t [] → Stays s t → Logged (Some (shard_of key)) [] x y
      → CallsBy key (take_looked key moment) result (state_at s x) (state_at t y)
  look_starves {result = Ok v} fails told stays logged = absurd cc
  look_starves {result = Err e} fails told stays logged = record { takes = record { marks = []; told = told; stays = stays; took = tt }; logged = logged; apart = refl }

  -- what a get answered, and was shown
  module _ {J : Type 0} (cache : CacheData J) (seats after : List (ShardSeat J)) (own : IsSeatOf cache seats) (just : EntryData → Type 0) where
    pub looks_so : (got : gets.Looked) {result : Result (Option EntryData) NoMemory} {s t : SideState}
        → DoesNothingOr got (after ≡ seats) (AddsAt cache.capacities just (shard_of key) (views_of seats) (views_of after) (looked_marks key moment got)) → Adds s t (looked_marks key moment got) → Stays s t → IsEntryFound got result
        → CallsBy key (take_looked key moment) result (state_at s (logs (views_of seats))) (state_at t (logs (views_of after)))
    looks_so (getv.Hit entry) {result} {s} {t} adds told stays is =
        subst (λ (r : Result (Option EntryData) NoMemory). CallsBy key (take_looked key moment) r (state_at s (logs (views_of seats))) (state_at t (logs (views_of after)))) (sym is)
        (calls_look (Some (arc_value entry)) told stays (adds_logged cache seats own just (shard_of key) (views_of after) (Looked key moment (Some (arc_value entry)) ∷ []) (few_shards key) adds))
    looks_so getv.Miss {result} {s} {t} adds told stays is =
        subst (λ (r : Result (Option EntryData) NoMemory). CallsBy key (take_looked key moment) r (state_at s (logs (views_of seats))) (state_at t (logs (views_of after)))) (sym is)
        (calls_look None told stays (adds_logged cache seats own just (shard_of key) (views_of after) (Looked key moment None ∷ []) (few_shards key) adds))
    looks_so getv.NoMemory adds told stays is = look_starves is told stays (nothing_logged cache seats own just (shard_of key) after (few_shards key) adds)

-- behind a reading of the clock
module _ (key : Key) (moment : ℕ) {s t : SideState} (told : Adds s t (Now moment ∷ [])) (stays : Stays s t) where
  pub found_starves : (result : Result Found NoMemory) (x : List (List Mark)) → IsErr result → CallsBy key (take_look key) (look_result result) (state_at s x) (state_at t x)
  found_starves (Ok v) x fails = absurd cc
  found_starves (Err e) x fails = record { takes = record { marks = Now moment ∷ []; told = told; stays = stays; took = tt }; logged = same_logged (shard_of key) x; apart = refl }

  pub found_then : (result : Result Found NoMemory) {u : SideState} {x y : List (List Mark)} → IfOk result (λ found. (looked found).moment ≡ moment) → CallsBy key (take_looked key moment) (entry_found result) (state_at t x) (state_at u y)
      → CallsBy key (take_look key) (look_result result) (state_at s x) (state_at u y)
  found_then (Ok found) is p = record {
    takes = record {
      marks = Now moment ∷ p.takes.marks;
      told = adds-then told p.takes.told;
      stays = stays-then stays p.takes.stays;
      took = λ left. ap (λ (m : Meaning (Option EntryData)). onward m (looked_at moment)) (p.takes.took left) ∙ ap (λ (n : ℕ). Done (look_of n (looked found).entry) left) (sym is);
    };
    logged = p.logged;
    apart = p.apart;
  }
  found_then (Err e) is p = record {
    takes = record {
      marks = Now moment ∷ p.takes.marks;
      told = adds-then told p.takes.told;
      stays = stays-then stays p.takes.stays;
      took = starved_onward (take_looked key moment p.takes.marks) (looked_at moment) p.takes.took (λ v. refl);
    };
    logged = p.logged;
    apart = p.apart;
  }

-- a put
module _ (key : Key) (entry : EntryData) (is : key ≡ key_of entry.origin) where
  puts_right : (v : Decision) (out : Bool) (left : List Mark) → take_put entry v (Put key entry out ∷ left) ≡ Done v left
  puts_right v out left = (λ i. if same_key (sym is i) key && entry_itself entry i then Done v left else Off) ∙ ap (λ (t : Bool). if t && true then Done v left else Off) (key_itself key)

  calls_put : (v : Decision) (out : Bool) {s t : SideState} {x y : List (List Mark)} → Adds s t (Put key entry out ∷ []) → Stays s t → Logged (Some (shard_of key)) (Put key entry out ∷ []) x y
      → CallsBy key (take_put entry v) (Ok v) (state_at s x) (state_at t y)
  calls_put v out told stays logged = record { takes = record { marks = Put key entry out ∷ []; told = told; stays = stays; took = λ left. puts_right v out left }; logged = logged; apart = refl }

  -- a put that was shown so
  module _ {J : Type 0} (cache : CacheData J) (seats after : List (ShardSeat J)) (own : IsSeatOf cache seats) (just : EntryData → Type 0) where
    pub puts_so : (v : Decision) (out : Bool) (marks : List Mark) {s t : SideState} → marks ≡ Put key entry out ∷ [] → AddsAt cache.capacities just (shard_of key) (views_of seats) (views_of after) marks
        → Adds s t (Put key entry out ∷ []) → Stays s t → CallsBy key (take_put entry v) (Ok v) (state_at s (logs (views_of seats))) (state_at t (logs (views_of after)))
    puts_so v out marks so adds told stays =
        calls_put v out told stays
        (adds_logged cache seats own just (shard_of key) (views_of after) (Put key entry out ∷ []) (few_shards key) (subst (λ (ms : List Mark). AddsAt cache.capacities just (shard_of key) (views_of seats) (views_of after) ms) so adds))

pub put_starves : (key : Key) (entry : EntryData) (v : Decision) (result : Result Held NoMemory) {s : SideState} (x : List (List Mark)) → IsErr result → CallsBy key (take_put entry v) (put_result v result) (state_at s x) (state_at s x)
put_starves key entry v (Ok held) x fails = absurd cc
put_starves key entry v (Err e) {s = s} x fails = record { takes = record { marks = []; told = adds-nothing s; stays = stays-nothing s; took = tt }; logged = same_logged (shard_of key) x; apart = refl }

-- an answer that isn't kept, and want of memory before one is
pub kept_not : (key : Key) (plan : PlanData) (moment : ℕ) (answer : AnswerData) {found : Option EntryData} {s : SideState} (x : List (List Mark)) → found ≡ None
    → CallsBy key (put_or plan moment answer found) (Ok (decision.Reply answer)) (state_at s x) (state_at s x)
kept_not key plan moment answer {found} {s} x none =
    subst (λ (o : Option EntryData). CallsBy key (put_or plan moment answer o) (Ok (decision.Reply answer)) (state_at s x) (state_at s x)) (sym none)
    (record { takes = record { marks = []; told = adds-nothing s; stays = stays-nothing s; took = λ left. refl }; logged = same_logged (shard_of key) x; apart = refl })

pub put_or_nothing : (plan : PlanData) (moment : ℕ) (answer : AnswerData) (found : Option EntryData) → Starved (put_or plan moment answer found [])
put_or_nothing plan moment answer None = refl
put_or_nothing plan moment answer (Some entry) = tt

pub keep_starves : (key : Key) (plan : PlanData) (moment : ℕ) (answer : AnswerData) (found : Option EntryData) (result : Result (Option Held) NoMemory) {s : SideState} (x : List (List Mark)) → IsErr result
    → CallsBy key (put_or plan moment answer found) (kept_result plan moment answer result) (state_at s x) (state_at s x)
keep_starves key plan moment answer found (Ok w) x fails = absurd cc
keep_starves key plan moment answer found (Err e) {s = s} x fails =
    record { takes = record { marks = []; told = adds-nothing s; stays = stays-nothing s; took = put_or_nothing plan moment answer found }; logged = same_logged (shard_of key) x; apart = refl }

pub kept_so : (key : Key) (plan : PlanData) (moment : ℕ) (answer : AnswerData) {found : Option EntryData} (entry : EntryData) {result : Result Decision NoMemory} {old new : CacheState} → found ≡ Some entry
    → CallsBy key (take_put entry (decision.Reply (aged plan entry moment))) result old new → CallsBy key (put_or plan moment answer found) result old new
kept_so key plan moment answer entry {result} {old} {new} is p = subst (λ (o : Option EntryData). CallsBy key (put_or plan moment answer o) result old new) (sym is) p

pub kept_err : (key : Key) (means : List Mark → Meaning Decision) (plan : PlanData) (moment : ℕ) (answer : AnswerData) {e : NoMemory} (result : Result (Option Held) NoMemory) {old new : CacheState} → IsErr result → CallsBy key means (Err e) old new
    → CallsBy key means (kept_result plan moment answer result) old new
kept_err key means plan moment answer (Ok w) fails p = absurd cc
kept_err key means plan moment answer (Err f) fails p = record { takes = record { marks = p.takes.marks; told = p.takes.told; stays = p.takes.stays; took = p.takes.took }; logged = p.logged; apart = p.apart }

pub calls_under : {A : Type 0} {key other : Key} {means : List Mark → Meaning A} {result : Result A NoMemory} {old new : CacheState} → key ≡ other → CallsBy key means result old new → CallsBy other means result old new
calls_under {means = means} {result = result} {old = old} {new = new} same p = subst (λ (k : Key). CallsBy k means result old new) same p
