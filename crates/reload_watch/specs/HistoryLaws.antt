-- Once all chains are home, what the sides told gives one history of each cache.
use Rattle.std.proofs.Common.{◌≡◌, ◌<◌, ◌⊎◌, inl, inr, ℕ, zero, suc, true, List, [], ◌∷◌, ◌++◌, map, length, reverse, Option, Some, option_map, slice_get, refl, sym, ap, ◌∙◌, subst, arith}
use Rattle.std.specs.List.{All, sum_by}
use Rattle.std.proofs.lemmas.List.{length-map, map-append}
use Rattle.std.proofs.lemmas.List.Elements.{All-cons, All-head, All-nil, All-tail, All-weaker}
use Rattle.std.proofs.lemmas.Option.{none-some, same_Some, slice_get-map}
use Rattle.all_home.specs.AllHome.{AreAccounted, AreFull, IsLive, HasDrain}
use Rattle.block_readings.specs.Readings.{BlockReading}
use Rattle.cache_shards.specs.Answers.{Capacities, IsLegal}
use Rattle.chain_build.specs.declared.chain.Chain.{Chain}
use Rattle.chain_build.specs.{PlansData, chain_identity, chain_log, plans_of}
use Rattle.chain_build.specs.EndedLaws.{GoneFor, IsOwned, drained_apart, home_seats}
use Rattle.chain_build.specs.History.{has_cache, names_of, readings_of}
use Rattle.chain_build.specs.HistoryPins.{ArePassesGrown, passes_with}
use Rattle.chain_build.specs.HistoryPinsLaws.{IsToldPass, passes_long, same_log, worker_kept, worker_pins}
use Rattle.chain_build.specs.LentsLaws.{IsIn, chain_uses, plans_caches}
use Rattle.chain_build.specs.Naming.{name_at, plans_generation}
use Rattle.chain_build.specs.Seats.{home_of, owner_of, seats_home}
use Rattle.chain_build.specs.Uses.{chain_named}
use Rattle.chain_build.specs.Workers.{chain_lents, chains_lents}
use Rattle.lent_caches.specs.Held.{AreWhole, CacheOf, LentData, caches_data, given_all}
use Rattle.lent_caches.specs.KeptLaws.{same_self}
use Rattle.lent_caches.specs.Ledger.{AllOf, HasGone, count_named, use_names}
use Rattle.lent_caches.specs.Named.{NamedData, named_of}
use Rattle.lent_caches.specs.Names.{same_name}
use Rattle.lent_caches.specs.declared.name.CacheName.{CacheName}
use Rattle.one_history.specs.Calls.{Call}
use Rattle.one_history.specs.Join.{EndedBySeats}
use Rattle.one_history.specs.Logs as history
use Rattle.one_history.specs.Logs.{AreHome, ArePins, Home, Pin, pins_by}
use Rattle.one_history.specs.Names as names
use Rattle.one_history.specs.Runs.{reading}
use Rattle.outside.specs.declared.mark.Mark.{Mark}
use Rattle.pin_table.specs.declared.passes.Pass.{Pass}
use Rattle.pin_table.specs.declared.table.PinTable.{PinTable}
use Rattle.pin_table.specs.declared.views.Drain.{Drain}
use Rattle.pin_table.specs.declared.views.PassView.{PassView}
use Rattle.pin_table.specs.declared.views.Plan.{Plan}
use Rattle.pin_table.specs.Closing.{chains_left, drains_left, joined_at, joined_plan}
use Rattle.pin_table.specs.Known.{fresh}
use Rattle.pin_table.specs.Shown.{Once}
use Rattle.pin_table.specs.{IsKept, IsOfIdentity, plan_of, standing, views_of}
use Rattle.pin_table.specs.Handles.{pass_of}
use Rattle.pin_table.specs.Tags as tags
use Rattle.plugin_api.specs.declared.extra.Extra as extra
use Rattle.plugin_api.specs.declared.rulebook.Rulebook as rulebook
use Rattle.reload_watch.specs.declared.watcher.Watcher.{Watcher}
use Rattle.reload_watch.specs.EndLaws as ends
use Rattle.reload_watch.specs.EndLaws.{are_full}
use Rattle.reload_watch.specs.GenerationsLaws.{IsOfSerial, all_named, all_placed, among_somes, kept_serial, made_at, named_there, read_apart, readings_long, reads_at}
use Rattle.reload_watch.specs.Histories.{IsHome, IsLegalFor, places_by}
use Rattle.reload_watch.specs.Homes.{home_chains, home_uses, published_names, uses_in}
use Rattle.reload_watch.specs.HomesLaws.{IsOfFilled}
use Rattle.reload_watch.specs.Keeping.{IsKeeping}
use Rattle.reload_watch.specs.KeepsLaws.{uses-append}
use Rattle.reload_watch.specs.Named.{HaveCaches}
use Rattle.reload_watch.specs.NamedLaws.{by_long}
use Rattle.reload_watch.specs.NextLaws.{kinds, lents_same, used}
use Rattle.reload_watch.specs.TurningLaws.{all_turned, at_all, drain_at, drain_turned, once_turned}

-- a use of a cache counts under its name, and all uses under a name are of one cache
counted : (name : CacheName) (n : NamedData) (us : List LentData) → n.name ≡ name → IsIn n (map named_of us) → 0 < count_named name (use_names us)
counted name n [] is among = absurd among
counted name n (u ∷ us) is (inl e) =
    let same : same_name name u.name ≡ true = subst (λ (k : CacheName). same_name name k ≡ true) (sym (ap (λ (m : NamedData). m.name) e ∙ is)) (same_self name) in
    rw same (omega arith)
counted name n (u ∷ us) is (inr other) = let rest = counted name n us is other in omega (arith, rest)

cache_is : (name : CacheName) (n : NamedData) (cache : CacheOf) (us : List LentData) → n.name ≡ name → IsIn n (map named_of us) → AllOf name cache us → n.cache ≡ cache
cache_is name n cache [] is among all = absurd among
cache_is name n cache (u ∷ us) is (inl e) all =
    let same : same_name name u.name ≡ true = subst (λ (k : CacheName). same_name name k ≡ true) (sym (ap (λ (m : NamedData). m.name) e ∙ is)) (same_self name) in
    sym (ap (λ (m : NamedData). m.cache) e) ∙ all.0 same
cache_is name n cache (u ∷ us) is (inr other) all = cache_is name n cache us is other all.1

in_left : (n : NamedData) (us vs : List LentData) → IsIn n (map named_of us) → IsIn n (map named_of (us ++ vs))
in_left n [] vs is = absurd is
in_left n (u ∷ us) vs (inl e) = inl e
in_left n (u ∷ us) vs (inr other) = inr (in_left n us vs other)

in_right : (n : NamedData) (us vs : List LentData) → IsIn n (map named_of vs) → IsIn n (map named_of (us ++ vs))
in_right n [] vs is = is
in_right n (u ∷ us) vs is = inr (in_right n us vs is)

module _ {B E : Type 0} {bk : rulebook.Ghosts B} {ex : extra.Ghosts E} where
  in_chains : (n : NamedData) (chains : List (Chain B E bk ex)) (k : ℕ) (c : Chain B E bk ex) → slice_get chains k ≡ Some c → IsIn n (map named_of (chain_lents c)) → IsIn n (map named_of (chains_lents chains))
  in_chains n [] k c at is = absurd (none-some c at)
  in_chains n (d ∷ chains) zero c at is = in_left n (chain_lents d) (chains_lents chains) (subst (λ (x : Chain B E bk ex). IsIn n (map named_of (chain_lents x))) (sym (same_Some d c at)) is)
  in_chains n (d ∷ chains) (suc k) c at is = in_right n (chain_lents d) (chains_lents chains) (in_chains n chains k c at is)

  -- the chains of these, the last ones that came home behind the others
  abbrev drained : List (Drain (Chain B E bk ex)) → List (Chain B E bk ex)
  drained ds = map (λ (d : Drain (Chain B E bk ex)). d.chain) ds

  module _ {W N K : Type 0} (table : PinTable (Chain B E bk ex) N K) (w : Watcher W B E bk ex) (passes : List (Pass (Chain B E bk ex))) where
    abbrev now : Plan (Chain B E bk ex)
    now = plan_of w.publisher

    abbrev last : Plan (Chain B E bk ex)
    last = joined_plan now passes

    -- as the law of all chains home asks
    pub home_asks : IsKeeping table w → AreAccounted last × AreFull last
    home_asks keeps = (
      record {
        four = keeps.accounted.four;
        serials = keeps.accounted.serials;
        each = λ s v low worker. by s v (keeps.accounted.each s v low worker);
      },
      are_full chain_identity now keeps.stands keeps.count,
    )
      where
        by : (s v : ℕ) → HasDrain s v now.drains ⊎ IsLive now s v → HasDrain s v last.drains ⊎ IsLive last s v
        by s v (inl has) = inl has
        by s v (inr live) = inr (record { slot = live.slot; within = live.within; serial_is = live.serial_is; has = live.has })

    module _ (home : List (Chain B E bk ex)) (is : IsHome table w passes home) where
      abbrev generations : List PlansData
      generations = is.keeps.named.generations

      abbrev qs : List (PassView (Chain B E bk ex))
      qs = views_of passes

      -- all that came home, in their order
      abbrev ds : List (Drain (Chain B E bk ex))
      ds = reverse now.drains ++ drains_left last

      abbrev Came : Drain (Chain B E bk ex) → Type 0
      Came d = IsKept chain_identity chain_log now.past.filled (joined_at qs d.worker).turns d

      came : All Came ds
      came = all_turned Came (drains_left last) now.drains is.traced.homes

      once : Once ds
      once = once_turned (drains_left last) now.drains is.closed.once

      of_serial : (es : List (Drain (Chain B E bk ex))) → All Came es → All (IsOfSerial generations) (drained es)
      of_serial [] all = All-nil (IsOfSerial generations)
      of_serial (d ∷ es) all =
          All-cons (IsOfSerial generations) d.chain (drained es)
          (kept_serial generations now.past.filled (joined_at qs d.worker).turns d is.keeps.named.by (All-head Came d es all)) (of_serial es (All-tail Came d es all))

      owned : All IsOwned ds
      owned = All-weaker Came IsOwned (λ d kept. record { serial = kept.serial; worker = kept.worker }) ds came

      -- what was left came home
      left_is : home ≡ chains_left last
      left_is = is.home_is ∙ ap (λ (l : List (Chain B E bk ex)). l ++ chains_left last) is.keeps.home.none

      left_of : All (IsOfFilled chain_identity now) home
      left_of = subst (All (IsOfFilled chain_identity now)) (sym left_is)
          (All-weaker (IsOfFilled chain_identity last) (IsOfFilled chain_identity now) (λ c of. record { first = of.first; among = of.among; same = of.same }) (chains_left last)
          (ends.closed_named chain_identity chain_log last is.traced))

      sum_is : (f : Chain B E bk ex → ℕ) → IsOfIdentity chain_identity f → sum_by f home ≡ standing f now
      sum_is f of =
          let came_home = is.sum f of in
          let zeroth : sum_by f w.home.items ≡ 0 = ap (λ (l : List (Chain B E bk ex)). sum_by f l) is.keeps.home.none in
          omega (arith, came_home, zeroth)

      -- their uses
      uses_are : home_uses chain_lents now ++ uses_in chain_lents home ≡ chains_lents (drained ds)
      uses_are =
          ap (λ (l : List (Chain B E bk ex)). home_uses chain_lents now ++ uses_in chain_lents l) left_is
          ∙ sym (uses-append chain_lents (home_chains now) (chains_left last))
          ∙ ap (λ (l : List (Chain B E bk ex)). uses_in chain_lents l) (sym (map-append (λ (d : Drain (Chain B E bk ex)). d.chain) (reverse now.drains) (drains_left last)))
          ∙ lents_same (drained ds)

      -- so each cache that was published has gone
      gone_of : (name : CacheName) → 0 < count_named name (use_names (chains_lents (drained ds))) → HasGone (published_names chain_lents now) (chains_lents (drained ds)) name
      gone_of name some =
          let all = ends.came_all chain_identity chain_lents kinds used now home (caches_data w.caches) left_of sum_is is.keeps.caches name in
          let whole = subst (λ (us : List LentData). AreWhole (given_all us (caches_data w.caches))) (sym (lents_same home)) is.whole in
          let gone = ends.closed_gone chain_identity chain_lents kinds used now home (caches_data w.caches) left_of sum_is is.keeps.caches whole in
          let same = ap (λ (us : List LentData). count_named name (use_names us)) uses_are in
          subst (λ (us : List LentData). HasGone (published_names chain_lents now) us name) uses_are (gone.1 name (omega (arith, some, all, same)))

      published_long : length (readings_of (map plans_generation generations)) ≡ length now.past.filled
      published_long = readings_long generations ∙ by_long generations now.past.filled is.keeps.named.by

      -- where the chain of a serial and worker came home
      drain_of : (serial worker : ℕ) → serial < length now.past.filled → worker < now.workers → (d : Drain (Chain B E bk ex)) × (k : ℕ) × (slice_get ds k ≡ Some d) × (d.serial ≡ serial) × (d.worker ≡ worker)
      drain_of serial worker low few =
          let count = is.keeps.count in
          drain_at serial worker ds (drain_turned serial worker (drains_left last) now.drains (is.all serial worker (omega (arith, low, count)) few))

      -- the cache of a name that is read has gone, with the capacities of what its blocks read
      gone_for : (name : names.CacheName) (reads : BlockReading) → reading (readings_of (map plans_generation generations)) name.serial name.block ≡ Some reads
          → names_of (map plans_generation generations) name.serial name.block ≡ Some name → GoneFor IsLegalFor (published_names chain_lents now) (drained ds) (name_at name.serial name.block) reads
      gone_for name reads read named =
          let there = named_there generations name.serial name.block name named in
          let have = at_all (HaveCaches bk.taken bk.said) generations name.serial there.plans is.keeps.named.have there.is in
          let made = made_at (plans_generation there.plans).readings (map chain_named there.plans.chains) name.block reads there.n have.made (sym (reads_at generations name.serial there.plans name.block there.is) ∙ read) there.there in
          let low = there.low in
          let long = by_long generations now.past.filled is.keeps.named.by in
          let some = is.keeps.some in
          let workers = is.keeps.workers in
          let d = drain_of name.serial 0 (omega (arith, low, long)) (omega (arith, some, workers)) in
          let kept = at_all Came ds d.1 d.0 came d.2 in
          let serves = kept_serial generations now.past.filled (joined_at qs d.0.worker).turns d.0 is.keeps.named.by kept in
          let at_serial : (owner_of d.0.chain).serial ≡ name.serial = kept.serial ∙ d.3 in
          let plans : plans_of d.0.chain ≡ there.plans = same_Some (plans_of d.0.chain) there.plans (sym serves ∙ (λ i. slice_get generations (at_serial i)) ∙ there.is) in
          let uses : map named_of (chain_lents d.0.chain) ≡ plans_caches there.plans = chain_uses d.0.chain ∙ ap plans_caches plans in
          let among = in_chains there.n (drained ds) d.1 d.0.chain (slice_get-map (λ (x : Drain (Chain B E bk ex)). x.chain) ds d.1 ∙ ap (λ (o : Option (Drain (Chain B E bk ex))). option_map (λ (x : Drain (Chain B E bk ex)). x.chain) o) d.2)
          (subst (IsIn there.n) (sym uses) (among_somes (map chain_named there.plans.chains) name.block there.n there.there)) in
          let name_is : there.n.name ≡ name_at name.serial name.block = ap (λ (x : names.CacheName). name_at x.serial x.block) there.name_is in
          let gone = gone_of (name_at name.serial name.block) (counted (name_at name.serial name.block) there.n (chains_lents (drained ds)) name_is among) in
          let cache = cache_is (name_at name.serial name.block) there.n gone.cache (chains_lents (drained ds)) name_is among gone.all_of in
          record {
            gone = gone;
            fits = λ marks legal plan planned. subst (λ (k : Capacities). IsLegal k marks) (ap (λ (x : CacheOf). x.capacities) (sym cache) ∙ made.room plan planned) legal;
          }

      module _ (told : List (List (List (Call Mark)))) (grown : ArePassesGrown chain_log (places_by generations) qs told) where
        abbrev pins : List (List (Pin Mark))
        pins = passes_with chain_log qs told

        abbrev homes : List (Home Mark)
        homes = map (λ (c : Chain B E bk ex). home_of c) (drained ds)

        home_kept : (d : Drain (Chain B E bk ex)) → Came d → history.IsKeptLog (history.log_kept (home_of d.chain).serial (pins_by pins (home_of d.chain).worker)) (chain_log d.chain)
        home_kept d kept =
            let same = worker_kept chain_identity chain_log (places_by generations) qs told d.worker d.serial (fresh d.worker) refl grown in
            let log = same_log (tags.log_kept chain_log d.serial (joined_at qs d.worker).turns) (chain_log d.chain) kept.kept in
            subst (λ (x : ℕ × ℕ). history.IsKeptLog (history.log_kept x.0 (pins_by pins x.1)) (chain_log d.chain)) (λ i. (sym kept.serial i, sym kept.worker i))
            (subst (λ (o : Option (List (List Mark))). history.IsKeptLog o (chain_log d.chain)) (sym same) log)

        homes_kept : (es : List (Drain (Chain B E bk ex))) → All Came es → All (λ (h : Home Mark). history.IsKeptLog (history.log_kept h.serial (pins_by pins h.worker)) h.log) (map (λ (c : Chain B E bk ex). home_of c) (drained es))
        homes_kept [] all = All-nil (λ (h : Home Mark). history.IsKeptLog (history.log_kept h.serial (pins_by pins h.worker)) h.log)
        homes_kept (d ∷ es) all =
            All-cons (λ (h : Home Mark). history.IsKeptLog (history.log_kept h.serial (pins_by pins h.worker)) h.log) (home_of d.chain) (map (λ (c : Chain B E bk ex). home_of c) (drained es))
            (home_kept d (All-head Came d es all)) (homes_kept es (All-tail Came d es all))

        homes_at : (k : ℕ) (d : Drain (Chain B E bk ex)) → slice_get ds k ≡ Some d → slice_get homes k ≡ Some (home_of d.chain)
        homes_at k d at =
            slice_get-map (λ (c : Chain B E bk ex). home_of c) (drained ds) k
            ∙ ap (λ (o : Option (Chain B E bk ex)). option_map (λ (c : Chain B E bk ex). home_of c) o) (slice_get-map (λ (x : Drain (Chain B E bk ex)). x.chain) ds k ∙ ap (λ (o : Option (Drain (Chain B E bk ex))). option_map (λ (x : Drain (Chain B E bk ex)). x.chain) o) at)

        are_home : AreHome (length now.past.filled) pins homes
        are_home = record {
          kept = homes_kept ds came;
          all = λ worker serial few low.
              let long = passes_long chain_identity chain_log (places_by generations) qs told grown in
              let each = is.each in
              let workers = is.keeps.workers in
              let views = length-map passes (λ (p : Pass (Chain B E bk ex)). pass_of p) in
              let d = drain_of serial worker low (omega (arith, few, long, views, each, workers)) in
              let kept = at_all Came ds d.1 d.0 came d.2 in
              (home_of d.0.chain, d.1, homes_at d.1 d.0 d.2, kept.worker ∙ d.4, kept.serial ∙ d.3);
        }

        told_pass : (k : ℕ) (q : PassView (Chain B E bk ex)) → slice_get qs k ≡ Some q → IsToldPass chain_identity chain_log (places_by generations) now.past.filled q
        told_pass k q at = record { worker = k; given = is.traced.turns k q at; chained = is.closed.turns k q at }

        -- what ends a run, by the seats of the chains that came home
        pub ended_home : EndedBySeats has_cache IsLegalFor (readings_of (map plans_generation generations)) pins
        ended_home =
            let seats = home_seats IsLegalFor (map plans_generation generations) (places_by generations) (drained ds) (published_names chain_lents now) is.keeps.named.names
            (read_apart bk.taken bk.said generations is.keeps.named.have) (all_named generations (drained ds) (of_serial ds came)) (drained_apart ds owned once) (all_placed generations (drained ds) (of_serial ds came)) gone_for in
            record {
              names = names_of (map plans_generation generations);
              places = places_by generations;
              homes = homes;
              named = seats.named;
              pins = λ v. subst (λ (n : ℕ). ArePins (places_by generations) n (pins_by pins v)) (sym published_long) (worker_pins chain_identity chain_log (places_by generations) now.past.filled qs told v grown told_pass);
              home = subst (λ (n : ℕ). AreHome n pins homes) (sym published_long) are_home;
              seats = λ shard. seats_home shard (drained ds);
              are = seats.are;
              logs = seats.logs;
              whole = seats.whole;
            }
