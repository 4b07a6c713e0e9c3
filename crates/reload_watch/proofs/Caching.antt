-- Which caches are held behind sweeps, and serve.
use Rattle.std.proofs.Common.{◌≡◌, inl, inr, ℕ, ◌+◌, ◌<◌, List, [], ◌∷◌, ◌++◌, map, length, refl, sym, ap, ◌∙◌, subst, arith}
use Rattle.std.specs.Arc.{arc_value}
use Rattle.std.specs.List.{All, sum_by}
use Rattle.std.proofs.lemmas.List.Elements.{All-head, All-tail}
use Rattle.chain_build.specs.declared.block.BlockChain.{BlockChain}
use Rattle.chain_build.specs.declared.chain.Chain.{Chain}
use Rattle.chain_build.specs.declared.naming.Naming.{Naming}
use Rattle.chain_build.specs.{PlansData, chain_identity, plans_of}
use Rattle.chain_build.specs.Lending.{chain_names, names_in}
use Rattle.chain_build.specs.LentsLaws.{IsIn, all_by, chain_use_names, chain_uses, plans_caches, plans_precede}
use Rattle.chain_build.specs.Naming.{IsOfPlans, PlansServed}
use Rattle.chain_build.specs.Uses.{chain_named}
use Rattle.chain_build.specs.Workers.{chain_lents, chains_lents}
use Rattle.lent_caches.specs.Building.{AreDistinct}
use Rattle.lent_caches.specs.Held.{AreWhole, HeldData, LentData, caches_data, given_all, stays}
use Rattle.lent_caches.specs.Ledger.{AllHeld, use_names}
use Rattle.lent_caches.specs.Named.{IsHeldBy, NamedData, named_of}
use Rattle.pin_table.specs.declared.free_slots.FreeSlot.{FreeSlot}
use Rattle.pin_table.specs.declared.table.PinTable.{PinTable}
use Rattle.pin_table.specs.declared.views.Past.{Past}
use Rattle.pin_table.specs.declared.views.Plan.{Plan}
use Rattle.pin_table.specs.{IsFreed, IsOfIdentity, IsStanding, count_of, plan_of, standing}
use Rattle.plugin_api.specs.declared.extra.Extra as extra
use Rattle.plugin_api.specs.declared.rulebook.Rulebook as rulebook
use Rattle.reload_watch.specs.declared.watcher.Watcher.{Watcher}
use Rattle.reload_watch.specs.Filled.{EndsWith}
use Rattle.reload_watch.specs.Keeping.{IsKeeping}
use Rattle.reload_watch.specs.Homes.{HaveDistinct}
use Rattle.reload_watch.specs.HomesLaws.{Among, GrowsHome, grows_freed}
use Rattle.reload_watch.specs.KeepsLaws.{freed_held, freed_keeps, last_held}
use Rattle.reload_watch.specs.Placing.{IsPlaced}
use Rattle.reload_watch.specs.Publishing.{KeepsPast}
use Rattle.reload_watch.specs.NextLaws.{IsNaming, Keeps, kinds, lents_same, used}

all_last : {X : Type 0} (P : X → Type 0) (xs : List X) (x : X) → All P (xs ++ x ∷ []) → P x
all_last P [] x all = All-head P x [] all
all_last P (y ∷ xs) x all = all_last P xs x (All-tail P y (xs ++ x ∷ []) all)

-- a cache of uses is one of these
pub record HasUse (n : NamedData) (us : List LentData) : Type 0 where
  pub use_is : LentData
  pub among : Among use_is us
  pub same : named_of use_is ≡ n

in_uses : (n : NamedData) (us : List LentData) → IsIn n (map named_of us) → HasUse n us
in_uses n [] is = absurd is
in_uses n (u ∷ us) (inl is) = record { use_is = u; among = inl refl; same = is }
in_uses n (u ∷ us) (inr other) = let h = in_uses n us other in record { use_is = h.use_is; among = inr h.among; same = h.same }

module _ {B E : Type 0} {bk : rulebook.Ghosts B} {ex : extra.Ghosts E} where
  -- behind a search for a free slot
  module _ (p p' : Plan (Chain B E bk ex)) (home home' : List (Chain B E bk ex)) (answer : FreeSlot) (held : List HeldData) (none : home ≡ []) (freed : IsFreed p home answer home' p')
      (sum : (f : Chain B E bk ex → ℕ) → IsOfIdentity chain_identity f → sum_by f home' + standing f p' ≡ sum_by f home + standing f p) (stands : IsStanding chain_identity p') (keeps : Keeps p held) where
    grows : GrowsHome p [] home' p'
    grows = subst (λ (h : List (Chain B E bk ex)). GrowsHome p h home' p') none (grows_freed p home answer home' p' freed)

    moved : (f : Chain B E bk ex → ℕ) → IsOfIdentity chain_identity f → sum_by f home' + standing f p' ≡ standing f p
    moved f of =
        let is = sum f of in
        let zeroth : sum_by f home ≡ 0 = ap (λ (l : List (Chain B E bk ex)). sum_by f l) none in
        omega (arith, is, zeroth)

    pub back_held : AllHeld (chains_lents home') held
    back_held = subst (λ (us : List LentData). AllHeld us held) (lents_same home') (freed_held chain_identity chain_lents kinds used p p' home' held grows moved stands.named keeps)

    pub back_keeps : (after : List HeldData) → after ≡ stays (given_all (chains_lents home') held) → AreWhole (given_all (chains_lents home') held) → Keeps p' after
    back_keeps after is whole =
        let same = lents_same home' in
        subst (Keeps p') (ap (λ (us : List LentData). stays (given_all us held)) same ∙ sym is)
        (freed_keeps chain_identity chain_lents kinds used p p' home' held grows moved stands.named keeps (subst (λ (us : List LentData). AreWhole (given_all us held)) (sym same) whole))

  -- the chains of the last generation
  last_long : (p : Plan (Chain B E bk ex)) (plans : PlansData) (ends : EndsWith p.past.filled plans) → IsStanding chain_identity p → length ends.chains ≡ p.workers
  last_long p plans ends stands =
      all_last (λ (cs : List (Chain B E bk ex)). length cs ≡ p.workers) ends.earlier ends.chains (subst (All (λ (cs : List (Chain B E bk ex)). length cs ≡ p.workers)) ends.last_is stands.full)

  first_held : (p : Plan (Chain B E bk ex)) (plans : PlansData) (held : List HeldData) (earlier : List (List (Chain B E bk ex))) (chains : List (Chain B E bk ex)) → Keeps p held → IsPlaced p → length p.past.filled ≡ count_of p → p.past.filled ≡ earlier ++ chains ∷ []
      → All (λ chain. plans_of chain ≡ plans) chains → 0 < length chains → (n : NamedData) → IsIn n (plans_caches plans) → IsHeldBy n held
  first_held p plans held earlier [] keeps placed count last serve some n is = absurd (omega (arith, some))
  first_held p plans held earlier (c ∷ cs) keeps placed count last serve some n is =
      let by : plans_of c ≡ plans = All-head (λ (x : Chain B E bk ex). plans_of x ≡ plans) c cs serve in
      let has = in_uses n (chain_lents c) (subst (λ (l : List NamedData). IsIn n l) (sym (chain_uses c ∙ ap plans_caches by)) is) in
      subst (λ (m : NamedData). IsHeldBy m held) has.same (last_held chain_identity chain_lents kinds used p held earlier (c ∷ cs) c has.use_is keeps placed count last (inl refl) has.among)

  -- what serves is still served
  pub still_served : (p : Plan (Chain B E bk ex)) (plans : PlansData) (before held : List HeldData) → Keeps p held → IsPlaced p → IsStanding chain_identity p → length p.past.filled ≡ count_of p → EndsWith p.past.filled plans → 0 < p.workers → PlansServed plans before → PlansServed plans held
  still_served p plans before held keeps placed stands count ends some served =
      let long = last_long p plans ends stands in
      record {
        named = served.named;
        made = served.made;
        by = all_by (map chain_named plans.chains) held (first_held p plans held ends.earlier ends.chains keeps placed count ends.last_is ends.serve (omega (arith, long, some)));
      }

  -- so it is behind a sweep
  pub swept_served : {W N K : Type 0} (table : PinTable (Chain B E bk ex) N K) (watcher : Watcher W B E bk ex) (p : Plan (Chain B E bk ex)) (held : List HeldData) → IsKeeping table watcher → KeepsPast (plan_of watcher.publisher) p → IsPlaced p → IsStanding chain_identity p → Keeps p held
      → PlansServed (arc_value watcher.current) held
  swept_served table watcher p held k past placed stands keeps =
      let workers = past.workers in
      let same = k.workers in
      let some = k.some in
      still_served p (arc_value watcher.current) (caches_data watcher.caches) held keeps placed stands
      (ap (λ (q : Past (Chain B E bk ex)). length q.filled) past.past ∙ k.count ∙ ap (λ (q : Past (Chain B E bk ex)). length q.published) (sym past.past))
      (subst (λ (q : Past (Chain B E bk ex)). EndsWith q.filled (arc_value watcher.current)) (sym past.past) k.current) (omega (arith, workers, same, some)) k.served

  first_distinct : (plans : PlansData) (chains : List (Chain B E bk ex)) → HaveDistinct chain_lents chains → All (λ chain. plans_of chain ≡ plans) chains → 0 < length chains → AreDistinct (chain_names plans.chains)
  first_distinct plans [] distinct serve some = absurd (omega (arith, some))
  first_distinct plans (c ∷ cs) distinct serve some =
      let by : plans_of c ≡ plans = All-head (λ (x : Chain B E bk ex). plans_of x ≡ plans) c cs serve in
      subst AreDistinct (chain_use_names c ∙ ap (λ (q : PlansData). chain_names q.chains) by) (All-head (λ (x : Chain B E bk ex). AreDistinct (use_names (chain_lents x))) c cs distinct)

  -- the caches that serve are all different
  pub current_distinct : (p : Plan (Chain B E bk ex)) (plans : PlansData) (held : List HeldData) → Keeps p held → IsStanding chain_identity p → EndsWith p.past.filled plans → 0 < p.workers → AreDistinct (chain_names plans.chains)
  current_distinct p plans held keeps stands ends some =
      let long = last_long p plans ends stands in
      first_distinct plans ends.chains (all_last (HaveDistinct chain_lents) ends.earlier ends.chains (subst (All (HaveDistinct chain_lents)) ends.last_is keeps.distinct)) ends.serve (omega (arith, long, some))

  -- some chain serves by what serves
  pub long_last : {W N K : Type 0} (table : PinTable (Chain B E bk ex) N K) (watcher : Watcher W B E bk ex) (k : IsKeeping table watcher) → 0 < length k.current.chains
  long_last table watcher k =
      let long = last_long (plan_of watcher.publisher) (arc_value watcher.current) k.current k.stands in
      let workers = k.workers in
      let some = k.some in
      omega (arith, long, workers, some)

  -- what a watcher has for the next generation
  pub naming_is : {W N K : Type 0} (table : PinTable (Chain B E bk ex) N K) (watcher : Watcher W B E bk ex) (naming : Naming) → IsKeeping table watcher → naming.serial ≡ count_of (plan_of watcher.publisher) → IsOfPlans (arc_value watcher.current) naming.before
      → IsNaming (plan_of watcher.publisher) (caches_data watcher.caches) naming
  naming_is table watcher naming k serial of =
      let workers = k.workers in
      let some = k.some in
      let few = k.few in
      record {
        keeps = k.caches;
        stands = k.stands;
        some = omega (arith, workers, some);
        few = omega (arith, workers, few);
        serial_is = serial;
        precedes = plans_precede bk.taken bk.said (arc_value watcher.current) naming.before (caches_data watcher.caches) of k.are k.served;
        distinct = subst (λ (cs : List BlockChain). AreDistinct (names_in (map chain_named cs))) (sym of.chains)
            (current_distinct (plan_of watcher.publisher) (arc_value watcher.current) (caches_data watcher.caches) k.caches k.stands k.current (omega (arith, workers, some)));
      }
