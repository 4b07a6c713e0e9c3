-- Which caches are held, and serve, once the next generation is published.
use Rattle.std.proofs.Common.{◌≡◌, ℕ, ◌<◌, ◌≤◌, List, [], ◌∷◌, ◌++◌, map, length, Option, Some, None, refl, sym, ap, ◌∙◌, subst, arith}
use Rattle.std.specs.List.{All, sum_by}
use Rattle.chain_build.specs.declared.block.BlockChain.{BlockChain}
use Rattle.chain_build.specs.declared.chain.Chain.{Chain}
use Rattle.chain_build.specs.declared.naming.Naming.{Naming}
use Rattle.chain_build.specs.{ArePlans, PlansData, chain_identity, plans_of}
use Rattle.chain_build.specs.Lending.{AreHeldBy, IsNamed, chain_names, names_in}
use Rattle.chain_build.specs.LentsLaws.{chain_use_names, chain_uses, chains_held, named_served, plans_caches}
use Rattle.chain_build.specs.Naming.{AbsentFrom, AddsCaches, AreMadeFor, IsNewFrom, IsNone, PlansServed, Precedes, change, generation_data, name_at}
use Rattle.chain_build.specs.NamesLaws.{names_distinct}
use Rattle.chain_build.specs.Uses.{chain_named}
use Rattle.chain_build.specs.Workers.{chain_lents, chains_lents}
use Rattle.lent_caches.specs.declared.name.CacheName.{CacheName}
use Rattle.lent_caches.specs.Building.{AreDistinct, CanLendTimes, lent_times}
use Rattle.lent_caches.specs.Held.{AreApart, HeldData, LentData, stays}
use Rattle.lent_caches.specs.KeptLaws.{each_to, new_goes}
use Rattle.lent_caches.specs.Ledger.{AllHeld, Each, use_names}
use Rattle.lent_caches.specs.LedgerLaws.{AllNamed}
use Rattle.lent_caches.specs.Named.{NamedData, named_of}
use Rattle.lent_caches.specs.NamedLaws.{apart_times, by_named, by_times}
use Rattle.lent_caches.specs.RoomLaws.{can_build}
use Rattle.pin_core.specs.declared.slots.TheConstants.{WORKERS}
use Rattle.pin_table.specs.declared.views.Plan.{Plan}
use Rattle.pin_table.specs.{Identity, IsStanding, count_of, standing}
use Rattle.plugin_api.specs.declared.extra.Extra as extra
use Rattle.plugin_api.specs.declared.rulebook.Rulebook as rulebook
use Rattle.reload_watch.specs.Homes.{IsOut, KeepsCaches, uses_in}
use Rattle.reload_watch.specs.KeepsLaws.{IsNewOf, held_out, names_before, none_later, published_keeps, rooms, undone}
use Rattle.reload_watch.specs.Naming.{NamesNext}
use Rattle.reload_watch.specs.Publishing.{AddsGeneration}
use Rattle.chain_build.specs.Plans.{block_cache, cache_in}
use Rattle.std.proofs.lemmas.List.Elements.{All-nil, All-weaker}
use Rattle.all_home.specs.AllHome.{AreAccounted}
use Rattle.block_readings.specs.Readings.{block_reading}
use Rattle.chain_build.specs.declared.naming.Generation.{Generation}
use Rattle.corefile_blocks.specs.Readable.{HasShortBytes}
use Rattle.dns_data.specs.declared.block.Block.{Block}
use Rattle.pin_table.specs.Known.{first_plan}
use Rattle.pin_table.specs.Opening.{IsOpened}
use Rattle.reload_watch.specs.AccountsLaws.{opened_accounts}
use Rattle.reload_watch.specs.StartLaws.{adds_first, keeps_none, stands_none}

-- names of caches that are held
all_named : (named : List (Option NamedData)) (held : List HeldData) → AreHeldBy named held → AllNamed (names_in named) held
all_named [] held by = tt
all_named (None ∷ named) held by = all_named named held by
all_named (Some n ∷ named) held by = (by_named n held by.0, all_named named held by.1)

-- lending changes no cache
by_lent_times : (named : List (Option NamedData)) (k : ℕ) (ns : List CacheName) (held : List HeldData) → AreHeldBy named held → AreHeldBy named (lent_times k ns held)
by_lent_times [] k ns held by = tt
by_lent_times (None ∷ named) k ns held by = by_lent_times named k ns held by
by_lent_times (Some n ∷ named) k ns held by = (by_times n k ns held by.0, by_lent_times named k ns held by.1)

new_of : (serial : ℕ) (fresh : List HeldData) → Each (IsNewFrom serial 0) fresh → Each (IsNewOf serial) fresh
new_of serial fresh new = each_to (IsNewFrom serial 0) (IsNewOf serial) (λ h n. (n.serial_is, (n.none_out, n.none_back))) fresh new

-- the caches of which chains of an identity have uses
abbrev pub kinds : Identity PlansData → List NamedData
kinds i = plans_caches i.kind

-- new caches go where no use of them is lent
pub new_undone : (serial : ℕ) (before after : List HeldData) → Each (IsOut 0) before → AddsCaches serial 0 before after → stays after ≡ before
new_undone serial before after out adds =
    ap stays adds.behind
    ∙ new_goes before adds.fresh (each_to (IsOut 0) (λ h. 0 < h.out) (λ h is. is.0) before out) (each_to (IsNewFrom serial 0) (λ h. h.out ≡ 0) (λ h n. n.none_out) adds.fresh adds.new)

-- the first generation follows none
pub none_precedes : (g : Generation) → IsNone g → Precedes g []
none_precedes g none = record {
  short = subst (All HasShortBytes) (sym none.files) (All-nil HasShortBytes);
  cached = ap (map cache_in) none.chains ∙ ap (map block_cache) (sym none.blocks);
  served = record {
    named = subst (All IsNamed) (sym none.chains) (All-nil IsNamed);
    made = subst (λ (bs : List Block). AreMadeFor (map (block_reading g.files.now) bs) (map chain_named g.chains.now)) (sym none.blocks)
        (subst (λ (cs : List BlockChain). AreMadeFor [] (map chain_named cs)) (sym none.chains) tt);
    by = subst (λ (cs : List BlockChain). AreHeldBy (map chain_named cs) []) (sym none.chains) tt;
  };
}

module _ {B E : Type 0} {bk : rulebook.Ghosts B} {ex : extra.Ghosts E} where
  pub used : (c : Chain B E bk ex) → map named_of (chain_lents c) ≡ kinds (chain_identity c)
  used c = chain_uses c

  pub lents_same : (cs : List (Chain B E bk ex)) → uses_in chain_lents cs ≡ chains_lents cs
  lents_same [] = refl
  lents_same (c ∷ cs) = ap (λ (l : List LentData). chain_lents c ++ l) (lents_same cs)

  abbrev pub Keeps : Plan (Chain B E bk ex) → List HeldData → Type 0
  Keeps p held = KeepsCaches chain_identity chain_lents p held

  -- the uses of chains that were built are of caches that are held
  pub lent_held : (next : PlansData) (chains : List (Chain B E bk ex)) (k : ℕ) (mid after : List HeldData) → AreHeldBy (map chain_named next.chains) mid → AreApart mid → All (λ chain. plans_of chain ≡ next) chains → after ≡ lent_times k (chain_names next.chains) mid
      → AllHeld (chains_lents chains) after × AreApart after
  lent_held next chains k mid after by apart all lent =
      subst (λ (hs : List HeldData). AllHeld (chains_lents chains) hs × AreApart hs) (sym lent)
      (chains_held next chains (lent_times k (chain_names next.chains) mid) (by_lent_times (map chain_named next.chains) k (chain_names next.chains) mid by) all, apart_times k (chain_names next.chains) mid apart)

  -- what the next generation is named by: what is held, no cache of its serial among that, and the
  -- generation before, whose caches are all different
  pub record IsNaming (p : Plan (Chain B E bk ex)) (held : List HeldData) (naming : Naming) : Type 0 where
    pub keeps : Keeps p held
    pub stands : IsStanding chain_identity p
    pub some : 0 < p.workers
    pub few : p.workers ≤ WORKERS
    pub serial_is : naming.serial ≡ count_of p
    pub precedes : Precedes naming.before held
    pub distinct : AreDistinct (names_in (generation_data naming.before).named)

  module _ (p : Plan (Chain B E bk ex)) (held : List HeldData) (naming : Naming) (is : IsNaming p held naming) where
    pub next_absent : AbsentFrom naming.serial 0 held
    next_absent = λ block low. let serial = is.serial_is in none_later chain_identity chain_lents kinds used p held (name_at naming.serial block) is.keeps (omega (arith, serial))

    pub next_out : Each (IsOut 0) held
    next_out = each_to (IsOut p.workers) (IsOut 0) (λ h out. let less = out.1 in (out.0, omega (arith, less))) held (held_out chain_identity chain_lents kinds used p held is.keeps is.stands is.few)

    module _ (plans next : PlansData) (mid : List HeldData) (are : ArePlans bk.taken bk.said next) (names : NamesNext naming plans next held mid) where
      fresh_new : Each (IsNewOf (count_of p)) names.adds.fresh
      fresh_new = subst (λ (n : ℕ). Each (IsNewOf n) names.adds.fresh) is.serial_is (new_of naming.serial names.adds.fresh names.adds.new)

      next_named : AllNamed (chain_names next.chains) (held ++ names.adds.fresh)
      next_named = subst (AllNamed (chain_names next.chains)) names.adds.behind (all_named (map chain_named next.chains) mid names.names.reads.by)

      pub next_distinct : AreDistinct (chain_names next.chains)
      next_distinct = names_distinct naming bk.taken bk.said next (change held mid) are is.precedes next_absent is.distinct names.names

      -- a chain can be built for each worker
      pub next_can : CanLendTimes p.workers (chain_names next.chains) mid
      next_can =
          let few = is.few in
          subst (CanLendTimes p.workers (chain_names next.chains)) (sym names.adds.behind)
          (can_build p.workers (chain_names next.chains) (held ++ names.adds.fresh) next_distinct
          (rooms p.workers held names.adds.fresh (chain_names next.chains) (omega (arith, few)) (held_out chain_identity chain_lents kinds used p held is.keeps is.stands is.few)
          (each_to (IsNewOf (count_of p)) (λ h. h.out ≡ 0) (λ h n. n.1.0) names.adds.fresh fresh_new) next_named))

      -- where none is, what is new goes
      pub next_undone : (after : List HeldData) → after ≡ mid → stays after ≡ held
      next_undone after same = ap stays (same ∙ names.adds.behind) ∙ undone chain_identity chain_lents kinds used p held names.adds.fresh is.keeps fresh_new

      module _ (p' : Plan (Chain B E bk ex)) (chains : List (Chain B E bk ex)) (after : List HeldData) (adds : AddsGeneration p chains p') (by : All (λ chain. plans_of chain ≡ next) chains) (long : length chains ≡ p.workers) (lent : after ≡ lent_times p.workers (chain_names next.chains) mid) where
        same_names : (cs : List (Chain B E bk ex)) → All (λ chain. plans_of chain ≡ next) cs → All (λ c. use_names (chain_lents c) ≡ chain_names next.chains) cs
        same_names cs all = All-weaker (λ (c : Chain B E bk ex). plans_of c ≡ next) (λ (c : Chain B E bk ex). use_names (chain_lents c) ≡ chain_names next.chains)
            (λ c e. chain_use_names c ∙ ap (λ (q : PlansData). chain_names q.chains) e) cs all

        -- and where they are published
        pub next_keeps : Keeps p' after
        next_keeps =
            let some = is.some in
            let all = subst (AllHeld (chains_lents chains)) names.adds.behind (chains_held next chains mid names.names.reads.by by) in
            let kept = published_keeps chain_identity chain_lents kinds used p p' chains held names.adds.fresh (chain_names next.chains) adds is.keeps fresh_new (same_names chains by) (omega (arith, long, some)) next_distinct
            (names_before chain_identity chain_lents kinds used p held names.adds.fresh (chain_names next.chains) is.keeps fresh_new next_named)
            (subst AreApart names.adds.behind names.adds.apart) (names.names.reads.used names.adds.fresh names.adds.behind)
            (subst (λ (us : List LentData). AllHeld us (held ++ names.adds.fresh)) (sym (lents_same chains)) all) in
            subst (Keeps p') ((λ i. lent_times (long i) (chain_names next.chains) (sym names.adds.behind i)) ∙ sym lent) kept

        pub next_served : PlansServed next after
        next_served =
            let served = named_served naming (change held mid) next names.names in
            record { named = served.named; made = served.made; by = subst (AreHeldBy (map chain_named next.chains)) (sym lent) (by_lent_times (map chain_named next.chains) p.workers (chain_names next.chains) mid served.by) }

  pub first_naming : (workers : ℕ) (naming : Naming) → 0 < workers → workers ≤ WORKERS → naming.serial ≡ 0 → IsNone naming.before → IsNaming (first_plan workers) [] naming
  first_naming workers naming some few serial none = record {
    keeps = keeps_none chain_identity chain_lents workers;
    stands = stands_none chain_identity workers;
    some = some;
    few = few;
    serial_is = serial;
    precedes = none_precedes naming.before none;
    distinct = subst (λ (cs : List BlockChain). AreDistinct (names_in (map chain_named cs))) (sym none.chains) tt;
  }

  -- where it is published, each chain's caches are held, and serve
  pub first_keeps : (naming : Naming) (plans next : PlansData) (mid : List HeldData) (p : Plan (Chain B E bk ex)) (chains : List (Chain B E bk ex)) (after : List HeldData) → 0 < length chains → length chains ≤ WORKERS → naming.serial ≡ 0 → IsNone naming.before
      → ArePlans bk.taken bk.said next → NamesNext naming plans next [] mid → IsOpened chains p → ((f : Chain B E bk ex → ℕ) → standing f p ≡ sum_by f chains) → All (λ chain. plans_of chain ≡ next) chains
      → after ≡ lent_times (length chains) (chain_names next.chains) mid → Keeps p after × (PlansServed next after × AreAccounted p)
  first_keeps naming plans next mid p chains after some few serial none are names opened sum by lent =
      let n = length chains in
      let is = first_naming n naming some few serial none in
      let adds = adds_first chain_identity chains p opened sum in (
        next_keeps (first_plan n) [] naming is plans next mid are names p chains after adds by refl lent,
        (
          next_served (first_plan n) [] naming is plans next mid are names p chains after adds by refl lent,
          subst AreAccounted (sym opened.1) (opened_accounts n opened.0 chains),
        ),
      )
