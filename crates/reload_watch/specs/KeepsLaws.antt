-- Which caches are held behind sweeps and publications, and what may be lent of them.
use Rattle.std.proofs.Common.{◌≡◌, ◌⊎◌, inl, inr, ℕ, zero, suc, ◌+◌, ◌<◌, ◌≤◌, List, [], ◌∷◌, ◌++◌, map, length, refl, sym, ap, ◌∙◌, subst, arith}
use Rattle.std.specs.List.{All, flat_map, sum_by}
use Rattle.std.proofs.lemmas.List.Elements.{All-head, All-push, All-tail, All-weaker}
use Rattle.std.proofs.lemmas.List.Sums.{sum_by-cons}
use Rattle.pin_core.specs.declared.slots.TheConstants.{WORKERS}
use Rattle.pin_table.specs.declared.views.Drain.{Drain}
use Rattle.pin_table.specs.declared.views.Past.{Past}
use Rattle.pin_table.specs.declared.views.Plan.{Plan}
use Rattle.pin_table.specs.Standing.{IsOfIdentity, IsStanding, standing}
use Rattle.pin_table.specs.Steps.{count_of}
use Rattle.pin_table.specs.Tags.{AreNamed}
use Rattle.lent_caches.specs.declared.name.CacheName.{CacheName}
use Rattle.lent_caches.specs.declared.uses.TheConstants.{PARTS}
use Rattle.lent_caches.specs.Building.{AreDistinct, HasRoom, HaveRoom, lent_times}
use Rattle.lent_caches.specs.Held.{AreApart, AreWhole, HeldData, IsAbsent, LentData, given_all, stays}
use Rattle.lent_caches.specs.KeptLaws.{are_both, are_left, are_right, are_same, as_given, as_held, as_lent, as_none, before_both, before_counted, before_more, before_none, by_published, count_both, counted_once, each_append, each_both, each_stays, each_to, copies_before, copies_front, copies_some, names_are, named_either, room_left, room_new, room_right, use_names-append}
use Rattle.lent_caches.specs.Ledger.{AllAs, AllHeld, AreAs, CameHome, Each, HasGone, IsAs, IsFresh, IsKept, IsLedger, count_named, use_names}
use Rattle.lent_caches.specs.Ledger as ledgers
use Rattle.lent_caches.specs.LedgerLaws.{AllNamed, names-append, publishes, retires}
use Rattle.lent_caches.specs.Named.{IsHeldBy, NamedData, named_of}
use Rattle.lent_caches.specs.RoomLaws.{all_held}
use Rattle.lent_caches.specs.Serials.{AreBefore}
use Rattle.lent_caches.specs.TimesLaws.{copies, times_is}
use Rattle.reload_watch.specs.Homes.{Balances, HaveDistinct, IsOut, KeepsCaches, filled_chains, home_chains, home_uses, published_names, published_uses, uses_in}
use Rattle.reload_watch.specs.HomesLaws.{Among, GrowsHome, IsOfFilled, all_filled, among_last, among_sum, balances_freed, balances_published, grown_named, last_stands, stands_most}
use Rattle.reload_watch.specs.Placing.{IsPlaced}
use Rattle.reload_watch.specs.Publishing.{AddsGeneration}

-- what is new behind a naming, of this serial
abbrev pub IsNewOf : ℕ → HeldData → Type 0
IsNewOf serial h = (h.name.serial ≡ serial) × ((h.out ≡ 0) × ((shard : ℕ) → h.logs shard ≡ []))

-- a use among others is as one of them
as_among : (u : LentData) (us : List LentData) → Among u us → IsAs u us
as_among u [] is = absurd is
as_among u (v ∷ us) (inl is) = inl (ap (λ (w : LentData). w.name) is, ap (λ (w : LentData). w.cache) is)
as_among u (v ∷ us) (inr other) = inr (as_among u us other)

counted_among : (u : LentData) (us : List LentData) → Among u us → 0 < count_named u.name (use_names us)
counted_among u [] is = absurd is
counted_among u (v ∷ us) (inl is) =
    let same = Rattle.lent_caches.specs.KeptLaws.same_self u.name in
    let name : v.name ≡ u.name = ap (λ (w : LentData). w.name) is in
    let one : ledgers.count_named u.name (v.name ∷ use_names us) ≡ ledgers.count_named u.name (u.name ∷ use_names us) = ap (λ (n : CacheName). ledgers.count_named u.name (n ∷ use_names us)) name in
    let here : 0 < ledgers.count_named u.name (u.name ∷ use_names us) = rw same (omega arith) in
    omega (arith, one, here)
counted_among u (v ∷ us) (inr other) = let rest = counted_among u us other in omega (arith, rest)

-- there is room for a chain of each of so many workers
pub rooms : (workers : ℕ) (held fresh : List HeldData) (ns : List CacheName) → workers < PARTS → Each (IsOut workers) held → Each (λ h. h.out ≡ 0) fresh → AllNamed ns (held ++ fresh) → HaveRoom workers ns (held ++ fresh)
rooms workers held fresh [] few out new all = tt
rooms workers held fresh (n ∷ ns) few out new all = (by (named_either n held fresh all.0), rooms workers held fresh ns few out new all.1)
  where
    at : (hs : List HeldData) → Each (IsOut workers) hs → ledgers.IsNamed n hs → HasRoom workers n hs
    at [] is named = named
    at (h ∷ hs) is (inl same) = inl (same, is.0.1)
    at (h ∷ hs) is (inr other) = inr (at hs is.1 other)

    by : ledgers.IsNamed n held ⊎ ledgers.IsNamed n fresh → HasRoom workers n (held ++ fresh)
    by (inl is) = room_left workers n held fresh (at held out is)
    by (inr is) = room_right workers n held fresh (room_new workers n fresh new few is)

-- a use of a cache that is held has its name
pub held_named : (us : List LentData) (hs : List HeldData) → AllHeld us hs → AllNamed (use_names us) hs
held_named [] hs all = tt
held_named (u ∷ us) hs all = (by hs all.0, held_named us hs all.1)
  where
    by : (ks : List HeldData) → Rattle.lent_caches.specs.Held.IsHeldAs u ks → ledgers.IsNamed u.name ks
    by [] is = is
    by (k ∷ ks) (inl is) = inl is.0
    by (k ∷ ks) (inr other) = inr (by ks other)

module _ {C : Type 0} (lents : C → List LentData) where
  -- how often chains have uses under a name
  abbrev pub weight : CacheName → C → ℕ
  weight name c = count_named name (use_names (lents c))

  pub uses-append : (cs ds : List C) → uses_in lents (cs ++ ds) ≡ uses_in lents cs ++ uses_in lents ds
  uses-append [] ds = refl
  uses-append (c ∷ cs) ds = ap (λ (l : List LentData). lents c ++ l) (uses-append cs ds) ∙ sym (Rattle.std.proofs.Common.append_assoc (lents c) (uses_in lents cs) (uses_in lents ds))

  pub counted_sum : (name : CacheName) (cs : List C) → count_named name (use_names (uses_in lents cs)) ≡ sum_by (weight name) cs
  counted_sum name [] = refl
  counted_sum name (c ∷ cs) =
      let both = names-append name (lents c) (uses_in lents cs) in
      let rest = counted_sum name cs in
      let s = sum_by-cons (weight name) c cs in
      omega (arith, both, rest, s)

  -- uses of one of several chains
  among_uses : (us : List LentData) (c : C) (cs : List C) → Among c cs → AreAs us (lents c) → AreAs us (uses_in lents cs)
  among_uses us c [] is are = absurd is
  among_uses us c (x ∷ xs) (inl is) are = are_left us (lents x) (uses_in lents xs) (subst (λ (d : C). AreAs us (lents d)) (sym is) are)
  among_uses us c (x ∷ xs) (inr other) are = are_right us (lents x) (uses_in lents xs) (among_uses us c xs other are)

  -- chains of the same names
  pub copied_uses : (ns : List CacheName) (cs : List C) → All (λ c. use_names (lents c) ≡ ns) cs → use_names (uses_in lents cs) ≡ copies (length cs) ns
  copied_uses ns [] all = refl
  copied_uses ns (c ∷ cs) all =
      use_names-append (lents c) (uses_in lents cs)
      ∙ ap (λ (l : List CacheName). l ++ use_names (uses_in lents cs)) (All-head (λ (x : C). use_names (lents x) ≡ ns) c cs all)
      ∙ ap (λ (l : List CacheName). ns ++ l) (copied_uses ns cs (All-tail (λ (x : C). use_names (lents x) ≡ ns) c cs all))
      ∙ sym (copies_front (length cs) ns)

  weights_once : (name : CacheName) (cs : List C) → HaveDistinct lents cs → All (λ c. weight name c ≤ 1) cs
  weights_once name cs distinct = All-weaker (λ (c : C). AreDistinct (use_names (lents c))) (λ (c : C). weight name c ≤ 1) (λ c d. counted_once name (use_names (lents c)) d) cs distinct

module _ {C I : Type 0} (identity : C → I) (lents : C → List LentData) (kinds : I → List NamedData) (used : (c : C) → map named_of (lents c) ≡ kinds (identity c)) where
  -- which caches a chain has uses of is told by its identity
  pub of_identity : (name : CacheName) → IsOfIdentity identity (weight lents name)
  of_identity name c d same =
      let names : use_names (lents c) ≡ use_names (lents d) =
      names_are (lents c) ∙ ap (λ (l : List NamedData). map (λ (n : NamedData). n.name) l) (used c ∙ ap kinds same ∙ sym (used d)) ∙ sym (names_are (lents d)) in
      ap (λ (l : List CacheName). count_named name l) names

  -- uses of chains that were published are as those that were
  pub uses_as : (p : Plan C) (cs : List C) → All (IsOfFilled identity p) cs → AreAs (uses_in lents cs) (published_uses lents p)
  uses_as p [] all = tt
  uses_as p (c ∷ cs) all =
      let of = All-head (IsOfFilled identity p) c cs all in
      let same : map named_of (lents c) ≡ map named_of (lents of.first) = used c ∙ ap kinds of.same ∙ sym (used of.first) in
      are_both (lents c) (uses_in lents cs) (published_uses lents p)
      (among_uses lents (lents c) of.first (filled_chains p) of.among (are_same (lents c) (lents of.first) same))
      (uses_as p cs (All-tail (IsOfFilled identity p) c cs all))

  -- how often uses of a cache are out
  pub counts : (name : CacheName) (p : Plan C) → Balances identity p → count_named name (use_names (home_uses lents p)) + standing (weight lents name) p ≡ count_named name (published_names lents p)
  counts name p balances =
      let is = balances (weight lents name) (of_identity name) in
      let homes = counted_sum lents name (home_chains p) in
      let filled = counted_sum lents name (filled_chains p) in
      omega (arith, is, homes, filled)

  came : (p : Plan C) → Balances identity p → CameHome (published_names lents p) (home_uses lents p)
  came p balances name = let is = counts name p balances in omega (arith, is)

  -- behind a search for a free slot
  module _ (p p' : Plan C) (home' : List C) (held : List HeldData) (grows : GrowsHome p [] home' p') (moved : (f : C → ℕ) → IsOfIdentity identity f → sum_by f home' + standing f p' ≡ standing f p) (named : AreNamed identity p') (keeps : KeepsCaches identity lents p held) where
    same_published : published_uses lents p' ≡ published_uses lents p
    same_published = ap (λ (q : Past C). uses_in lents (flat_map (λ (cs : List C). cs) q.filled)) grows.past_is

    more_home : home_uses lents p' ≡ home_uses lents p ++ uses_in lents home'
    more_home = ap (λ (l : List C). uses_in lents l) grows.chains_are ∙ uses-append lents (home_chains p) grows.more ∙ ap (λ (l : List C). home_uses lents p ++ uses_in lents l) (sym grows.home_is)

    came_more : CameHome (published_names lents p) (home_uses lents p ++ uses_in lents home')
    came_more name =
        let now = came p' (balances_freed identity p home' p' grows moved keeps.balances) name in
        let homes : count_named name (use_names (home_uses lents p')) ≡ count_named name (use_names (home_uses lents p ++ uses_in lents home')) = ap (λ (us : List LentData). count_named name (use_names us)) more_home in
        let filled : count_named name (published_names lents p') ≡ count_named name (published_names lents p) = ap (λ (us : List LentData). count_named name (use_names us)) same_published in
        omega (arith, now, homes, filled)

    -- the uses of what came home are of caches that are held
    pub freed_held : AllHeld (uses_in lents home') held
    freed_held =
        let are : AreAs (uses_in lents home') (published_uses lents p) =
        subst (λ (vs : List LentData). AreAs (uses_in lents home') vs) same_published
        (subst (λ (cs : List C). AreAs (uses_in lents cs) (published_uses lents p')) (sym grows.home_is) (uses_as p' grows.more (grown_named identity p [] home' p' grows named))) in
        all_held (published_uses lents p) (home_uses lents p) held (uses_in lents home') keeps.ledger keeps.alone
        (λ name. let now = came_more name in let both = names-append name (home_uses lents p) (uses_in lents home') in omega (arith, now, both)) are

    -- and what is held once they are back
    pub freed_keeps : AreWhole (given_all (uses_in lents home') held) → KeepsCaches identity lents p' (stays (given_all (uses_in lents home') held))
    freed_keeps whole =
        let after = stays (given_all (uses_in lents home') held) in
        let ledger = retires (published_names lents p) (home_uses lents p) (uses_in lents home') came_more held keeps.ledger freed_held whole in
        record {
          ledger = subst (λ (us : List LentData). IsLedger (use_names us) (home_uses lents p') after) (sym same_published) (subst (λ (us : List LentData). IsLedger (published_names lents p) us after) (sym more_home) ledger);
          alone = subst (λ (us : List LentData). Each (AllAs us) after) (sym same_published)
              (each_stays (AllAs (published_uses lents p)) (given_all (uses_in lents home') held) (as_given (published_uses lents p) (uses_in lents home') held keeps.alone));
          before = subst (λ (us : List LentData). AreBefore (count_of p') (use_names us)) (sym same_published) (subst (λ (q : Past C). AreBefore (length q.published) (published_names lents p)) (sym grows.past_is) keeps.before);
          distinct = subst (λ (q : Past C). All (HaveDistinct lents) q.filled) (sym grows.past_is) keeps.distinct;
          balances = balances_freed identity p home' p' grows moved keeps.balances;
        }

  -- the caches of the last generation are held
  pub last_held : (p : Plan C) (held : List HeldData) (earlier : List (List C)) (chains : List C) (c : C) (u : LentData) → KeepsCaches identity lents p held → IsPlaced p → length p.past.filled ≡ count_of p → p.past.filled ≡ earlier ++ chains ∷ []
      → Among c chains → Among u (lents c) → IsHeldBy (named_of u) held
  last_held p held earlier chains c u keeps placed count last among of =
      by_published u (published_uses lents p) held (published of) keeps.alone (by (keeps.ledger.gone u.name used_some))
    where
      out : count_named u.name (use_names (home_uses lents p)) < count_named u.name (published_names lents p)
      out =
          let is = counts u.name p keeps.balances in
          let stands = last_stands (weight lents u.name) p earlier chains placed count last in
          let most = among_sum (weight lents u.name) c chains among in
          let one = counted_among u (lents c) of in
          omega (arith, is, stands, most, one)

      used_some : 0 < count_named u.name (published_names lents p)
      used_some = omega (arith, out)

      first_as : (us : List LentData) → Among u us → AreAs us (published_uses lents p) → IsAs u (published_uses lents p)
      first_as [] is are = absurd is
      first_as (v ∷ us) (inl is) are = subst (λ (w : LentData). IsAs w (published_uses lents p)) is are.0
      first_as (v ∷ us) (inr other) are = first_as us other are.1

      published : Among u (lents c) → IsAs u (published_uses lents p)
      published is = first_as (lents c) is
          (among_uses lents (lents c) c (filled_chains p) (subst (λ (l : List (List C)). Among c (flat_map (λ (cs : List C). cs) l)) (sym last) (among_last earlier chains c among)) (are_same (lents c) (lents c) refl))

      by : ledgers.IsNamed u.name held ⊎ HasGone (published_names lents p) (home_uses lents p) u.name → ledgers.IsNamed u.name held
      by (inl is) = is
      by (inr gone) = let all = gone.all in absurd (omega (arith, all, out))

  -- some use of each cache is out, and a chain of each worker may have one more
  pub held_out : (p : Plan C) (held : List HeldData) → KeepsCaches identity lents p held → IsStanding identity p → p.workers ≤ WORKERS → Each (IsOut p.workers) held
  held_out p held keeps stands few = each_to (IsKept (published_names lents p) (home_uses lents p)) (IsOut p.workers) by held keeps.ledger.kept
    where
      by : (h : HeldData) → IsKept (published_names lents p) (home_uses lents p) h → IsOut p.workers h
      by h kept =
          let once : All (λ (cs : List C). All (λ (c : C). weight lents h.name c ≤ 1) cs) p.past.filled =
          All-weaker (HaveDistinct lents) (λ (cs : List C). All (λ (c : C). weight lents h.name c ≤ 1) cs) (λ cs d. weights_once lents h.name cs d) p.past.filled keeps.distinct in
          let most = stands_most (weight lents h.name) p stands.full once in
          let is_out = counts h.name p keeps.balances in
          let out = kept.out in
          (kept.some, omega (arith, most, is_out, out, few))

  -- no cache is held under a name of a serial that is to come
  pub none_later : (p : Plan C) (held : List HeldData) (n : CacheName) → KeepsCaches identity lents p held → count_of p ≤ n.serial → IsAbsent n held
  none_later p held n keeps le = Rattle.lent_caches.specs.KeptLaws.absent_later (count_of p) n (published_names lents p) (home_uses lents p) held keeps.before le keeps.ledger.kept

  -- names that are held began before the serial that follows
  pub names_before : (p : Plan C) (held fresh : List HeldData) (ns : List CacheName) → KeepsCaches identity lents p held → Each (IsNewOf (count_of p)) fresh → AllNamed ns (held ++ fresh) → AreBefore (count_of p + 1) ns
  names_before p held fresh [] keeps new all = tt
  names_before p held fresh (n ∷ ns) keeps new all = (by (named_either n held fresh all.0), names_before p held fresh ns keeps new all.1)
    where
      old : (hs : List HeldData) → Each (IsKept (published_names lents p) (home_uses lents p)) hs → ledgers.IsNamed n hs → n.serial < count_of p + 1
      old [] kept is = absurd is
      old (h ∷ hs) kept (inl same) =
          let name = Rattle.lent_caches.specs.ApartLaws.same_is h.name n same in
          let some = kept.0.some in
          let out = kept.0.out in
          let low = before_counted (count_of p) h.name (published_names lents p) keeps.before (omega (arith, some, out)) in
          let serial : h.name.serial ≡ n.serial = ap (λ (m : CacheName). m.serial) name in
          omega (arith, low, serial)
      old (h ∷ hs) kept (inr other) = old hs kept.1 other

      newer : (hs : List HeldData) → Each (IsNewOf (count_of p)) hs → ledgers.IsNamed n hs → n.serial < count_of p + 1
      newer [] is_new is = absurd is
      newer (h ∷ hs) is_new (inl same) =
          let serial : h.name.serial ≡ n.serial = ap (λ (m : CacheName). m.serial) (Rattle.lent_caches.specs.ApartLaws.same_is h.name n same) in
          let of = is_new.0.0 in
          omega (arith, serial, of)
      newer (h ∷ hs) is_new (inr other) = newer hs is_new.1 other

      by : ledgers.IsNamed n held ⊎ ledgers.IsNamed n fresh → n.serial < count_of p + 1
      by (inl is) = old held keeps.ledger.kept is
      by (inr is) = newer fresh new is

  -- what is held, of which uses are out, stays where what is new goes
  pub undone : (p : Plan C) (held fresh : List HeldData) → KeepsCaches identity lents p held → Each (IsNewOf (count_of p)) fresh → stays (held ++ fresh) ≡ held
  undone p held fresh keeps new =
      Rattle.lent_caches.specs.KeptLaws.new_goes held fresh
      (each_to (IsKept (published_names lents p) (home_uses lents p)) (λ h. 0 < h.out) (λ h kept. kept.some) held keeps.ledger.kept)
      (each_to (IsNewOf (count_of p)) (λ h. h.out ≡ 0) (λ h is. is.1.0) fresh new)

  -- behind a publication
  module _ (p p' : Plan C) (chains : List C) (held fresh : List HeldData) (ns : List CacheName) (adds : AddsGeneration p chains p') (keeps : KeepsCaches identity lents p held) (new : Each (IsNewOf (count_of p)) fresh) where
    abbrev of_chains : List LentData
    of_chains = uses_in lents chains

    published_more : published_uses lents p' ≡ published_uses lents p ++ of_chains
    published_more =
        ap (λ (l : List (List C)). uses_in lents (flat_map (λ (cs : List C). cs) l)) adds.filled ∙ ap (λ (l : List C). uses_in lents l) (all_filled p.past.filled chains) ∙ uses-append lents (filled_chains p) chains

    same_home : home_uses lents p' ≡ home_uses lents p
    same_home = ap (λ (ds : List (Drain C)). uses_in lents (map (λ (d : Drain C). d.chain) (Rattle.std.proofs.Common.reverse ds))) adds.drains

    fresh_is : (hs : List HeldData) → Each (IsNewOf (count_of p)) hs → Each (IsFresh (published_names lents p)) hs
    fresh_is hs is = each_to (IsNewOf (count_of p)) (IsFresh (published_names lents p))
        (λ h n. let serial = n.0 in record { none_out = n.1.0; none_home = n.1.1; unused = before_none (count_of p) h.name (published_names lents p) keeps.before (omega (arith, serial)) }) hs is

    pub published_keeps : All (λ c. use_names (lents c) ≡ ns) chains → 0 < length chains → AreDistinct ns → AreBefore (count_of p + 1) ns → AreApart (held ++ fresh) → Each (λ h. 0 < count_named h.name ns) fresh → AllHeld of_chains (held ++ fresh)
        → KeepsCaches identity lents p' (lent_times (length chains) ns (held ++ fresh))
    published_keeps names some distinct before apart used all =
        let more : use_names of_chains ≡ copies (length chains) ns = copied_uses lents ns chains names in
        let after = lent_times (length chains) ns (held ++ fresh) in
        let lent : after ≡ Rattle.lent_caches.specs.Ledger.lent_each (use_names of_chains) (held ++ fresh) = times_is (length chains) ns (held ++ fresh) ∙ ap (λ (l : List CacheName). Rattle.lent_caches.specs.Ledger.lent_each l (held ++ fresh)) (sym more) in
        let used_more : Each (λ h. 0 < count_named h.name (use_names of_chains)) fresh = each_to (λ h. 0 < count_named h.name ns) (λ h. 0 < count_named h.name (use_names of_chains))
        (λ h u. subst (λ (l : List CacheName). 0 < count_named h.name l) (sym more) (copies_some (length chains) h.name ns some u)) fresh used in
        let ledger = publishes (published_names lents p) (home_uses lents p) (use_names of_chains) (came p keeps.balances) held fresh keeps.ledger (fresh_is fresh new) used_more apart (held_named of_chains (held ++ fresh) all) in
        let names_more : published_names lents p' ≡ published_names lents p ++ use_names of_chains = ap (λ (us : List LentData). use_names us) published_more ∙ use_names-append (published_uses lents p) of_chains in
        let old_as : Each (AllAs (published_uses lents p)) (held ++ fresh) = each_append (AllAs (published_uses lents p)) held fresh keeps.alone
        (each_to (IsFresh (published_names lents p)) (AllAs (published_uses lents p)) (λ h is. as_none (published_uses lents p) h is.unused) fresh (fresh_is fresh new)) in
        let new_as : Each (AllAs of_chains) (held ++ fresh) = as_held of_chains (held ++ fresh) apart all in
        let later : AreBefore (count_of p + 1) (published_names lents p ++ use_names of_chains) = before_both (count_of p + 1) (published_names lents p) (use_names of_chains) (before_more (count_of p) (count_of p + 1) (published_names lents p) (omega arith) keeps.before)
        (subst (AreBefore (count_of p + 1)) (sym more) (copies_before (length chains) (count_of p + 1) ns before)) in
        record {
          ledger = subst (λ (hs : List HeldData). IsLedger (published_names lents p') (home_uses lents p') hs) (sym lent)
              (subst (λ (us : List LentData). IsLedger (published_names lents p') us (ledgers.lent_each (use_names of_chains) (held ++ fresh))) (sym same_home)
              (subst (λ (l : List CacheName). IsLedger l (home_uses lents p) (ledgers.lent_each (use_names of_chains) (held ++ fresh))) (sym names_more) ledger));
          alone = subst (λ (us : List LentData). Each (AllAs us) after) (sym published_more)
              (subst (λ (hs : List HeldData). Each (AllAs (published_uses lents p ++ of_chains)) hs) (sym lent)
              (as_lent (published_uses lents p ++ of_chains) (use_names of_chains) (held ++ fresh) (each_both (published_uses lents p) of_chains (held ++ fresh) old_as new_as)));
          before = subst (λ (l : List CacheName). AreBefore (count_of p') l) (sym names_more) (subst (λ (n : ℕ). AreBefore n (published_names lents p ++ use_names of_chains)) (sym adds.count) later);
          distinct = subst (All (HaveDistinct lents)) (sym adds.filled) (All-push (HaveDistinct lents) p.past.filled chains keeps.distinct
              (All-weaker (λ (c : C). use_names (lents c) ≡ ns) (λ (c : C). AreDistinct (use_names (lents c))) (λ c e. subst AreDistinct (sym e) distinct) chains names));
          balances = balances_published identity p chains p' adds keeps.balances;
        }
