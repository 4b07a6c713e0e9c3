-- What stands at a serial and a block of the published generations, and which of them a chain
-- serves.
use Rattle.std.proofs.Common.{◌≡◌, ◌<◌, inl, inr, ℕ, zero, suc, List, [], ◌∷◌, map, length, Option, Some, None, is_some, option_map, slice_get, refl, sym, ap, ◌∙◌, subst, arith}
use Rattle.std.specs.List.{All, AllByRecursion}
use Rattle.std.proofs.lemmas.List.Elements.{All-head, All-tail}
use Rattle.std.proofs.lemmas.Option.{none-some, same_Some}
use Rattle.block_readings.specs.Readings.{BlockReading, block_reading}
use Rattle.chain_build.specs.declared.block.BlockChain.{BlockChain}
use Rattle.chain_build.specs.declared.chain.Chain.{Chain}
use Rattle.chain_build.specs.{PlansData, chain_identity, chain_log, chain_places, ground_of, plans_of}
use Rattle.chain_build.specs.History.{AllHave, AreNamedBy, AreReadApart, name_in, names_of, readings_of}
use Rattle.chain_build.specs.KeysLaws.{reads_apart}
use Rattle.chain_build.specs.Lending.{IsNamed}
use Rattle.chain_build.specs.LentsLaws.{IsIn, somes}
use Rattle.chain_build.specs.Naming.{AreMadeFor, IsMadeFor, plans_generation}
use Rattle.chain_build.specs.Plans.{block_cache, cache_in}
use Rattle.chain_build.specs.Seats.{ArePlaced, name_of, owner_of}
use Rattle.chain_build.specs.Uses.{chain_named}
use Rattle.chain_meaning.specs.{Ground, terms_on}
use Rattle.chain_meaning.specs.Accepting.{IsAccepted}
use Rattle.corefile_blocks.specs.declared.bundle.Bundle.{Bundle}
use Rattle.dns_data.specs.declared.block.Block.{Block}
use Rattle.dns_data.specs.declared.file.FileText.{FileText}
use Rattle.lent_caches.specs.Named.{NamedData, named_data}
use Rattle.lent_caches.specs.PlanLaws.{cached_stays}
use Rattle.lent_caches.specs.declared.name.NamedCache.{NamedCache}
use Rattle.one_history.specs.Names as history
use Rattle.one_history.specs.Runs.{reading}
use Rattle.pin_table.specs.declared.views.Drain.{Drain}
use Rattle.pin_table.specs.declared.views.Turn.{Turn}
use Rattle.pin_table.specs.Known.{filled_at}
use Rattle.pin_table.specs.{AreGiven, Identity, IsKept}
use Rattle.plugin_api.specs.{Sayings, Takings}
use Rattle.plugin_api.specs.declared.extra.Extra as extra
use Rattle.plugin_api.specs.declared.rulebook.Rulebook as rulebook
use Rattle.reload_watch.specs.Filled.{AreFilledBy, IsOf}
use Rattle.reload_watch.specs.Histories.{AreReadAs, IsReadAs, places_by, places_in}
use Rattle.reload_watch.specs.Named.{AreBy, HaveCaches}
use Rattle.reload_watch.specs.TurningLaws.{at_all}

-- as many generations as were published
pub readings_long : (generations : List PlansData) → length (readings_of (map plans_generation generations)) ≡ length generations
readings_long [] = refl
readings_long (plans ∷ generations) = ap suc (readings_long generations)

-- the names of a generation, and what its blocks read
pub names_at : (generations : List PlansData) (serial : ℕ) (plans : PlansData) (block : ℕ) → slice_get generations serial ≡ Some plans → names_of (map plans_generation generations) serial block ≡ name_in (map chain_named plans.chains) block
names_at [] serial plans block is = absurd (none-some plans is)
names_at (p ∷ generations) zero plans block is = ap (λ (q : PlansData). name_in (map chain_named q.chains) block) (same_Some p plans is)
names_at (p ∷ generations) (suc serial) plans block is = names_at generations serial plans block is

pub reads_at : (generations : List PlansData) (serial : ℕ) (plans : PlansData) (block : ℕ) → slice_get generations serial ≡ Some plans → reading (readings_of (map plans_generation generations)) serial block ≡ slice_get (plans_generation plans).readings block
reads_at [] serial plans block is = absurd (none-some plans is)
reads_at (p ∷ generations) zero plans block is = ap (λ (q : PlansData). slice_get (plans_generation q).readings block) (same_Some p plans is)
reads_at (p ∷ generations) (suc serial) plans block is = reads_at generations serial plans block is

-- the cache that has a name at a block of a serial
pub record IsNamedThere (generations : List PlansData) (serial block : ℕ) (name : history.CacheName) : Type 0 where
  pub plans : PlansData
  pub is : slice_get generations serial ≡ Some plans
  pub low : serial < length generations
  pub n : NamedData
  pub there : slice_get (map chain_named plans.chains) block ≡ Some (Some n)
  pub name_is : name_of n.name ≡ name

name_found : (named : List (Option NamedData)) (block : ℕ) (name : history.CacheName) → name_in named block ≡ Some name → (n : NamedData) × (slice_get named block ≡ Some (Some n)) × (name_of n.name ≡ name)
name_found [] block name is = absurd (none-some name is)
name_found (None ∷ named) zero name is = absurd (none-some name is)
name_found (Some n ∷ named) zero name is = (n, refl, same_Some (name_of n.name) name is)
name_found (o ∷ named) (suc block) name is = name_found named block name is

pub named_there : (generations : List PlansData) (serial block : ℕ) (name : history.CacheName) → names_of (map plans_generation generations) serial block ≡ Some name → IsNamedThere generations serial block name
named_there [] serial block name is = absurd (none-some name is)
named_there (p ∷ generations) zero block name is =
    let f = name_found (map chain_named p.chains) block name is in
    record { plans = p; is = refl; low = omega arith; n = f.0; there = f.1; name_is = f.2 }
named_there (p ∷ generations) (suc serial) block name is =
    let f = named_there generations serial block name is in
    let low = f.low in
    record { plans = f.plans; is = f.is; low = omega (arith, low); n = f.n; there = f.there; name_is = f.name_is }

-- the cache at a block was made for what it reads, and is among those that serve
pub made_at : (readings : List BlockReading) (named : List (Option NamedData)) (block : ℕ) (r : BlockReading) (n : NamedData) → AreMadeFor readings named → slice_get readings block ≡ Some r → slice_get named block ≡ Some (Some n) → IsMadeFor r n
made_at [] named block r n made reads is = absurd (none-some r reads)
made_at (q ∷ readings) [] block r n made reads is = absurd made
made_at (q ∷ readings) (None ∷ named) zero r n made reads is = absurd (none-some n (same_Some None (Some n) is))
made_at (q ∷ readings) (Some m ∷ named) zero r n made reads is =
    let cache : m ≡ n = same_Some m n (same_Some (Some m) (Some n) is) in
    let read : q ≡ r = same_Some q r reads in
    subst (λ (x : BlockReading). IsMadeFor x n) read (subst (λ (x : NamedData). IsMadeFor q x) cache made.0)
made_at (q ∷ readings) (None ∷ named) (suc block) r n made reads is = made_at readings named block r n made reads is
made_at (q ∷ readings) (Some m ∷ named) (suc block) r n made reads is = made_at readings named block r n made.1 reads is

pub among_somes : (named : List (Option NamedData)) (block : ℕ) (n : NamedData) → slice_get named block ≡ Some (Some n) → IsIn n (somes named)
among_somes [] block n is = absurd (none-some (Some n) is)
among_somes (None ∷ named) zero n is = absurd (none-some n (same_Some None (Some n) is))
among_somes (Some m ∷ named) zero n is = inl (same_Some m n (same_Some (Some m) (Some n) is))
among_somes (None ∷ named) (suc block) n is = among_somes named block n is
among_somes (Some m ∷ named) (suc block) n is = inr (among_somes named block n is)

-- each block with a cache has one
some_named : (o : Option NamedCache) → is_some (option_map named_data o) ≡ is_some o
some_named None = refl
some_named (Some n) = refl

all_have : (files : List FileText) (blocks : List Block) (chains : List BlockChain) → All IsNamed chains → map cache_in chains ≡ map block_cache blocks → AllHave (map (block_reading files) blocks) (map chain_named chains)
all_have files [] [] named is = tt
all_have files [] (chain ∷ chains) named is = absurd cc
all_have files (block ∷ blocks) [] named is = absurd cc
all_have files (block ∷ blocks) (chain ∷ chains) named is =
    let first : cache_in chain ≡ block_cache block = cc in
    let rest : map cache_in chains ≡ map block_cache blocks = cc in
    (some_named chain.named ∙ All-head IsNamed chain chains named ∙ ap is_some first ∙ sym (cached_stays files block), all_have files blocks chains (All-tail IsNamed chain chains named) rest)

-- and no two blocks of a generation read the same
pub read_apart : (taken : Takings) (said : Sayings) (generations : List PlansData) → All (HaveCaches taken said) generations → AreReadApart (map plans_generation generations)
read_apart taken said [] have = tt
read_apart taken said (plans ∷ generations) have =
    let h = All-head (HaveCaches taken said) plans generations have in (
      all_have plans.bundle.files plans.blocks plans.chains h.named h.are.cached,
      reads_apart plans.bundle plans.default_port plans.bundle.files plans.blocks h.are.accepted.read h.are.keyed,
      read_apart taken said generations (All-tail (HaveCaches taken said) plans generations have),
    )

module _ {B E : Type 0} {bk : rulebook.Ghosts B} {ex : extra.Ghosts E} where
  -- the generation for which a chain was filled
  by_at : (generations : List PlansData) (filled : List (List (Chain B E bk ex))) (serial worker : ℕ) (c : Chain B E bk ex) → AreBy generations filled → filled_at filled serial worker ≡ Some c → slice_get generations serial ≡ Some (plans_of c)
  by_at [] [] serial worker c by is = absurd (none-some c is)
  by_at [] (cs ∷ filled) serial worker c by is = absurd by
  by_at (plans ∷ generations) [] serial worker c by is = absurd by
  by_at (plans ∷ generations) (cs ∷ filled) zero worker c by is = ap Some (sym (at_all (λ (x : Chain B E bk ex). plans_of x ≡ plans) cs worker c by.0 is))
  by_at (plans ∷ generations) (cs ∷ filled) (suc serial) worker c by is = by_at generations filled serial worker c by.1 is

  -- it serves by the plans of its serial
  abbrev pub IsOfSerial : List PlansData → Chain B E bk ex → Type 0
  IsOfSerial generations c = slice_get generations (owner_of c).serial ≡ Some (plans_of c)

  pub kept_serial : (generations : List PlansData) (filled : List (List (Chain B E bk ex))) (turns : List (Turn (Chain B E bk ex))) (d : Drain (Chain B E bk ex)) → AreBy generations filled → IsKept chain_identity chain_log filled turns d → IsOfSerial generations d.chain
  kept_serial generations filled turns d by kept =
      let first = kept.first in
      let plans : plans_of d.chain ≡ plans_of first.0 = ap (λ (i : Identity PlansData). i.kind) first.2 in
      (λ i. slice_get generations (kept.serial i)) ∙ by_at generations filled d.serial d.worker first.0 by first.1 ∙ ap Some (sym plans)

  -- so its caches have the names of its serial, and its log the places
  pub all_named : (generations : List PlansData) (chains : List (Chain B E bk ex)) → All (IsOfSerial generations) chains → AreNamedBy (names_of (map plans_generation generations)) chains
  all_named generations [] of = tt
  all_named generations (c ∷ chains) of =
      ((λ block. names_at generations (owner_of c).serial (plans_of c) block (All-head (IsOfSerial generations) c chains of)), all_named generations chains (All-tail (IsOfSerial generations) c chains of))

  pub all_placed : (generations : List PlansData) (chains : List (Chain B E bk ex)) → All (IsOfSerial generations) chains → ArePlaced (places_by generations) chains
  all_placed generations [] of = tt
  all_placed generations (c ∷ chains) of = (ap places_in (All-head (IsOfSerial generations) c chains of), all_placed generations chains (All-tail (IsOfSerial generations) c chains of))

  -- the chain of a pin is of the pin's serial, and the parts of its log stand at the places of that
  pub record IsPlacedTurn (generations : List PlansData) (t : Turn (Chain B E bk ex)) : Type 0 where
    pub serial_is : (owner_of t.given).serial ≡ t.serial
    pub places_are : places_by generations t.serial ≡ chain_places (plans_of t.given)

  pub turns_placed : (generations : List PlansData) (filled : List (List (Chain B E bk ex))) (worker : ℕ) (ts : List (Turn (Chain B E bk ex))) → AreBy generations filled → AreGiven chain_identity chain_log filled worker ts → AllByRecursion (IsPlacedTurn generations) ts
  turns_placed generations filled worker [] by given = tt
  turns_placed generations filled worker (t ∷ ts) by given =
      let kept = given.0 in
      let d : Drain (Chain B E bk ex) = record { serial = t.serial; worker = worker; chain = t.given } in
      let of = kept_serial generations filled ts d by kept in
      (record { serial_is = kept.serial; places_are = (λ i. places_in (slice_get generations (sym kept.serial i))) ∙ ap places_in of }, turns_placed generations filled worker ts by given.1)

  -- what the blocks of the published bundles read
  pub all_read : (basis : Ground) (workers : ℕ) (bundles : List Bundle) (generations : List PlansData) (filled : List (List (Chain B E bk ex))) → 0 < workers → AreFilledBy bundles basis filled → AreBy generations filled → All (HaveCaches bk.taken bk.said) generations
      → All (λ chains. length chains ≡ workers) filled → AreReadAs (terms_on bk.taken bk.said basis) bundles (readings_of (map plans_generation generations))
  all_read basis workers [] [] filled some of by have full = tt
  all_read basis workers [] (plans ∷ generations) [] some of by have full = absurd by
  all_read basis workers [] (plans ∷ generations) (cs ∷ filled) some of by have full = absurd of
  all_read basis workers (bundle ∷ bundles) generations [] some of by have full = absurd of
  all_read basis workers (bundle ∷ bundles) [] (cs ∷ filled) some of by have full = absurd by
  all_read basis workers (bundle ∷ bundles) (plans ∷ generations) ([] ∷ filled) some of by have full =
      let long = All-head (λ (xs : List (Chain B E bk ex)). length xs ≡ workers) [] filled full in
      absurd (omega (arith, some, long))
  all_read basis workers (bundle ∷ bundles) (plans ∷ generations) ((c ∷ cs) ∷ filled) some of by have full =
      let h = All-head (HaveCaches bk.taken bk.said) plans generations have in
      let first = All-head (IsOf bundle basis) c cs of.0 in
      let same : plans_of c ≡ plans = All-head (λ (x : Chain B E bk ex). plans_of x ≡ plans) c cs by.0 in (
        read_as bundle basis plans h (subst (λ (p : PlansData). p.bundle ≡ bundle) same first.bundle_is) (subst (λ (p : PlansData). ground_of p ≡ basis) same first.ground_is),
        all_read basis workers bundles generations filled some of.1 by.1 (All-tail (HaveCaches bk.taken bk.said) plans generations have)
            (All-tail (λ (xs : List (Chain B E bk ex)). length xs ≡ workers) (c ∷ cs) filled full),
      )
    where
      read_as : (bundle : Bundle) (basis : Ground) (plans : PlansData) → HaveCaches bk.taken bk.said plans → plans.bundle ≡ bundle → ground_of plans ≡ basis → IsReadAs (terms_on bk.taken bk.said basis) bundle (plans_generation plans).readings
      read_as bundle basis plans h bundle_is ground_is = record {
        blocks = plans.blocks;
        accepted = subst (λ (x : Bundle × Ground). IsAccepted (terms_on bk.taken bk.said x.1) x.0 plans.blocks) (λ i. (bundle_is i, ground_is i)) h.are.accepted;
        are = ap (λ (b : Bundle). map (block_reading b.files) plans.blocks) bundle_is;
      }
