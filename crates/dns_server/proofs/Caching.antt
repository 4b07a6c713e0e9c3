-- Which caches are held once the first generation is built, and which uses come home where a table is closed.
use Rattle.std.proofs.Common.{◌≡◌, ◌+◌, ◌∙◌, ◌≤◌, ℕ, zero, suc, List, [], ◌++◌, sym, ap, subst, arith}
use Rattle.std.specs.List.{All, sum_by}
use Rattle.std.proofs.lemmas.List.Elements.{All-weaker}
use Rattle.chain_build.specs.declared.chain.Chain.{Chain}
use Rattle.chain_build.specs.declared.naming.Naming.{Naming}
use Rattle.chain_build.specs.{ArePlans, PlansData, chain_identity, chain_log, plans_of}
use Rattle.chain_build.specs.Lending.{chain_names}
use Rattle.chain_build.specs.LentsLaws.{chains_held}
use Rattle.chain_build.specs.Naming.{AbsentFrom, AddsCaches, IsNone, NamesPlans, Precedes, SamePlans, change}
use Rattle.chain_build.specs.Workers.{chain_lents, chains_lents}
use Rattle.lent_caches.specs.declared.name.CacheName.{CacheName}
use Rattle.lent_caches.specs.Building.{CanLendTimes, lent_times}
use Rattle.lent_caches.specs.Held.{AreApart, HeldData, LentData}
use Rattle.lent_caches.specs.Ledger.{AllHeld, lent_each}
use Rattle.lent_caches.specs.NamedLaws.{all_each, apart_times}
use Rattle.pin_core.specs.declared.slots.TheConstants.{WORKERS}
use Rattle.pin_table.specs.declared.passes.Pass.{Pass}
use Rattle.pin_table.specs.declared.views.Plan.{Plan}
use Rattle.pin_table.specs.{IsOfIdentity, standing}
use Rattle.pin_table.specs.Closing.{IsTraced, chains_left, joined_plan}
use Rattle.pin_table.specs.Known.{first_plan}
use Rattle.plugin_api.specs.declared.extra.Extra as extra
use Rattle.plugin_api.specs.declared.rulebook.Rulebook as rulebook
use Rattle.reload_watch.specs.EndLaws as ends
use Rattle.reload_watch.specs.Homes.{KeepsCaches}
use Rattle.reload_watch.specs.HomesLaws.{IsOfFilled}
use Rattle.reload_watch.specs.NextLaws.{first_naming, kinds, lents_same, next_can, none_precedes, used}
use Rattle.dns_server.specs.Caches.{BeginsCaches, LendsFirst}

-- before the first generation no block is looked through, and no cache is held
pub first_precedes : (naming : Naming) (held : List HeldData) → IsNone naming.before → held ≡ [] → Precedes naming.before held
first_precedes naming held none empty = subst (Precedes naming.before) (sym empty) (none_precedes naming.before none)

pub first_absent : (serial : ℕ) (held : List HeldData) → held ≡ [] → AbsentFrom serial 0 held
first_absent serial held empty = subst (AbsentFrom serial 0) (sym empty) (λ block low. tt)

-- so each block with a cache begins with one
pub begins : (naming : Naming) (plans first : PlansData) (before after : List HeldData) → before ≡ [] → IsNone naming.before → naming.serial ≡ 0 → SamePlans plans first → AddsCaches naming.serial 0 before after → NamesPlans naming (change before after) first
    → BeginsCaches plans first after
begins naming plans first before after empty none serial same adds names = record {
  naming = naming;
  none = none;
  serial = serial;
  names = record {
    same = same;
    names = subst (λ (l : List HeldData). NamesPlans naming (change l after) first) empty names;
    adds = subst (λ (l : List HeldData). AddsCaches naming.serial 0 l after) empty adds;
  };
}

-- lending keeps what is held
all_times : (us : List LentData) (k : ℕ) (ns : List CacheName) (held : List HeldData) → AllHeld us held → AllHeld us (lent_times k ns held)
all_times us zero ns held all = all
all_times us (suc k) ns held all = all_times us k ns (lent_each ns held) (all_each us ns held all)

pub first_apart : (plans first : PlansData) (k : ℕ) (held : List HeldData) → LendsFirst plans first k held → AreApart held
first_apart plans first k held lends = subst AreApart (sym lends.lent) (apart_times k (chain_names first.chains) lends.fresh lends.begins.names.adds.apart)

-- a chain can be built for each worker
pub first_can : {B E : Type 0} (bk : rulebook.Ghosts B) (ex : extra.Ghosts E) (plans first : PlansData) (workers : ℕ) (held : List HeldData) → ArePlans bk.taken bk.said first → BeginsCaches plans first held → workers ≤ WORKERS → CanLendTimes workers (chain_names first.chains) held
first_can bk ex plans first zero held are is few = tt
first_can {B} {E} bk ex plans first (suc k) held are is few =
    let p : Plan (Chain B E bk ex) = first_plan (suc k) in
    next_can p [] is.naming (first_naming (suc k) is.naming (omega arith) few is.serial is.none) plans first held are is.names

module _ {B E : Type 0} {bk : rulebook.Ghosts B} {ex : extra.Ghosts E} where
  -- what was lent to the first chains can be given back
  pub first_held : (plans first : PlansData) (k : ℕ) (held : List HeldData) (chains : List (Chain B E bk ex)) → LendsFirst plans first k held → All (λ chain. plans_of chain ≡ first) chains → AllHeld (chains_lents chains) held
  first_held plans first k held chains lends by =
      subst (AllHeld (chains_lents chains)) (sym lends.lent)
      (all_times (chains_lents chains) k (chain_names first.chains) lends.fresh (chains_held first chains lends.fresh lends.begins.names.names.reads.by by))

  -- what a closed table brings home is of what was published
  left_of : (p : Plan (Chain B E bk ex)) (passes : List (Pass (Chain B E bk ex))) → IsTraced chain_identity chain_log (joined_plan p passes) → All (IsOfFilled chain_identity p) (chains_left (joined_plan p passes))
  left_of p passes traced =
      All-weaker (IsOfFilled chain_identity (joined_plan p passes)) (IsOfFilled chain_identity p) (λ c is. record { first = is.first; among = is.among; same = is.same }) (chains_left (joined_plan p passes))
      (ends.closed_named chain_identity chain_log (joined_plan p passes) traced)

  -- and its uses are of caches that are held
  pub closed_held : (p : Plan (Chain B E bk ex)) (passes : List (Pass (Chain B E bk ex))) (before home : List (Chain B E bk ex)) (held : List HeldData) → before ≡ [] → home ≡ before ++ chains_left (joined_plan p passes)
      → IsTraced chain_identity chain_log (joined_plan p passes) → ((f : Chain B E bk ex → ℕ) → IsOfIdentity chain_identity f → sum_by f home ≡ sum_by f before + standing f p) → KeepsCaches chain_identity chain_lents p held
      → AllHeld (chains_lents home) held
  closed_held p passes before home held none is traced sum keeps =
      let all : home ≡ chains_left (joined_plan p passes) = is ∙ ap (λ (l : List (Chain B E bk ex)). l ++ chains_left (joined_plan p passes)) none in
      subst (λ (us : List LentData). AllHeld us held) (lents_same home)
      (ends.closed_held chain_identity chain_lents kinds used p home held (subst (All (IsOfFilled chain_identity p)) (sym all) (left_of p passes traced))
      (λ f of. let came = sum f of in let zeroth : sum_by f before ≡ 0 = ap (λ (l : List (Chain B E bk ex)). sum_by f l) none in omega (arith, came, zeroth)) keeps)
