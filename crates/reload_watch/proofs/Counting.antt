-- How many extras a look found spare, by what stood in the table then.
use Rattle.std.proofs.Common.{◌≡◌, ◌+◌, ◌-◌, ◌<◌, ℕ, List, [], ◌∷◌, ◌++◌, length, refl, sym, ap, subst, ◌∙◌, arith, sum_by}
use Rattle.std.specs.List.{AllByRecursion}
use Rattle.std.proofs.lemmas.List.{get_or_past, get_or_push}
use Rattle.extra_stock.specs.{in_chains, is_named}
use Rattle.chain_build.specs.declared.chain.Chain.{Chain}
use Rattle.chain_build.specs.{chain_extras}
use Rattle.pin_table.specs.declared.free_slots.FreeSlot.TheVariants as found
use Rattle.pin_table.specs.declared.views.Past.{Past}
use Rattle.pin_table.specs.declared.views.Plan.{Plan}
use Rattle.pin_table.specs.declared.views.Sweep.{Sweep}
use Rattle.pin_table.specs.{count_of, plan_of}
use Rattle.plugin_api.specs.declared.extra.Extra as extra
use Rattle.plugin_api.specs.declared.rulebook.Rulebook as rulebook
use Rattle.run_meaning.specs.declared.looking.Looking.{Looking}
use Rattle.run_meaning.specs.declared.looking.Looking.TheVariants as looking
use Rattle.reload_watch.specs.declared.watcher.Watcher.{Watcher}
use Rattle.reload_watch.specs.Counted.{Counts, CountsFor}
use Rattle.reload_watch.specs.Look.{Frees, Searches, SearchesFirst}
use Rattle.reload_watch.specs.Placing.{IsPlaced}
use Rattle.reload_watch.specs.Shortage.{extras_at, found_in}
use Rattle.reload_watch.specs.Standing.{SawOpen}
use Rattle.reload_watch.specs.States.{serving_of}
use Rattle.reload_watch.specs.Stocked.{KeepsStock, all_weigh, chain_weighs, out_weighs}
use Rattle.reload_watch.proofs.Placed.{placed_freed}
use Rattle.reload_watch.proofs.Standing.{freed_past, holds}

module _ {B E : Type 0} {bk : rulebook.Ghosts B} {ex : extra.Ghosts E} where
  -- of a generation that isn't there yet
  pub none_at : (filled : List (List (Chain B E bk ex))) (name : List ℕ) (serial : ℕ) → length filled ≡ serial → extras_at filled name serial ≡ 0
  none_at filled name serial is = ap (λ (chains : List (Chain B E bk ex)). in_chains chain_extras (is_named name) chains) (get_or_past filled serial [] (omega (arith, is)))

  -- of the one that was filled last
  pub last_at : (filled : List (List (Chain B E bk ex))) (chains : List (Chain B E bk ex)) (name : List ℕ) (serial : ℕ) → length filled ≡ serial
      → extras_at (filled ++ chains ∷ []) name serial ≡ in_chains chain_extras (is_named name) chains
  last_at filled chains name serial is = ap (λ (cs : List (Chain B E bk ex)). in_chains chain_extras (is_named name) cs) (get_or_push filled chains [] serial is)

  module _ {W : Type 0} (old new : Watcher W B E bk ex) where
    abbrev before : Plan (Chain B E bk ex)
    before = plan_of old.publisher

    abbrev after : Plan (Chain B E bk ex)
    after = plan_of new.publisher

    -- what stood once a search had come to this, behind a sweep
    module _ (start : Plan (Chain B E bk ex)) (same : start.past ≡ before.past) (placed : IsPlaced start) where
      stood : (mid : Plan (Chain B E bk ex)) (slot : ℕ) → Frees start (found.Free slot) mid
          → (found_is : (name : List ℕ) → found_in old new name + out_weighs (is_named name) mid ≡ all_weigh (is_named name) old)
          → mid.sweeps ≡ after.sweeps → Counts after.sweeps (serving_of old) (λ name. all_weigh (is_named name) old) (found_in old new)
      stood mid slot frees found_is sweeps =
          let h = holds start mid [] (found.Free slot) frees.0 frees.1 placed in
          let past = freed_past start mid [] (found.Free slot) frees.0 frees.1 ∙ same in
          record {
            held = h.held;
            each = subst (λ (s : List Sweep). AllByRecursion (SawOpen s (count_of before - 1)) h.held) sweeps (subst (λ (q : Past (Chain B E bk ex)). AllByRecursion (SawOpen mid.sweeps (length q.published - 1)) h.held) past h.each);
            low = subst (λ (q : Past (Chain B E bk ex)). AllByRecursion (λ serial. serial < length q.published) h.held) past h.low;
            apart = h.apart;
            three = h.three;
            sum = λ name.
                let s = h.sum (chain_weighs (is_named name)) in
                let f = found_is name in
                subst (λ (q : Past (Chain B E bk ex)). found_in old new name + (extras_at q.filled name (length q.published - 1) + sum_by (extras_at q.filled name) h.held) ≡ all_weigh (is_named name) old) past
                (omega (arith, s, f));
          }

      -- by the answer of a look
      counted_on : (answer : Looking) → length before.past.filled ≡ count_of before → Searches start after answer → KeepsStock old new
          → CountsFor after.sweeps (serving_of old) (λ name. all_weigh (is_named name) old) (found_in old new) answer
      counted_on looking.NoReload count search keeps = tt
      counted_on (looking.ReadFailed name) count search keeps = tt
      counted_on looking.Same count search keeps = tt
      counted_on (looking.Refused why) count search keeps = tt
      counted_on (looking.PortsDiffer ports others) count search keeps = tt
      counted_on looking.SerialsSpent count search keeps = tt
      counted_on (looking.AllPinned one two three) count search keeps = tt
      counted_on (looking.StockShort name asked had) count search keeps =
          let past = freed_past start after [] (found.Free search.0) search.1.0 search.1.1 ∙ same in
          stood after search.0 search.1 (λ n.
          let none = ap (λ (q : Past (Chain B E bk ex)). extras_at q.filled n (count_of before)) past ∙ none_at before.past.filled n (count_of before) count in
          let weighs = keeps.weighs (is_named n) in
          omega (arith, none, weighs)) refl
      counted_on (looking.Published serial) count search keeps =
          let mid = search.mid in
          let past = freed_past start mid [] (found.Free search.slot) search.frees.0 search.frees.1 ∙ same in
          stood mid search.slot search.frees (λ n.
          let filled : after.past.filled ≡ before.past.filled ++ search.chains ∷ [] = search.adds.filled ∙ ap (λ (q : Past (Chain B E bk ex)). q.filled ++ search.chains ∷ []) past in
          let here = ap (λ (l : List (List (Chain B E bk ex))). extras_at l n (count_of before)) filled ∙ last_at before.past.filled search.chains n (count_of before) count in
          let stands = search.weighs (is_named n) in
          let weighs = keeps.weighs (is_named n) in
          omega (arith, here, stands, weighs)) (sym search.adds.sweeps)
      counted_on looking.NoMemory count search keeps = tt

    pub counted_by : (answer : Looking) → IsPlaced before → length before.past.filled ≡ count_of before → SearchesFirst before after answer → KeepsStock old new
        → CountsFor after.sweeps (serving_of old) (λ name. all_weigh (is_named name) old) (found_in old new) answer
    counted_by answer placed count is keeps =
        counted_on is.mid (freed_past before is.mid [] is.swept is.frees.0 is.frees.1) (placed_freed before [] is.swept is.frees.0 is.mid is.frees.1 placed) answer count is.searches keeps
