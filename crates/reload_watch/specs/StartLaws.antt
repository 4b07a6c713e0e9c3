-- Which caches are held once the first generation is published.
use Rattle.std.proofs.Common.{◌≡◌, ◌<◌, ℕ, zero, suc, false, List, [], ◌∷◌, length, refl, ap, ◌∙◌, arith}
use Rattle.std.specs.List.{sum_by}
use Rattle.std.proofs.lemmas.List.{take_all}
use Rattle.std.proofs.lemmas.List.Elements.{All-nil}
use Rattle.pin_table.specs.declared.views.Plan.{Plan}
use Rattle.pin_table.specs.Known.{first_plan}
use Rattle.pin_table.specs.Opening.{IsOpened}
use Rattle.pin_table.specs.Standing.{IsStanding, standing}
use Rattle.pin_table.specs.Steps.{plan_slot}
use Rattle.pin_table.specs.Tags.{IsNamed}
use Rattle.pin_core.specs.Slots.{is_free}
use Rattle.lent_caches.specs.Held.{LentData}
use Rattle.lent_caches.specs.LedgerLaws.{ledger_starts}
use Rattle.reload_watch.specs.Homes.{HaveDistinct, KeepsCaches}
use Rattle.reload_watch.specs.Publishing.{AddsGeneration}

module _ {C I : Type 0} (identity : C → I) where
  none_stands : (f : C → ℕ) (n : ℕ) → standing f (first_plan n) ≡ 0
  unfolding standing
  none_stands f n = refl

  -- before anything is published no cache is held
  pub keeps_none : (lents : C → List LentData) (n : ℕ) → KeepsCaches identity lents (first_plan n) []
  keeps_none lents n = record {
    ledger = ledger_starts;
    alone = tt;
    before = tt;
    distinct = All-nil (HaveDistinct lents);
    balances = λ f of. let none = none_stands f n in let homes : sum_by f [] ≡ 0 = refl in omega (arith, none, homes);
  }

  pub stands_none : (n : ℕ) → IsStanding identity (first_plan n)
  stands_none n = record {
    named = All-nil (IsNamed identity []);
    full = All-nil (λ chains. length chains ≡ n);
    low = λ slot within busy. absurd (unused slot within busy);
  }
    where
      unused : (slot : ℕ) → slot < 4 → is_free (plan_slot (first_plan {C = C} n) slot).phase ≡ false → ⊥
      unused zero low busy = absurd cc
      unused (suc zero) low busy = absurd cc
      unused (suc (suc zero)) low busy = absurd cc
      unused (suc (suc (suc zero))) low busy = absurd cc
      unused (suc (suc (suc (suc slot)))) low busy = absurd (omega (arith, low))

  -- the first generation is added to nothing
  pub adds_first : (chains : List C) (p : Plan C) → IsOpened chains p → ((f : C → ℕ) → standing f p ≡ sum_by f chains) → AddsGeneration (first_plan (length chains)) chains p
  adds_first chains p opened sum =
      let is = opened.1 in
      record {
        count = ap (λ (q : Plan C). length q.past.published) is;
        filled = ap (λ (q : Plan C). q.past.filled) is ∙ ap (λ (l : List C). l ∷ []) (take_all (length chains) chains (omega arith));
        stands = λ f. let none = none_stands f (length chains) in let all = sum f in omega (arith, none, all);
        sweeps = ap (λ (q : Plan C). q.sweeps) is;
        drains = ap (λ (q : Plan C). q.drains) is;
        workers = ap (λ (q : Plan C). q.workers) is;
        joined = ap (λ (q : Plan C). q.joined) is;
      }
