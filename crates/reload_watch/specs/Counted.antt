-- How many extras a look found spare, by what stood in the table then. This server's own rule.
use Rattle.std.specs.Prelude.{◌≡◌, ◌≤◌, ◌<◌, ℕ, ◌+◌, ◌-◌, nat_eq, List, [], ◌∷◌, length}
use Rattle.std.specs.List.{All, AllByRecursion, IsDistinct, sum_by}
use Rattle.chain_build.specs.declared.chain.Chain.{Chain}
use Rattle.chain_build.specs.{chain_extras}
use Rattle.corefile_blocks.specs.declared.bundle.Bundle.{Bundle}
use Rattle.dns_data.specs.declared.directive.Directive.{Directive}
use Rattle.chain_meaning.specs.{Terms}
use Rattle.pin_table.specs.declared.views.Sweep.{Sweep}
use Rattle.plugin_api.specs.declared.extra.Extra as extra
use Rattle.plugin_api.specs.declared.rulebook.Rulebook as rulebook
use Rattle.run_meaning.specs.declared.looking.Looking.{Looking}
use Rattle.run_meaning.specs.declared.looking.Looking.TheVariants as looking
use Rattle.run_meaning.specs.Stocked.{HasExtras}
use Rattle.reload_watch.specs.Shortage.{extras_at}
use Rattle.reload_watch.specs.Standing.{SawOpen}
use Rattle.reload_watch.specs.States.{Serving}

-- by serial, the published bundles have these directives of extras
abbrev pub AreAsked : Terms → List Bundle → List (List (List Directive)) → Type 0
AreAsked terms [] [] = Unit {0}
AreAsked terms [] (extras ∷ asks) = ⊥
AreAsked terms (bundle ∷ bundles) [] = ⊥
AreAsked terms (bundle ∷ bundles) (extras ∷ asks) =
    HasExtras terms extras bundle × AreAsked terms bundles asks

module _ {B E : Type 0} {b : rulebook.Ghosts B} {e : extra.Ghosts E} where
  -- all extras but those that were found are in the chains of the last published generation and of
  -- some replaced ones, at most three, each of which was swept with open pins
  pub record Counts (sweeps : List Sweep) (serving : Serving (Chain B E b e))
      (all found : List ℕ → ℕ) : Type 0 where
    pub held : List ℕ
    pub each : AllByRecursion (SawOpen sweeps (serving.published - 1)) held
    pub low : AllByRecursion (λ serial. serial < serving.published) held
    pub apart : IsDistinct nat_eq held
    pub three : length held ≤ 3
    pub sum : (name : List ℕ) → found name
        + (extras_at serving.filled name (serving.published - 1)
        + sum_by (extras_at serving.filled name) held)
        ≡ all name

  -- where a look came to the stock
  abbrev pub CountsFor : List Sweep → Serving (Chain B E b e) → (List ℕ → ℕ) → (List ℕ → ℕ)
      → Looking → Type 0
  CountsFor sweeps serving all found (looking.StockShort name asked had) =
      Counts sweeps serving all found
  CountsFor sweeps serving all found (looking.Published serial) =
      Counts sweeps serving all found
  CountsFor sweeps serving all found answer = Unit {0}

  -- by serial, the chains of each generation have these extras
  abbrev pub AreAskedBy : List (List (List Directive)) → List (List (Chain B E b e)) → Type 0
  AreAskedBy [] [] = Unit {0}
  AreAskedBy [] (chains ∷ others) = ⊥
  AreAskedBy (extras ∷ asks) [] = ⊥
  AreAskedBy (extras ∷ asks) (chains ∷ others) =
      All (λ chain. chain_extras chain ≡ extras) chains × AreAskedBy asks others
