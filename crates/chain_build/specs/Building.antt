-- What building the chains of a generation gives. This server's own rule.
use Rattle.std.specs.Prelude.{◌≡◌, ℕ, ◌*◌, List, length, None, Result, Ok, Err}
use Rattle.std.specs.List.{All}
use Rattle.dns_data.specs.declared.directive.Directive.{Directive}
use Rattle.extra_stock.specs.{IsShort, asked_by, first_short, in_chains, seats_in, seats_of_chains}
use Rattle.pin_table.specs.{AreNew}
use Rattle.plugin_api.specs.declared.extra.Extra as extra
use Rattle.plugin_api.specs.declared.rulebook.Rulebook as rulebook
use Rattle.chain_build.specs.declared.building.BuildFault.{BuildFault}
use Rattle.chain_build.specs.declared.building.BuildFault.TheVariants as fault
use Rattle.chain_build.specs.declared.chain.Chain.{Chain}
use Rattle.chain_build.specs.Plans.{PlansData}
use Rattle.chain_build.specs.Workers.{chain_extras, chain_identity, chain_log, plans_of}

-- one chain for each of so many workers, in their order, of this serial and by these plans
pub record BuildsChains {B E : Type 0} {b : rulebook.Ghosts B} {e : extra.Ghosts E}
    (plans : PlansData) (serial workers : ℕ) (chains : List (Chain B E b e)) : Type 0 where
  pub count : length chains ≡ workers
  pub new : AreNew chain_identity chain_log serial 0 chains
  pub by : All (λ chain. plans_of chain ≡ plans) chains
  -- and with an extra for each directive of one, block by block
  pub seats : seats_of_chains chain_extras chains ≡ workers * seats_in plans.extras
  pub weigh : (w : List ℕ → ℕ)
      → in_chains chain_extras w chains ≡ workers * asked_by w plans.extras

-- chains are refused for want of extras exactly where the stock is short of a name, and then the
-- first such in the order of the text is told
abbrev pub Builds : {T : Type 0} → ℕ → List (List Directive) → (List ℕ → ℕ) → Result T BuildFault
    → Type 0
Builds workers blocks had (Ok chains) = first_short workers blocks had ≡ None
Builds workers blocks had (Err (fault.StockShort name asked was)) =
    IsShort workers blocks had name asked was
Builds workers blocks had (Err fault.NoMemory) = Unit {0}
