-- What is held by one account is held by another.
use Rattle.std.proofs.Common.{◌≡◌, ℕ, List, [], ◌∷◌, ◌++◌, ◌-◌, length, None, Result}
use Rattle.std.specs.List.{AllByRecursion}
use Rattle.dns_data.specs.declared.directive.Directive.{Directive}
use Rattle.corefile_blocks.specs.declared.bundle.Bundle.{Bundle}
use Rattle.corefile_bundle.specs.declared.fault.GatherFault.{GatherFault}
use Rattle.extra_stock.specs.{IsShort, first_short}
use Rattle.run_meaning.specs.declared.looking.Looking.{Looking}
use Rattle.run_meaning.specs.declared.looking.Looking.TheVariants as looking
use Rattle.run_meaning.specs.Stocked.{AreStocked, FindsFor, FindsStock, IsStocked, Lending}
use Rattle.run_meaning.specs.WatchTurn.{WatchTurn, looked, published_by, starved}

module _ (run : Lending) (Held Other : ℕ → ℕ → Type 0) (to : (last serial : ℕ) → Held last serial → Other last serial) where
  all_to : (last : ℕ) (held : List ℕ) → AllByRecursion (Held last) held → AllByRecursion (Other last) held
  all_to last [] all = tt
  all_to last (serial ∷ held) all = (to last serial all.0, all_to last held all.1)

  stock_to : (bundles : List Bundle) (gives : Result Bundle GatherFault) (P : List (List Directive) → (List ℕ → ℕ) → Type 0) → FindsStock run Held bundles gives P → FindsStock run Other bundles gives P
  stock_to bundles gives P finds = record {
    bundle = finds.bundle;
    got = finds.got;
    extras = finds.extras;
    has = finds.has;
    held = finds.held;
    each = all_to (length bundles - 1) finds.held finds.each;
    apart = finds.apart;
    three = finds.three;
    out = finds.out;
    out_are = finds.out_are;
    found = finds.found;
    found_is = finds.found_is;
    is = finds.is;
  }

  pub finds_to : (bundles : List Bundle) (gives : Result Bundle GatherFault) (answer : Looking) → FindsFor run Held bundles gives answer → FindsFor run Other bundles gives answer
  finds_to bundles gives looking.NoReload finds = tt
  finds_to bundles gives (looking.ReadFailed name) finds = tt
  finds_to bundles gives looking.Same finds = tt
  finds_to bundles gives (looking.Refused why) finds = tt
  finds_to bundles gives (looking.PortsDiffer kept read) finds = tt
  finds_to bundles gives looking.SerialsSpent finds = tt
  finds_to bundles gives (looking.AllPinned first second third) finds = tt
  finds_to bundles gives (looking.StockShort name asked had) finds = stock_to bundles gives (λ extras found. IsShort run.workers extras found name asked had) finds
  finds_to bundles gives (looking.Published serial) finds = stock_to bundles gives (λ extras found. first_short run.workers extras found ≡ None) finds
  finds_to bundles gives looking.NoMemory finds = tt

  turn_to : (bundles : List Bundle) (turn : WatchTurn) → IsStocked run Held bundles turn → IsStocked run Other bundles turn
  turn_to bundles (looked times reads gives answer flag) is = finds_to bundles gives answer is
  turn_to bundles (starved times reads gives) is = tt

  -- of all turns
  pub stocked_to : (bundles : List Bundle) (turns : List WatchTurn) → AreStocked run Held bundles turns → AreStocked run Other bundles turns
  stocked_to bundles [] are = tt
  stocked_to bundles (turn ∷ turns) are = (turn_to bundles turn are.0, stocked_to (bundles ++ published_by turn) turns are.1)
