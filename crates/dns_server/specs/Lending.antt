-- What the looks of a run found in its stock: all extras but those of the configurations that
-- served then. This server's own rule.
use Rattle.std.specs.Prelude.{ℕ, List, [], ◌∷◌}
use Rattle.corefile_blocks.specs.declared.bundle.Bundle.{Bundle}
use Rattle.run_meaning.specs.Stocked.{AreStocked, Lending}
use Rattle.run_meaning.specs.WatchTurn.{WatchTurn}
use Rattle.dns_server.specs.Holding.{IsHeld}
use Rattle.dns_server.specs.States.{RunSetup, run_terms}
use Rattle.dns_server.specs.Stocking.{StockData, count_name}

-- what a run with so many sides has for their chains: the extras that its report has spare, to
-- which all have come home
abbrev pub lent_by : RunSetup → ℕ → StockData → Lending
lent_by setup sides stock = record {
  terms = run_terms setup;
  workers = sides;
  all = λ name. count_name name stock.spare;
}

-- turns one after another, behind these published bundles, by what the workers held
abbrev pub AreLent : Lending → List (List ℕ) → List Bundle → List WatchTurn → Type 0
AreLent run pinned bundles looks =
    AreStocked run (λ last serial. IsHeld last serial pinned) bundles looks

-- the turns behind the first of these bundles
abbrev pub AreLentBehind : Lending → List (List ℕ) → List Bundle → List WatchTurn → Type 0
AreLentBehind run pinned [] looks = Unit {0}
AreLentBehind run pinned (first ∷ others) looks = AreLent run pinned (first ∷ []) looks
