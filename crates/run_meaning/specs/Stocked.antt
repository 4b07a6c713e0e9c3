-- What the looks of a run say of its stock of extras, by what was published and what was held then.
-- This server's own rule.
use Rattle.std.specs.Prelude.{◌≡◌, ◌≤◌, ℕ, ◌+◌, ◌-◌, ◌*◌, nat_eq, List, [], ◌∷◌, ◌++◌, length, map}
use Rattle.std.specs.Prelude.{None, Result, Ok}
use Rattle.std.specs.List.{AllByRecursion, IsDistinct, sum_by}
use Rattle.dns_data.specs.declared.block.Block.{Block}
use Rattle.dns_data.specs.declared.directive.Directive.{Directive}
use Rattle.extra_stock.specs.{IsShort, asked_by, first_short, is_named}
use Rattle.corefile_blocks.specs.declared.bundle.Bundle.{Bundle}
use Rattle.corefile_bundle.specs.declared.fault.GatherFault.{GatherFault}
use Rattle.chain_meaning.specs.{IsAccepted, Terms}
use Rattle.chain_meaning.specs.Steps.{block_extras}
use Rattle.run_meaning.specs.declared.looking.Looking.{Looking}
use Rattle.run_meaning.specs.declared.looking.Looking.TheVariants as looking
use Rattle.run_meaning.specs.Turn.{IsPublished}
use Rattle.run_meaning.specs.WatchTurn.{WatchTurn, looked, published_by, starved}

-- a bundle is accepted, and has these directives of extras, block by block
pub record HasExtras (terms : Terms) (extras : List (List Directive)) (bundle : Bundle) : Type 0
  where
    pub blocks : List Block
    pub accepted : IsAccepted terms bundle blocks
    pub are : extras ≡ map block_extras blocks

-- the published bundles of these serials have these, one list for each serial
abbrev pub HaveExtras : Terms → List Bundle → List ℕ → List (List (List Directive)) → Type 0
HaveExtras terms bundles [] [] = Unit {0}
HaveExtras terms bundles [] (extras ∷ out) = ⊥
HaveExtras terms bundles (serial ∷ serials) [] = ⊥
HaveExtras terms bundles (serial ∷ serials) (extras ∷ out) =
    IsPublished bundles serial (HasExtras terms extras) × HaveExtras terms bundles serials out

-- how many extras of a name they ask for, for one worker
abbrev pub asked_of : List (List (List Directive)) → List ℕ → ℕ
asked_of out name = sum_by (λ extras. asked_by (is_named name) extras) out

-- what a run has for its chains: the terms of its configurations, so many workers, and so many
-- extras of each name
pub record Lending : Type 0 where
  pub terms : Terms
  pub workers : ℕ
  pub all : List ℕ → ℕ

-- What a look behind these published bundles found in the stock. It read an accepted bundle. So
-- many extras of each name were spare: all but one for each worker and each directive of the last
-- published bundle and of some earlier ones that were held behind it, at most three.
pub record FindsStock (run : Lending) (Held : ℕ → ℕ → Type 0) (bundles : List Bundle)
    (gives : Result Bundle GatherFault)
    (P : List (List Directive) → (List ℕ → ℕ) → Type 0) : Type 0 where
  pub bundle : Bundle
  pub got : gives ≡ Ok bundle
  pub extras : List (List Directive)
  pub has : HasExtras run.terms extras bundle
  pub held : List ℕ
  pub each : AllByRecursion (Held (length bundles - 1)) held
  pub apart : IsDistinct nat_eq held
  pub three : length held ≤ 3
  pub out : List (List (List Directive))
  pub out_are : HaveExtras run.terms bundles ((length bundles - 1) ∷ held) out
  pub found : List ℕ → ℕ
  pub found_is : (name : List ℕ) → found name + run.workers * asked_of out name ≡ run.all name
  pub is : P extras found

-- a look that came to the stock tells that it is short exactly where it is: of the first name in
-- the order of the text of which more are asked for than were found; else it published
abbrev pub FindsFor : Lending → (ℕ → ℕ → Type 0) → List Bundle → Result Bundle GatherFault
    → Looking → Type 0
FindsFor run Held bundles gives (looking.StockShort name asked had) =
    FindsStock run Held bundles gives
    (λ extras found. IsShort run.workers extras found name asked had)
FindsFor run Held bundles gives (looking.Published serial) =
    FindsStock run Held bundles gives
    (λ extras found. first_short run.workers extras found ≡ None)
FindsFor run Held bundles gives answer = Unit {0}

abbrev pub IsStocked : Lending → (ℕ → ℕ → Type 0) → List Bundle → WatchTurn → Type 0
IsStocked run Held bundles (looked times reads gives answer flag) =
    FindsFor run Held bundles gives answer
IsStocked run Held bundles (starved times reads gives) = Unit {0}

-- turns one after another, behind these published bundles
abbrev pub AreStocked : Lending → (ℕ → ℕ → Type 0) → List Bundle → List WatchTurn → Type 0
AreStocked run Held bundles [] = Unit {0}
AreStocked run Held bundles (turn ∷ turns) =
    IsStocked run Held bundles turn
    × AreStocked run Held (bundles ++ published_by turn) turns
