-- What the workers held where a look found no free slot. This server's own rule.
use Rattle.std.specs.Prelude.{◌≡◌, ◌≢◌, ◌⊎◌, ℕ, ◌-◌, List, [], ◌∷◌, ◌++◌, length, Some}
use Rattle.corefile_blocks.specs.declared.bundle.Bundle.{Bundle}
use Rattle.pin_table.specs.Known.{last_below}
use Rattle.run_meaning.specs.declared.looking.Looking.{Looking}
use Rattle.run_meaning.specs.declared.looking.Looking.TheVariants as looking
use Rattle.run_meaning.specs.WatchTurn.{WatchTurn, looked, starved, published_by}

-- one of the workers pinned this serial last among those below `last`; these are the serials of
-- each worker's pins, the last one first
abbrev pub IsHeld : ℕ → ℕ → List (List ℕ) → Type 0
IsHeld last serial [] = ⊥
IsHeld last serial (pinned ∷ others) =
    (last_below last pinned ≡ Some serial) ⊎ IsHeld last serial others

-- three different serials below `last` were held so
pub record HeldThree (last : ℕ) (pinned : List (List ℕ)) : Type 0 where
  pub a : ℕ
  pub b : ℕ
  pub c : ℕ
  pub apart : (a ≢ b) × (b ≢ c) × (a ≢ c)
  pub one : IsHeld last a pinned
  pub two : IsHeld last b pinned
  pub three : IsHeld last c pinned

-- where a look behind so many published generations found no free slot, the workers held three
-- generations that had been replaced
abbrev pub IsHeldFor : List (List ℕ) → ℕ → Looking → Type 0
IsHeldFor pinned published (looking.AllPinned first second third) =
    HeldThree (published - 1) pinned
IsHeldFor pinned published answer = Unit {0}

abbrev pub IsHeldTurn : List (List ℕ) → ℕ → WatchTurn → Type 0
IsHeldTurn pinned published (looked times reads gives answer flag) =
    IsHeldFor pinned published answer
IsHeldTurn pinned published (starved times reads gives) = Unit {0}

-- turns one after another, behind these published bundles
abbrev pub AreHeld : List (List ℕ) → List Bundle → List WatchTurn → Type 0
AreHeld pinned bundles [] = Unit {0}
AreHeld pinned bundles (turn ∷ turns) =
    IsHeldTurn pinned (length bundles) turn
    × AreHeld pinned (bundles ++ published_by turn) turns

-- the turns behind the first of these bundles
abbrev pub AreHeldBehind : List (List ℕ) → List Bundle → List WatchTurn → Type 0
AreHeldBehind pinned [] turns = Unit {0}
AreHeldBehind pinned (first ∷ others) turns = AreHeld pinned (first ∷ []) turns
