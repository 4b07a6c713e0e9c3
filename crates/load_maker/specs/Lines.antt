-- How lines are told one after another, up to the first that fails. This server's own rule.
use Rattle.std.specs.Prelude.{◌≡◌, true, ℕ, List, [], ◌∷◌, ◌++◌, map}
use Rattle.outside.specs.declared.datagram.Wrote.{Wrote}
use Rattle.outside.specs.declared.datagram.Wrote.TheVariants as wrote
use Rattle.outside.specs.Hosts.{AddsHost, HostState, HostTold, TellsOneLine}

-- what a host tells of lines that went out
abbrev pub told_lines : List (List ℕ) → HostTold
told_lines lines =
    record
    { lines = map (λ line. record { line = line; out = true }) lines; opens = []; watches = 0 }

-- all of these lines went out
pub record TellsAll (before after : HostState) (lines : List (List ℕ)) : Type 0 where
  pub told : AddsHost before after (told_lines lines)
  pub counts : after.counts ≡ before.counts
  pub supply : after.supply ≡ before.supply

-- the first of these lines went out, and the next one failed
pub record TellsSome (before after : HostState) (lines : List (List ℕ)) : Type 0 where
  pub first : List (List ℕ)
  pub line : List ℕ
  pub others : List (List ℕ)
  pub lines_are : lines ≡ first ++ line ∷ others
  pub mid : HostState
  pub tells : TellsAll before mid first
  pub fails : TellsOneLine mid after line wrote.Failed

abbrev pub TellsLines : HostState → HostState → List (List ℕ) → Wrote → Type 0
TellsLines before after lines wrote.Ok = TellsAll before after lines
TellsLines before after lines wrote.Failed = TellsSome before after lines
