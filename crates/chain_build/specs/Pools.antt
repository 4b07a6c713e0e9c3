-- The pools of a block's chain: one for each of its directives `forward` that has one.
use Rattle.std.specs.Prelude.{◌≡◌, ℕ, Bool, true, false, List, [], ◌∷◌, map}
use Rattle.std.specs.List.{All}
use Rattle.forward_plugin.specs.{ForwardData, pool_count}
use Rattle.chain_meaning.specs.Steps.{Step, Answers, Forward}
use Rattle.chain_build.specs.declared.block_chain.BackAnswerer.{BackAnswerer}
use Rattle.chain_build.specs.declared.block_chain.BackAnswerer.TheVariants as behind
use Rattle.chain_build.specs.Compiled.{back_of}

-- how many pools a step takes; any number where it takes none
abbrev pub pools_taken : ℕ → Step → ℕ
pools_taken count (Answers (Forward plans)) = pool_count plans
pools_taken count other = count

-- a step takes so many pools, if any
abbrev pub TakesPools : ℕ → Step → Type 0
TakesPools count step = pools_taken count step ≡ count

-- a plugin that asks the outside nothing
abbrev pub AsksNothing : BackAnswerer → Type 0
AsksNothing (behind.Forward plans) = ⊥
AsksNothing other = Unit {0}

-- the first directives `forward` among steps
abbrev pub forwards_in : List Step → List ForwardData
forwards_in [] = []
forwards_in (Answers (Forward plans) ∷ steps) = plans
forwards_in (step ∷ steps) = forwards_in steps

-- how many pools they have
abbrev pub pools_in : List BackAnswerer → ℕ
pools_in back = pool_count (forwards_in (map back_of back))

-- each step takes so many
abbrev pub AllTake : ℕ → List BackAnswerer → Type 0
AllTake count back = All (TakesPools count) (map back_of back)

-- no plugin takes others than the first `forward`
abbrev pub HasOneForward : List BackAnswerer → Type 0
HasOneForward back = AllTake (pools_in back) back

-- whether no step is `forward`
abbrev pub none_forwards : List Step → Bool
none_forwards [] = true
none_forwards (Answers (Forward plans) ∷ steps) = false
none_forwards (step ∷ steps) = none_forwards steps

abbrev pub HasNoForward : List Step → Type 0
HasNoForward steps = none_forwards steps ≡ true

-- whether none stands behind another
abbrev pub one_forwards : List Step → Bool
one_forwards [] = true
one_forwards (Answers (Forward plans) ∷ steps) = none_forwards steps
one_forwards (step ∷ steps) = one_forwards steps

abbrev pub HasLoneForward : List Step → Type 0
HasLoneForward steps = one_forwards steps ≡ true
