-- What is made of what was read of a bundle.
use Rattle.std.proofs.Common.{List, [], ◌∷◌, map, ℕ, Option, Err}
use Rattle.std.specs.List.{All}
use Rattle.std.proofs.lemmas.List.Elements.{All-cons, All-head, All-nil, All-tail}
use Rattle.corefile_blocks.specs.declared.bundle.Bundle.{Bundle}
use Rattle.plugin_api.specs.{Sayings, Takings}
use Rattle.chain_meaning.specs.Grounds.{Ground, terms_on}
use Rattle.chain_build.specs.declared.block.BlockChain.{BlockChain}
use Rattle.chain_build.specs.declared.fault.CheckFault.{CheckFault}
use Rattle.chain_build.specs.declared.fault.CheckFault.TheVariants as fault
use Rattle.chain_build.specs.Chains.{HasTaken, MakesPlans, ReadsBundle}
use Rattle.chain_build.specs.Places.{AreTaken}
use Rattle.chain_build.specs.Plans.{extras_in}

pub made_err : (taken : Takings) (said : Sayings) (bundle : Bundle) (basis : Ground) (last : Option (List ℕ)) (e : CheckFault) → ReadsBundle bundle (terms_on taken said basis) last (Err e)
    → MakesPlans taken said bundle basis last (Err e)
made_err taken said bundle basis last (fault.Refused why) h = h
made_err taken said bundle basis last fault.NoMemory h = tt

pub all_extras : (taken : Takings) (chains : List BlockChain) → All (HasTaken taken) chains → All (AreTaken taken) (map extras_in chains)
all_extras taken [] all = All-nil (AreTaken taken)
all_extras taken (chain ∷ chains) all =
    All-cons (AreTaken taken) chain.extras (map extras_in chains) (All-head (HasTaken taken) chain chains all) (all_extras taken chains (All-tail (HasTaken taken) chain chains all))
