-- The block and the chain of one number.
use Rattle.std.proofs.Common.{◌≡◌, ◌∙◌, ℕ, List, Option, Some, None, option_map, slice_get, refl, sym, ap}
use Rattle.std.specs.Prelude.{option_and_then}
use Rattle.std.proofs.lemmas.Option.{slice_get-map}
use Rattle.dns_data.specs.declared.block.Block.{Block}
use Rattle.dns_data.specs.declared.query.Query.{Query}
use Rattle.plugin_api.specs.{Sayings, Takings, picked}
use Rattle.chain_build.specs.Plans.{ArePlans, PlansData, extras_in, steps_in}
use Rattle.chain_build.specs.declared.block.BlockChain.{BlockChain}
use Rattle.chain_meaning.specs.Serving.{block_of}
use Rattle.chain_meaning.specs.Steps.{Step, steps_of}
use Rattle.explain_chain.specs.Finding.{IsFound}

same_some : (a b : List Step) → Some a ≡ Some b → a ≡ b
same_some a b e = cc

none_of : (f : Block → List Step) (block : Option Block) → None ≡ option_map f block → block ≡ None
none_of f (Some block) e = absurd cc
none_of f None e = refl

module _ (taken : Takings) (said : Sayings) (plans : PlansData) (q : Query) (n : ℕ) where
  by_number : ArePlans taken said plans → option_map (steps_in said) (slice_get plans.chains n)
      ≡ option_map (steps_of said plans.bundle.files) (slice_get plans.blocks n)
  by_number are =
      sym (slice_get-map (steps_in said) plans.chains n) ∙ ap (λ l. slice_get l n) are.chains
      ∙ slice_get-map (steps_of said plans.bundle.files) plans.blocks n

  pub found_as : (block : Block) (chain : BlockChain) → ArePlans taken said plans
      → picked plans.blocks q.local q.name ≡ Some n → slice_get plans.blocks n ≡ Some block
      → slice_get plans.chains n ≡ Some chain → IsFound said plans q n block chain
  found_as block chain are picks at chained = record {
    is = ap (option_and_then (slice_get plans.blocks)) picks ∙ at;
    steps = same_some (steps_in said chain) (steps_of said plans.bundle.files block)
        (sym (ap (option_map (steps_in said)) chained) ∙ by_number are
        ∙ ap (option_map (steps_of said plans.bundle.files)) at);
    extras = ap (λ l. slice_get l n) are.extras ∙ slice_get-map extras_in plans.chains n
        ∙ ap (option_map extras_in) chained;
  }

  pub no_chain : ArePlans taken said plans → picked plans.blocks q.local q.name ≡ Some n
      → slice_get plans.chains n ≡ None → block_of plans.blocks q ≡ None
  no_chain are picks at =
      ap (option_and_then (slice_get plans.blocks)) picks
      ∙ none_of (steps_of said plans.bundle.files) (slice_get plans.blocks n)
      (sym (ap (option_map (steps_in said)) at) ∙ by_number are)
