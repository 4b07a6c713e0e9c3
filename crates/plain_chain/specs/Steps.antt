-- The steps of a chain, from one of them on, where extras say this.
use Rattle.std.specs.Prelude.{List, ◌++◌, map}
use Rattle.dns_data.specs.declared.directive.Directive.{Directive}
use Rattle.plugin_api.specs.{Sayings}
use Rattle.chain_meaning.specs.Steps.{Step, dns64_steps, extra_steps}
use Rattle.chain_build.specs.Compiled.{front_of, middle_of}
use Rattle.chain_build.specs.Plans.{inner_of}
use Rattle.chain_build.specs.declared.block.BlockChain.{BlockChain}
use Rattle.chain_build.specs.declared.block_chain.FrontAnswerer.{FrontAnswerer}
use Rattle.chain_build.specs.declared.block_chain.FrontStep.{FrontStep}

-- these extras, and what stands behind them: a cache, where there is one, and what that stands
-- before
abbrev pub plain_others : Sayings → List Directive → BlockChain → List Step
plain_others said extras chain = extra_steps said extras ++ inner_of chain

-- these plugins, and what stands behind them
abbrev pub plain_run : Sayings → List FrontAnswerer → BlockChain → List Step
plain_run said middle chain = map middle_of middle ++ plain_others said chain.extras chain

-- with `dns64`, and with steps that note
abbrev pub plain_rest : Sayings → BlockChain → List Step
plain_rest said chain = dns64_steps chain.dns64 ++ plain_run said chain.middle chain

abbrev pub plain_steps : Sayings → List FrontStep → BlockChain → List Step
plain_steps said front chain = map front_of front ++ plain_rest said chain
