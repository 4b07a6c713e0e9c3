-- The steps that stand for compiled ones.
use Rattle.std.specs.Prelude.{List, ◌∷◌, ◌++◌, map, Option}
use Rattle.dns_data.specs.declared.directive.Directive.{Directive}
use Rattle.dns_data.specs.declared.query.Query.{Query}
use Rattle.plugin_api.specs.{PlanData, Sayings}
use Rattle.chain_meaning.specs.declared.decision.Decision.{Decision}
use Rattle.chain_meaning.specs.Steps.{Answerer, Acl, Any, Template, Hosts, File, Forward, Whoami}
use Rattle.chain_meaning.specs.Steps.{Step, Errors, Log, Answers, Others, cache_steps}
use Rattle.chain_meaning.specs.Steps.{dns64_steps, extra_steps, rewrite_steps}
use Rattle.chain_build.specs.declared.block_chain.BackAnswerer.{BackAnswerer}
use Rattle.chain_build.specs.declared.block_chain.BackAnswerer.TheVariants as behind
use Rattle.chain_build.specs.declared.block_chain.FrontAnswerer.{FrontAnswerer}
use Rattle.chain_build.specs.declared.block_chain.FrontAnswerer.TheVariants as before
use Rattle.chain_build.specs.declared.block_chain.FrontStep.{FrontStep}
use Rattle.chain_build.specs.declared.block_chain.FrontStep.TheVariants as front

abbrev pub front_answerer : FrontAnswerer → Answerer
front_answerer (before.Acl plans) = Acl plans
front_answerer before.Any = Any

abbrev pub front_of : FrontStep → Step
front_of front.Errors = Errors
front_of (front.Log plan) = Log plan

abbrev pub middle_of : FrontAnswerer → Step
middle_of plugin = Answers (front_answerer plugin)

-- what stands in front of the extras
abbrev pub head_of : List FrontStep → Option Directive → List FrontAnswerer → List Step
head_of front dns64 middle = map front_of front ++ (dns64_steps dns64 ++ map middle_of middle)

abbrev pub back_answerer : BackAnswerer → Answerer
back_answerer (behind.Template plans) = Template plans
back_answerer (behind.Hosts plan) = Hosts plan
back_answerer (behind.File plans) = File plans
back_answerer (behind.Forward plans) = Forward plans
back_answerer behind.Whoami = Whoami

abbrev pub back_of : BackAnswerer → Step
back_of plugin = Answers (back_answerer plugin)

-- what stands behind a cache: the rules that change the query, and the plugins that answer
abbrev pub back_steps : List Directive → List BackAnswerer → List Step
back_steps rewrites back = rewrite_steps rewrites ++ map back_of back

-- what stands behind the extras: a cache, where there is one, and what it stands before
abbrev pub inner_steps : Option PlanData → List Directive → List BackAnswerer → List Step
inner_steps cache rewrites back = cache_steps cache ++ back_steps rewrites back

-- the whole chain, without extras
abbrev pub whole : List Step → Option PlanData → List Directive → List BackAnswerer → List Step
whole head cache rewrites back = head ++ inner_steps cache rewrites back

-- and with a step for each extra behind its head
abbrev pub whole_by : Sayings → List Step → List Directive → List Step → List Step
whole_by said head extras inner = head ++ (extra_steps said extras ++ inner)

-- what stands behind its head, where all extras are one step
abbrev pub others_steps : (Query → Option Decision) → Option PlanData → List Directive
    → List BackAnswerer → List Step
others_steps says cache rewrites back = Others says ∷ inner_steps cache rewrites back
