-- Which entries may stand in the cache of a chain.
use Rattle.std.specs.Prelude.{◌≡◌, List, Option, Some, option_map}
use Rattle.block_readings.specs.Behind.{steps_behind}
use Rattle.block_readings.specs.PlansLaws.{bare_plan}
use Rattle.dns_data.specs.declared.directive.Directive.{Directive}
use Rattle.dns_data.specs.declared.query.Query.{Query}
use Rattle.lent_caches.specs.Judging.{judge_reading, plan_read}
use Rattle.lent_caches.specs.Named.{named_data}
use Rattle.lent_caches.specs.declared.judge.BlockJudge.{BlockJudge}
use Rattle.lent_caches.specs.declared.name.NamedCache.{NamedCache}
use Rattle.outside.specs.declared.mark.Mark.{Mark}
use Rattle.plugin_api.specs.{PlanData}
use Rattle.chain_meaning.specs.Mean.{mean}
use Rattle.chain_build.specs.Compiled.{back_steps}
use Rattle.chain_build.specs.declared.block_chain.BackAnswerer.{BackAnswerer}

-- this judge judges by what stands behind a cache of this directive: its reading means the same
-- there, and has the same directive but for the numbers of its lines
abbrev pub Judges : BlockJudge → Option PlanData → List Directive → List BackAnswerer → Type 0
Judges judge cache rewrites back =
    ((q : Query) (marks : List Mark) → mean (steps_behind (judge_reading judge)) q marks
    ≡ mean (back_steps rewrites back) q marks)
    × (plan_read (judge_reading judge) ≡ option_map bare_plan cache)

-- so it is of the cache that serves a chain, where it has one
abbrev pub AreJudged : Option NamedCache → Option PlanData → List Directive → List BackAnswerer
    → Type 0
AreJudged named cache rewrites back =
    (n : NamedCache) → named ≡ Some n → Judges (named_data n).cache.judge cache rewrites back
