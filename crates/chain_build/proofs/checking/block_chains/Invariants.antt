use Rattle.std.proofs.Common.{◌≡◌, ◌++◌, map, length}
use Rattle.pattern_judging.specs.Tasks.{Carries}
use Rattle.chain_meaning.specs.{brought_of}
use Rattle.chain_meaning.specs.Accepting.{blocks_task, told}
use Rattle.chain_meaning.specs.Steps.{block_extras, steps_of}
use Rattle.std.specs.List.{All}
use Rattle.plugin_api.specs.{Sayings}
use Rattle.block_readings.specs.Behind.{block_behind}
use Rattle.chain_build.specs.Chains.{HasTaken}
use Rattle.chain_build.specs.Plans.{behind_of, block_cache, cache_in, extras_in, steps_in}
use Rattle.chain_build.proofs.checking.block_chains.Given as goal

abbrev pub invariant-loop-block : goal.invariant-loop-block
invariant-loop-block g l = record {
  carried : Carries told (blocks_task (brought_of (g.J.Judges.named l.judges) (g.J.Judges.taken l.judges)) l.patterns l.sources.files.now l.rest) (blocks_task (brought_of (g.J.Judges.named l.judges) (g.J.Judges.taken l.judges)) 0 l.sources.files.now l.fn.blocks);
  made : (said : Sayings) → map (steps_in said) l.chains ++ map (steps_of said l.sources.files.now) l.rest ≡ map (steps_of said l.sources.files.now) l.fn.blocks;
  behind : map behind_of l.chains ++ map (block_behind l.sources.files.now) l.rest ≡ map (block_behind l.sources.files.now) l.fn.blocks;
  cached : map cache_in l.chains ++ map block_cache l.rest ≡ map block_cache l.fn.blocks;
  extras : map extras_in l.chains ++ map block_extras l.rest ≡ map block_extras l.fn.blocks;
  taken : All (HasTaken (g.J.Judges.taken l.judges)) l.chains;
  state : g.M.PatternMaker.state l.maker ≡ g.M.PatternMaker.state l.fn.maker;
}

abbrev pub decreases-loop-block : goal.decreases-loop-block
decreases-loop-block g l = length l.rest
