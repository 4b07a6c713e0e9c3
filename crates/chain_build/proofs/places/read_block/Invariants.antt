use Rattle.std.proofs.Common.{◌≡◌, drop, take}
use Rattle.pattern_judging.specs.Tasks.{Carries}
use Rattle.chain_meaning.specs.{brought_of}
use Rattle.chain_meaning.specs.Accepting.{block_task, directives_task, told}
use Rattle.chain_meaning.specs.Steps.{context_of}
use Rattle.chain_build.specs.Places.{AreTaken, behind_in, no_places, placed}
use Rattle.chain_build.proofs.places.read_block.Given as goal

abbrev pub invariant-loop-index : goal.invariant-loop-index
invariant-loop-index g l = record {
  carried : Carries told (directives_task (brought_of (g.J.Judges.named l.judges) (g.J.Judges.taken l.judges)) (behind_in (context_of l.sources.files.now l.block) (take l.index l.all) l.places) (drop l.index l.all)) (block_task (brought_of (g.J.Judges.named l.judges) (g.J.Judges.taken l.judges)) l.patterns l.sources.files.now l.block);
  before : l.places ≡ placed (context_of l.sources.files.now l.block) (take l.index l.all) (no_places l.patterns);
  taken : AreTaken (g.J.Judges.taken l.judges) l.places.extras;
  state : g.M.PatternMaker.state l.maker ≡ g.M.PatternMaker.state l.fn.maker;
}
