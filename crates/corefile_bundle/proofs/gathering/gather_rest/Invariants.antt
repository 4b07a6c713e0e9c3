use Rattle.std.proofs.Common.{◌-◌, ◌+◌, length}
use Rattle.dns_data.specs.declared.limit.TheConstants as limits
use Rattle.outside.specs.{WatchStays}
use Rattle.corefile_blocks.specs.{Seeks}
use Rattle.corefile_bundle.specs.Steps.{IsSmall}
use Rattle.corefile_bundle.proofs.Gathered.{HasGathered}
use Rattle.corefile_bundle.proofs.gathering.gather_rest.Given as goal

abbrev pub invariant-loop-name : goal.invariant-loop-name
invariant-loop-name g l = record {
  gathered : HasGathered l.fn.bundle (g.W.PatternMaker.state l.fn.watch) (g.W.PatternMaker.state l.watch) l.bundle;
  small : IsSmall l.bundle;
  seeks : Seeks l.bundle l.seeker;
  stays : WatchStays (g.W.PatternMaker.state l.fn.watch) (g.W.PatternMaker.state l.watch);
}

abbrev pub decreases-loop-name : goal.decreases-loop-name
decreases-loop-name g l = limits.FILES + 1 - length l.bundle.files
