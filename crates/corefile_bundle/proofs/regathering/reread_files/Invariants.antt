use Rattle.std.proofs.Common.{◌≡◌, ◌++◌, length}
use Rattle.outside.specs.{WatchStays}
use Rattle.corefile_bundle.specs.Again.{InOrder}
use Rattle.corefile_bundle.specs.Steps.{IsSmall}
use Rattle.corefile_bundle.proofs.Gathered.{HasGathered}
use Rattle.corefile_bundle.proofs.regathering.reread_files.Given as goal

abbrev pub invariant-loop-file : goal.invariant-loop-file
invariant-loop-file g l = record {
  gathered : HasGathered l.fn.bundle (g.W.PatternMaker.state l.fn.watch) (g.W.PatternMaker.state l.watch) l.bundle;
  small : IsSmall l.bundle;
  conf : l.bundle.conf ≡ l.last.conf;
  env : l.bundle.env ≡ l.last.env;
  files : l.bundle.files ++ l.rest ≡ l.last.files;
  order : InOrder l.last l.bundle.files l.rest;
  stays : WatchStays (g.W.PatternMaker.state l.fn.watch) (g.W.PatternMaker.state l.watch);
}

abbrev pub decreases-loop-file : goal.decreases-loop-file
decreases-loop-file g l = length l.rest
