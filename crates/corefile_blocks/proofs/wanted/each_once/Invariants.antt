use Rattle.std.proofs.Common.{◌≡◌, [], length}
use Rattle.corefile_blocks.specs.WantedFiles.{AreKnown, add_all}
use Rattle.corefile_blocks.proofs.wanted.each_once.Given as goal

abbrev pub invariant-loop-name : goal.invariant-loop-name
invariant-loop-name l = record {
  says : add_all l.made l.rest ≡ add_all [] l.names;
  known : AreKnown l.known l.made;
}

abbrev pub decreases-loop-name : goal.decreases-loop-name
decreases-loop-name l = length l.rest
