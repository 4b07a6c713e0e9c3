use Rattle.std.proofs.Common.{◌≤◌, length}
use Rattle.dns_wire.specs.Sequences.{ReadSoFar}
use Rattle.dns_wire.specs.Known.{AreKnown}
use Rattle.dns_wire.proofs.name.read_sequences.Given as goal

abbrev pub invariant-loop-end : goal.invariant-loop-end
invariant-loop-end l = record {
  so_far : ReadSoFar l.bytes l.first l.start l.start l.name l.behind;
  inside : l.start ≤ length l.bytes;
  known : AreKnown l.bytes l.known;
}

abbrev pub decreases-loop-end : goal.decreases-loop-end
decreases-loop-end l = l.start
