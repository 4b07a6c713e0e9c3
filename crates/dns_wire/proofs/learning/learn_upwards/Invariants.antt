use Rattle.std.proofs.Common.{vec_len}
use Rattle.dns_wire.specs.Known.{AreKnown, IsKnown}
use Rattle.dns_wire.proofs.learning.learn_upwards.Given as goal

abbrev pub invariant-loop-start : goal.invariant-loop-start
invariant-loop-start l = record {
  here : IsKnown l.bytes (l.at, l.name);
  known : AreKnown l.bytes l.known;
}

abbrev pub decreases-loop-start : goal.decreases-loop-start
decreases-loop-start l = vec_len l.above
