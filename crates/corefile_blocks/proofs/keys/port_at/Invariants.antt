use Rattle.std.proofs.Common.{◌≡◌, ◌<◌, drop, IfSome}
use Rattle.corefile_blocks.specs.Keys.{port_at}
use Rattle.corefile_blocks.proofs.KeyLemmas.{port_behind}
use Rattle.corefile_blocks.proofs.keys.port_at.Given as goal

abbrev pub invariant-loop-at : goal.invariant-loop-at
invariant-loop-at l = record {
  says : port_at l.text ≡ port_behind l.at (drop l.at l.text) l.found;
  inside : IfSome l.found (λ at. at < l.at);
}
