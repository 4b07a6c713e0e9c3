use Rattle.std.proofs.Common.{◌≡◌, ◌++◌, length, map}
use Rattle.corefile_blocks.proofs.port_list.add_ports.Given as goal

abbrev pub invariant-loop-key : goal.invariant-loop-key
invariant-loop-key l =
    l.ports.items ++ map (λ key. key.port) l.rest ≡ l.fn.ports.items ++ map (λ key. key.port) l.keys

abbrev pub decreases-loop-key : goal.decreases-loop-key
decreases-loop-key l = length l.rest
