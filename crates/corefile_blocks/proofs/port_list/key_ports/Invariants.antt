use Rattle.std.proofs.Common.{◌≡◌, ◌++◌, length}
use Rattle.corefile_blocks.specs.Ports.{key_ports}
use Rattle.corefile_blocks.proofs.port_list.key_ports.Given as goal

abbrev pub invariant-loop-block : goal.invariant-loop-block
invariant-loop-block l = l.ports.items ++ key_ports l.rest ≡ key_ports l.blocks

abbrev pub decreases-loop-block : goal.decreases-loop-block
decreases-loop-block l = length l.rest
