use Rattle.std.proofs.Common.{◌∙◌, ap}
use Rattle.corefile_blocks.specs.Ports.{key_ports}
use Rattle.corefile_blocks.proofs.PortLemmas.{are_ports}
use Rattle.corefile_blocks.proofs.port_list.ports.Goals as goal

pub returns : goal.returns
returns c =
    are_ports c.args.blocks.now c.in_ok-ports.ports.items c.sort.new.self.items c.dedup.new.self.items (c.in_ok-ports.ensures ∙ ap key_ports c.as_slice.ensures)
    c.in_ok-sort.ensures.permutation c.in_ok-sort.ensures.sorted c.dedup.ensures.filtered
