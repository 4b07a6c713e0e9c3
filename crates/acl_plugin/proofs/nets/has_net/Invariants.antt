use Rattle.std.proofs.Common.{◌≡◌, drop}
use Rattle.std.specs.List.{list_any}
use Rattle.dns_data.specs.{agree}
use Rattle.acl_plugin.proofs.nets.has_net.Given as goal

abbrev pub invariant-loop-net : goal.invariant-loop-net
invariant-loop-net l = list_any (λ net. agree net.bits net.addr l.addr) (drop l.net-index l.nets) ≡ list_any (λ net. agree net.bits net.addr l.addr) l.nets
