use Rattle.zone_tree.specs.Tree.{AreHosts}
use Rattle.zone_tree.proofs.hosts.hosts_of.Given as goal

abbrev pub invariant-loop-i : goal.invariant-loop-i
invariant-loop-i l = AreHosts l.table l.zone l.hosts.items l.i
