use Rattle.std.proofs.Common.{◌≡◌, ◌++◌, length, map}
use Rattle.dns_data.specs.{owned_by}
use Rattle.hosts_plugin.specs.Index.{picked}
use Rattle.hosts_plugin.proofs.answering.push_pointers.Given as goal

abbrev pub invariant-loop-number : goal.invariant-loop-number
invariant-loop-number l = l.out ++ map (owned_by l.owner l.ttl) (picked l.pointers l.rest) ≡ l.fn.out ++ map (owned_by l.owner l.ttl) (picked l.pointers l.set)

abbrev pub decreases-loop-number : goal.decreases-loop-number
decreases-loop-number l = length l.rest
