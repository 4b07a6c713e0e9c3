use Rattle.std.proofs.Common.{◌≡◌, ◌++◌, length}
use Rattle.hosts_plugin.specs.Hosts.{address_records}
use Rattle.hosts_plugin.specs.Index.{picked}
use Rattle.hosts_plugin.proofs.answering.push_addresses.Given as goal

abbrev pub invariant-loop-number : goal.invariant-loop-number
invariant-loop-number l = l.out ++ address_records l.query l.ttl (picked l.listings l.rest) ≡ l.fn.out ++ address_records l.query l.ttl (picked l.listings l.set)

abbrev pub decreases-loop-number : goal.decreases-loop-number
decreases-loop-number l = length l.rest
