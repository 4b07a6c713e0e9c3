use Rattle.dns_data.specs.{reverse_of}
use Rattle.hosts_plugin.specs.Index.{IsIndexOf}
use Rattle.hosts_plugin.proofs.index.by_address.Given as goal

abbrev pub invariant-loop-number : goal.invariant-loop-number
invariant-loop-number l = IsIndexOf l.index (λ x. reverse_of x.addr) l.listings l.number
