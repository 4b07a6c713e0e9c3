use Rattle.hosts_plugin.specs.Index.{IsIndexOf}
use Rattle.hosts_plugin.proofs.index.by_name.Given as goal

abbrev pub invariant-loop-number : goal.invariant-loop-number
invariant-loop-number l = IsIndexOf l.index (λ x. x.name) l.listings l.number
