use Rattle.std.proofs.Common.{◌-◌, length}
use Rattle.lent_caches.specs.Held.{caches_data}
use Rattle.lent_caches.specs.Going.{GoneSo}
use Rattle.lent_caches.proofs.caches.Caches.let_go.Given as goal

abbrev pub invariant-loop-at : goal.invariant-loop-at
invariant-loop-at l = GoneSo (caches_data l.fn.self) l.at l.self.held.items

abbrev pub decreases-loop-at : goal.decreases-loop-at
decreases-loop-at l = length l.self.held.items - l.at
