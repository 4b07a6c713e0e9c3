use Rattle.std.proofs.Common.{◌≡◌, drop}
use Rattle.std.specs.List.{list_any}
use Rattle.forward_plugin.specs.Forward.{is_up}
use Rattle.forward_plugin.proofs.plan.any_up.Given as goal

abbrev pub invariant-loop-p : goal.invariant-loop-p
invariant-loop-p l = list_any (is_up l.down) (drop l.p-index l.numbered) ≡ list_any (is_up l.down) l.numbered
