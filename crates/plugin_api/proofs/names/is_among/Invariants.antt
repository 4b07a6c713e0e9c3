use Rattle.std.proofs.Common.{◌≡◌, drop, map, nat_eq}
use Rattle.std.specs.Cmp.Lexicographic.{pointwise}
use Rattle.std.specs.List.{list_any}
use Rattle.plugin_api.proofs.names.is_among.Given as goal

abbrev pub invariant-loop-other : goal.invariant-loop-other
invariant-loop-other l = list_any (pointwise nat_eq l.name) (map (λ n. n.now) (drop l.other-index l.names)) ≡ list_any (pointwise nat_eq l.name) (map (λ n. n.now) l.names)
