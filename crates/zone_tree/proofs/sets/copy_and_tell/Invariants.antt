use Rattle.std.proofs.Common.{◌≡◌, ◌++◌, take}
use Rattle.std.specs.List.{filter, list_any}
use Rattle.zone_tree.specs.Sets.{is_kind, picked}
use Rattle.zone_tree.proofs.sets.copy_and_tell.Given as goal

abbrev pub invariant-loop-number : goal.invariant-loop-number
invariant-loop-number l = (l.out ≡ l.fn.out ++ filter (is_kind l.kind) (picked l.records (take l.number-index l.set)))
    × (l.has_alias ≡ list_any (is_kind 5) (picked l.records (take l.number-index l.set)))
