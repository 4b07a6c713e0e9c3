use Rattle.std.proofs.Common.{◌≡◌, drop}
use Rattle.std.specs.List.{list_any}
use Rattle.corefile_blocks.specs.Keys.{same_key}
use Rattle.corefile_blocks.proofs.key_index.stands_among.Given as goal

abbrev pub invariant-loop-other : goal.invariant-loop-other
invariant-loop-other l = list_any (same_key l.key) (drop l.other-index l.others) ≡ list_any (same_key l.key) l.others
