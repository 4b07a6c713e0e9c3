use Rattle.std.proofs.Common.{◌≡◌, length}
use Rattle.name_table.proofs.table.NameTable.new.Given as goal

abbrev pub invariant-loop-made : goal.invariant-loop-made
invariant-loop-made l = length l.buckets.items ≡ l.made
