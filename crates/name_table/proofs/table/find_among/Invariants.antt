use Rattle.name_table.specs.Table.{NoneAmong}
use Rattle.name_table.proofs.table.find_among.Given as goal

abbrev pub invariant-loop-entry : goal.invariant-loop-entry
invariant-loop-entry l = NoneAmong l.names l.entries l.key l.hash l.entry-index
