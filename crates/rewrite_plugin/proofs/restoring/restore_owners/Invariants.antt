use Rattle.std.proofs.Common.{◌≡◌, ◌++◌, ◌-◌, length, map, take, drop}
use Rattle.rewrite_plugin.specs.Answers.{record_restored}
use Rattle.rewrite_plugin.specs.declared.rule.Answering.TheVariants as answering
use Rattle.rewrite_plugin.proofs.restoring.restore_owners.Given as goal

abbrev pub invariant-loop-index : goal.invariant-loop-index
invariant-loop-index l =
    let f = record_restored answering.Auto l.step in
    take l.index l.section ++ map f (drop l.index l.section) ≡ map f l.fn.section

abbrev pub decreases-loop-index : goal.decreases-loop-index
decreases-loop-index l = length l.section - l.index
