use Rattle.std.proofs.Common.{◌∙◌, ◌<◌, length, arith}
use Rattle.rewrite_plugin.specs.Answers.{record_restored}
use Rattle.rewrite_plugin.specs.declared.rule.Answering.TheVariants as answering
use Rattle.rewrite_plugin.proofs.InPlace.{changed_length, changed_next}
use Rattle.rewrite_plugin.proofs.restoring.restore_owners.Goals as goal

pub loop-index-smaller : goal.loop-index-smaller
loop-index-smaller c =
    let inside : c.loop-index.index < length c.loop-index.section = omega (arith, c.loop-index-test.true, c.len.ensures) in
    omega (arith, inside, changed_length (record_restored answering.Auto c.args.step.now) c.loop-index.section c.restore_owner.new.section c.loop-index.index inside c.in_ok-restore_owner.ensures)

pub loop-index-preserved : goal.loop-index-preserved
loop-index-preserved c =
    let inside : c.loop-index.index < length c.loop-index.section = omega (arith, c.loop-index-test.true, c.len.ensures) in
    changed_next (record_restored answering.Auto c.args.step.now) c.loop-index.section c.restore_owner.new.section c.loop-index.index inside c.in_ok-restore_owner.ensures ∙ c.loop-index.invariant
