use Rattle.std.proofs.Common.{◌∙◌, ◌<◌, length, arith}
use Rattle.dns_data.specs.{RecordData}
use Rattle.rewrite_plugin.specs.Answers.{owned_or, replaced_name}
use Rattle.rewrite_plugin.proofs.InPlace.{changed_length, changed_next}
use Rattle.rewrite_plugin.proofs.restoring.rename_owners.Goals as goal

pub loop-index-smaller : goal.loop-index-smaller
loop-index-smaller c =
    let inside : c.loop-index.index < length c.loop-index.section = omega (arith, c.loop-index-test.true, c.len.ensures) in
    omega (arith, inside, changed_length (λ (r : RecordData). owned_or r (replaced_name c.args.replacing.now r.owner)) c.loop-index.section c.rename_owner.new.section c.loop-index.index inside c.in_ok-rename_owner.ensures.section)

pub loop-index-preserved : goal.loop-index-preserved
loop-index-preserved c =
    let inside : c.loop-index.index < length c.loop-index.section = omega (arith, c.loop-index-test.true, c.len.ensures) in
    (changed_next (λ (r : RecordData). owned_or r (replaced_name c.args.replacing.now r.owner)) c.loop-index.section c.rename_owner.new.section c.loop-index.index inside c.in_ok-rename_owner.ensures.section ∙ c.loop-index.invariant.0, c.in_ok-rename_owner.ensures.known)
