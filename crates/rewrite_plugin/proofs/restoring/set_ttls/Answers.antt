use Rattle.std.proofs.Common.{◌∙◌, ◌<◌, length, arith}
use Rattle.rewrite_plugin.specs.Answers.{with_ttl}
use Rattle.rewrite_plugin.proofs.InPlace.{changed_length, changed_next}
use Rattle.rewrite_plugin.proofs.restoring.set_ttls.Goals as goal

pub loop-index-smaller : goal.loop-index-smaller
loop-index-smaller c =
    let inside : c.loop-index.index < length c.loop-index.section = omega (arith, c.loop-index-test.true, c.len.ensures) in
    omega (arith, inside, changed_length (with_ttl c.number-ttl.result) c.loop-index.section c.set_ttl.new.self c.loop-index.index inside c.set_ttl.ensures)

pub loop-index-preserved : goal.loop-index-preserved
loop-index-preserved c =
    let inside : c.loop-index.index < length c.loop-index.section = omega (arith, c.loop-index-test.true, c.len.ensures) in
    changed_next (with_ttl c.number-ttl.result) c.loop-index.section c.set_ttl.new.self c.loop-index.index inside c.set_ttl.ensures ∙ c.loop-index.invariant
