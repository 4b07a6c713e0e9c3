use Rattle.std.proofs.Common.{ap, ◌∙◌}
use Rattle.std.proofs.lemmas.List.{take_rest}
use Rattle.dns_addr.specs.AddrText.{zeros}
use Rattle.dns_addr.proofs.ZeroRuns.{one_longer}
use Rattle.dns_addr.proofs.runs.longest.Goals as goal

pub loop-at-preserved : goal.loop-at-preserved
loop-at-preserved c =
    c.loop-at.invariant
    ∙ one_longer c.args.groups.now c.loop-at.at c.loop-at.most c.zeros.result c.larger-most.result c.loop-at-test.true (c.zeros.ensures.value ∙ ap zeros (take_rest c.args.groups.now c.loop-at.at)) c.larger-most.ensures
