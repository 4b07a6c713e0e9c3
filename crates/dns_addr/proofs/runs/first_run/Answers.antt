use Rattle.std.proofs.Common.{◌≢◌, ap, ◌∙◌, drop}
use Rattle.std.proofs.lemmas.List.{take_rest}
use Rattle.dns_addr.specs.AddrText.{zeros}
use Rattle.dns_addr.proofs.ZeroRuns.{not_here, still_longest}
use Rattle.dns_addr.proofs.runs.first_run.Goals as goal

pub loop-at-preserved : goal.loop-at-preserved
loop-at-preserved c =
    let shorter : zeros (drop c.loop-at.at c.args.groups.now) ≢ c.args.size =
    λ e. c.if-zeros-size.false (c.zeros.ensures.value ∙ ap zeros (take_rest c.args.groups.now c.loop-at.at) ∙ e) in
    record {
      value = c.loop-at.invariant.value ∙ not_here c.args.groups.now c.loop-at.at c.args.size c.loop-at-test.true shorter;
      longest = still_longest c.args.groups.now c.loop-at.at c.args.size c.loop-at-test.true shorter c.loop-at.invariant.longest;
    }
