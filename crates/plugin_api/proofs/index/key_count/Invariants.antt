use Rattle.std.proofs.Common.{◌≤◌}
use Rattle.plugin_api.proofs.index.key_count.Given as goal

abbrev pub invariant-loop-block : goal.invariant-loop-block
invariant-loop-block l = l.count ≤ 4194304
