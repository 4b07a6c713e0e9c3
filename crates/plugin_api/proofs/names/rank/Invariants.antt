use Rattle.std.proofs.Common.{◌≡◌, drop}
use Rattle.std.specs.List.{find}
use Rattle.plugin_api.specs.Ranks.{has_name}
use Rattle.plugin_api.proofs.names.rank.Given as goal

abbrev pub invariant-loop-rank : goal.invariant-loop-rank
invariant-loop-rank l = find (has_name l.name) (drop l.rank-index l.rank-items) ≡ find (has_name l.name) l.rank-items
