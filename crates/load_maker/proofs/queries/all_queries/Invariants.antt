use Rattle.std.proofs.Common.{◌≡◌, ◌-◌, ◌≤◌}
use Rattle.load_maker.specs.Queries.{queries_of}
use Rattle.load_maker.proofs.queries.all_queries.Given as goal

abbrev pub invariant-loop-index : goal.invariant-loop-index
invariant-loop-index l = (l.datagrams ≡ queries_of l.index) × (l.index ≤ l.count)

abbrev pub decreases-loop-index : goal.decreases-loop-index
decreases-loop-index l = l.count - l.index
