use Rattle.std.proofs.Common.{◌≡◌, ◌++◌, length, reverse}
use Rattle.chain_build.proofs.naming.in_room.Given as goal

abbrev pub invariant-loop-chain : goal.invariant-loop-chain
invariant-loop-chain l = l.chains ++ reverse l.moved.items ≡ l.fn.chains

abbrev pub decreases-loop-chain : goal.decreases-loop-chain
decreases-loop-chain l = length l.chains
