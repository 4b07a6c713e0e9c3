use Rattle.std.proofs.Common.{◌≡◌, ◌<◌, ◌^◌, map, take}
use Rattle.extra_stock.specs.{seats_in}
use Rattle.chain_build.specs.Plans.{extras_in}
use Rattle.chain_build.proofs.checking.extras_of.Given as goal

abbrev pub invariant-loop-chain : goal.invariant-loop-chain
invariant-loop-chain l = (l.extras ≡ map extras_in (take l.chain-index l.chains)) × (seats_in l.extras ≡ l.count) × (l.count < 2 ^ 32)
