use Rattle.std.proofs.Common.{arith}
use Rattle.cache_shards.proofs.Keeping.{empty}
use Rattle.cache_shards.proofs.store.Store.new.Goals as goal

pub invariant_of-result : goal.invariant_of-result
invariant_of-result c =
    empty _ _ _ _ _ (omega (arith, c.get-most.ensures.nonzero)) c.in_ok-pairs.ensures.items c.in_ok-order.ensures c.in_ok-chains.ensures.heads c.in_ok-chains.ensures.nexts
