use Rattle.cache_soak.proofs.Shares.{new_shares}
use Rattle.cache_soak.proofs.crowd.run_at_once.Goals as goal

pub enlist-requires-clause-share : goal.enlist-requires-clause-share
enlist-requires-clause-share g c = new_shares 5 _ c.in_ok-cache.ensures.new
