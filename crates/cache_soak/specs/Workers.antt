-- What a worker has between its turns.
use Rattle.cache_shards.specs.Seats.{CacheData, IsSeatOf, views_of}
use Rattle.cache_soak.specs.declared.making.Anything.{Anything}
use Rattle.cache_soak.specs.declared.crowd.Worker.{Worker}
use Rattle.cache_soak.specs.Shares.{AreShares}

-- a seat of this cache with one part of five
pub record IsWorking (cache : CacheData Anything) (worker : Worker) : Type 0 where
  pub own : IsSeatOf cache worker.seat.seats.items
  pub share : AreShares 5 1 (views_of worker.seat.seats.items)
