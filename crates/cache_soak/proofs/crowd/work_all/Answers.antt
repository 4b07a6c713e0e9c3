use denote.Param.Send.{sendable}
use Rattle.std.proofs.Crossing.{crosses, sync}
use Rattle.cache_shards.proofs.Sharings.{cache_sync}
use Rattle.cache_soak.proofs.Crossings.{worker_send}
use Rattle.cache_soak.proofs.crowd.work_all.Goals as goal

pub for_each_mut-requires-send-T : goal.for_each_mut-requires-send-T
for_each_mut-requires-send-T g c κs within = search (sendable, crosses, worker_send) depth 30

pub for_each_mut-requires-sync-F : goal.for_each_mut-requires-sync-F
for_each_mut-requires-sync-F g c κs within = search (sendable, crosses, sync, cache_sync) depth 40 fits 20000
