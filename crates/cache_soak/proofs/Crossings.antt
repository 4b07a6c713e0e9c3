-- Workers may cross threads.
use denote.Param.Send.{IsSend, sendable}
use denote.Param.SendFields.{declared_send}
use Rattle.std.proofs.Crossing.{crosses}
use Rattle.cache_shards.proofs.Sharings.{cache_seat_send}
use Rattle.cache_soak.specs.contracts.making.Anything as Anything
use Rattle.cache_soak.specs.contracts.crowd.Worker as Worker

pub worker_send : IsSend Worker.the_row
worker_send = declared_send Worker.the_type (
  cache_seat_send Anything.the_row,
  (search sendable, (search (sendable, crosses) depth 20, (search sendable, tt))),
)
