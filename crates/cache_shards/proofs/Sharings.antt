-- Threads may share a cache, and its seats may cross threads, for any judge, which stands in proofs alone. The
-- checker's own search breaks off at these types, so they are gone through by hand; a caller lists these lemmas.
use mir.Syntax.{Dict}
use denote.RattleType.{RattleType}
use denote.Param.Send.{IsSend, IsSync, sendable}
use denote.Param.SendFields.{declared_send, declared_sync}
use Rattle.std.proofs.Crossing.{crosses, frees, Box-send, Vec-send, Vec-sync}
use Rattle.atomic_table.proofs.shared.Shared.TheSendSync as shared
use Rattle.atomic_table.proofs.send_lease.SendLease.TheSendSync as lease
use Rattle.ruled_lock.proofs.Crossings.{kept_send, seat_send, lock_sync}
use Rattle.ruled_lock.specs.contracts.locked.Locked as Locked
use Rattle.cache_shards.specs.declared.judge.Judge.{Ghosts}
use Rattle.cache_shards.specs.contracts.calls.ShardCall as ShardCall
use Rattle.cache_shards.specs.contracts.calls.ShardReply as ShardReply
use Rattle.cache_shards.specs.contracts.shard.Shard as Shard
use Rattle.cache_shards.specs.contracts.shard.ShardObject.TheImpl as object
use Rattle.cache_shards.specs.contracts.shard.Stores as Stores
use Rattle.cache_shards.specs.contracts.cache.Cache as Cache
use Rattle.cache_shards.specs.contracts.cache.Cache.TheInside as Inside
use Rattle.cache_shards.specs.contracts.cache.CacheSeat as CacheSeat
use Rattle.cache_shards.proofs.store.Store.TheSendSync as store

stores_send : IsSend Stores.the_row
stores_send = declared_send Stores.the_type (store.the_send, (store.the_send, tt))

shard_send : (J : RattleType) → IsSend (Shard.the_row J)
shard_send J = declared_send (Shard.the_type J) (search (sendable, crosses) depth 20, (Box-send _ stores_send, tt))

pub cache_seat_send : (J : RattleType) → IsSend (CacheSeat.the_row J)
cache_seat_send J = declared_send (CacheSeat.the_type J)
    (Vec-send _ (seat_send (Shard.the_row J) ShardCall.the_row ShardReply.the_row (shard_send J)), tt)

module _ (J : RattleType) (g : Ghosts J.Denot) (t : Dict) where
  fields_sync : IsSync (Inside.the_row J g)
  fields_sync = declared_sync (Inside.the_type J g) (
    search (sendable, crosses) depth 20,
    (
      search (sendable, crosses) depth 20,
      (
        search (sendable, crosses) depth 20,
        (
          Vec-sync _ (lock_sync (Shard.the_row J) ShardCall.the_row ShardReply.the_row (object.ghosts J g t)
              (shard_send J)),
          tt,
        ),
      ),
    ),
  )

  pub cache_sync : IsSync (Cache.the_row J g)
  cache_sync = search (fields_sync, sendable) depth 5

  lock_send : IsSend (Locked.the_row (Shard.the_row J) ShardCall.the_row ShardReply.the_row (object.ghosts J g t))
  lock_send = declared_send (Locked.the_type (Shard.the_row J) ShardCall.the_row ShardReply.the_row (object.ghosts J g t))
      (search (sendable, crosses, shared.the_send, lease.the_send, kept_send, shard_send, frees) depth 30, tt)

  fields_send : IsSend (Inside.the_row J g)
  fields_send = declared_send (Inside.the_type J g) (
    search (sendable, crosses) depth 20,
    (search (sendable, crosses) depth 20, (search (sendable, crosses) depth 20, (Vec-send _ lock_send, tt))),
  )

  pub cache_send : IsSend (Cache.the_row J g)
  cache_send = search (fields_send, sendable) depth 5
