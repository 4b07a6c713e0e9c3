-- What the roles of a run own may cross threads, and threads may share the table of their chains. The checker's own search
-- breaks off at the lock in a pool of upstreams, so the types round it are gone through by hand, up to the roles.
use mir.Syntax.{Dict}
use denote.RattleType.{RattleType}
use denote.Ref.{NamedLft}
use denote.Struct.Field.{row_field}
use denote.Enum.Declared as Enum
use denote.Param.Send.{IsSend, IsSync, sendable, shr_sync}
use denote.Param.SendFields.{as_row_send, as_row_sync, declared_send, declared_sync, variants_send, variants_sync}
use Rattle.std.proofs.Crossing.{crosses, frees, Arc-send, Arc-sync, Box-send, Vec-send, Vec-sync}
use Rattle.std.specs.contracts.option.Option as Option
use Rattle.plugin_api.specs.declared.extra.Extra as extra
use Rattle.plugin_api.specs.declared.rulebook.Rulebook as rulebook
use Rattle.chain_build.specs.contracts.chain.Chain as Chain
use Rattle.chain_build.specs.contracts.held.Held as Held
use Rattle.chain_build.specs.contracts.block.BlockChain as BlockChain
use Rattle.chain_build.proofs.block_chain.BackAnswerer.TheSendSync as back
use Rattle.chain_build.proofs.block_chain.FrontAnswerer.TheSendSync as middle
use Rattle.chain_build.proofs.block_chain.FrontStep.TheSendSync as front
use Rattle.dns64_plugin.proofs.plan.Dns64Plan.TheSendSync as dns64
use Rattle.cache_rules.proofs.plan.CachePlan.TheSendSync as cache
use Rattle.rewrite_plugin.proofs.plan.RewritePlan.TheSendSync as rewrite
use Rattle.dns_data.specs.contracts.directive.Directive as Directive
use Rattle.dns_data.proofs.directive.Directive.TheSendSync as directive
use Rattle.dns_data.proofs.block.Block.TheSendSync as block
use Rattle.plugin_api.proofs.index.BlockIndex.TheSendSync as index
use Rattle.chain_build.specs.contracts.plans.Plans as Plans
use Rattle.chain_build.specs.contracts.plans.Plans.TheInside as PlansInside
use Rattle.pin_table.specs.contracts.passes.Pass as Pass
use Rattle.pin_table.specs.contracts.publisher.Publisher as Publisher
use Rattle.pin_table.specs.contracts.table.PinTable as PinTable
use Rattle.pin_table.specs.declared.tagged.Tagged as tagged
use Rattle.query_worker.specs.contracts.worker.Worker as Worker
use Rattle.atomic_table.proofs.shared.Seat.TheSendSync as seat
use Rattle.chain_build.proofs.room.Room.TheSendSync as room
use Rattle.atomic_table.proofs.shared.Shared.TheSendSync as shared
use Rattle.atomic_table.proofs.send_lease.SendLease.TheSendSync as lease
use Rattle.ruled_lock.proofs.Crossings.{kept_send, seat_send, lock_sync}
use Rattle.ruled_lock.specs.contracts.locked.Locked as Locked
use Rattle.upstream_health.specs.contracts.state.Health as Health
use Rattle.upstream_health.specs.contracts.state.PoolAsk as PoolAsk
use Rattle.upstream_health.specs.contracts.state.PoolTold as PoolTold
use Rattle.upstream_health.specs.contracts.pool.Pool as Pool
use Rattle.upstream_health.specs.contracts.pool.PoolSeat as PoolSeat
use Rattle.forward_plugin.specs.contracts.pool_use.PoolUse as PoolUse
use Rattle.forward_plugin.specs.contracts.pools.Pools as Pools
use Rattle.forward_plugin.specs.contracts.pools.Pools.TheInside as Inside
use Rattle.cache_plugin.specs.contracts.cache_use.CacheUse as CacheUse
use Rattle.cache_plugin.specs.contracts.cache_use.CacheUse.TheInside as CacheInside
use Rattle.cache_shards.proofs.Sharings.{cache_seat_send, cache_send, cache_sync}
use Rattle.chain_build.specs.contracts.block_uses.BlockUses as BlockUses
use Rattle.dns_lists.specs.contracts.seq.Seq as Seq
use Rattle.dns_lists.specs.contracts.seq.Seq.TheInside as SeqInside
use Rattle.lent_caches.specs.contracts.caches.Caches as Caches
use Rattle.lent_caches.specs.contracts.judge.BlockJudge as BlockJudge
use Rattle.lent_caches.specs.contracts.judge.BlockJudgeJudge.TheImpl as judge
use Rattle.lent_caches.specs.contracts.name.NamedCache as NamedCache
use Rattle.lent_caches.specs.contracts.uses.HeldCache as HeldCache
use Rattle.lent_caches.specs.contracts.uses.LentCache as LentCache
use Rattle.reload_watch.specs.contracts.watcher.Watcher as Watcher
use Rattle.dns_server.specs.contracts.roles.Role as Role
use Rattle.dns_server.specs.contracts.roles.Shared as Shared

health_send : IsSend Health.the_row
health_send = search (sendable, crosses) depth 20

pool_seat_send : IsSend PoolSeat.the_row
pool_seat_send = declared_send PoolSeat.the_type (seat_send Health.the_row PoolAsk.the_row PoolTold.the_row health_send, tt)

pool_sync : IsSync Pool.the_row
pool_sync = declared_sync Pool.the_type (lock_sync Health.the_row PoolAsk.the_row PoolTold.the_row _ health_send, tt)

pool_send : IsSend Pool.the_row
pool_send = declared_send Pool.the_type (
  declared_send (Locked.the_type Health.the_row PoolAsk.the_row PoolTold.the_row _)
      (search (sendable, crosses, shared.the_send, lease.the_send, kept_send, health_send, frees) depth 30, tt),
  tt,
)

use_send : IsSend PoolUse.the_row
use_send = declared_send PoolUse.the_type (Arc-send _ pool_send pool_sync, (pool_seat_send, tt))

inside_send : IsSend Inside.the_row
inside_send = declared_send Inside.the_type (Vec-send _ use_send, tt)

pub pools_send : IsSend Pools.the_row
pools_send = search (inside_send, sendable) depth 5

abbrev option_record : RattleType → Enum.Record
option_record R = let T = Option.the_type R in record { name = T.name; args = T.args; types = T.types; parts = T.parts; D = T.D; as_values = Option.as_values R; make = Option.the_make R; eta = Option.the_eta R; beta = Option.the_beta R }

option_send : (R : RattleType) → IsSend R → IsSend (Option.the_row R)
option_send R s = variants_send (option_record R) (tt, ((as_row_send (row_field R) s, tt), tt))

-- the lemmas of a cache take a dictionary, on which nothing depends
none_given : Dict
none_given = Dict.given 0

option_sync : (R : RattleType) → IsSync R → IsSync (Option.the_row R)
option_sync R s = variants_sync (option_record R) (tt, ((as_row_sync (row_field R) s, tt), tt))

cache_inside_send : IsSend (CacheInside.the_row BlockJudge.the_row judge.ghosts)
cache_inside_send = declared_send (CacheInside.the_type BlockJudge.the_row judge.ghosts)
    (Arc-send _ (cache_send BlockJudge.the_row judge.ghosts none_given) (cache_sync BlockJudge.the_row judge.ghosts none_given), (cache_seat_send BlockJudge.the_row, tt))

cache_use_send : IsSend (CacheUse.the_row BlockJudge.the_row judge.ghosts)
cache_use_send = search (cache_inside_send, sendable) depth 5

lent_send : IsSend LentCache.the_row
lent_send = declared_send LentCache.the_type (search (sendable, crosses) depth 20, (cache_use_send, tt))

held_cache_send : IsSend HeldCache.the_row
held_cache_send = declared_send HeldCache.the_type (search (sendable, crosses) depth 20, (cache_use_send, (search sendable, tt)))

caches_send : IsSend Caches.the_row
caches_send = declared_send Caches.the_type (Vec-send _ held_cache_send, tt)

named_send : IsSend NamedCache.the_row
named_send = declared_send NamedCache.the_type
    (search (sendable, crosses) depth 20, (Arc-send _ (cache_send BlockJudge.the_row judge.ghosts none_given) (cache_sync BlockJudge.the_row judge.ghosts none_given), tt))

named_sync : IsSync NamedCache.the_row
named_sync = declared_sync NamedCache.the_type
    (search (sendable, crosses) depth 20, (Arc-sync _ (cache_send BlockJudge.the_row judge.ghosts none_given) (cache_sync BlockJudge.the_row judge.ghosts none_given), tt))

block_uses_send : IsSend BlockUses.the_row
block_uses_send = declared_send BlockUses.the_type (pools_send, (option_send _ lent_send, tt))

seq_inside_send : (T : RattleType) → IsSend T → IsSend (SeqInside.the_row T)
seq_inside_send T s = declared_send (SeqInside.the_type T) (Vec-send _ s, tt)

seq_inside_sync : (T : RattleType) → IsSync T → IsSync (SeqInside.the_row T)
seq_inside_sync T s = declared_sync (SeqInside.the_type T) (Vec-sync _ s, tt)

seq_send : (T : RattleType) → IsSend T → IsSend (Seq.the_row T)
seq_send T s = search (seq_inside_send, sendable) depth 5

seq_sync : (T : RattleType) → IsSync T → IsSync (Seq.the_row T)
seq_sync T s = search (seq_inside_sync, sendable) depth 5

directives_send : IsSend (Seq.the_row Directive.the_row)
directives_send = seq_send _ directive.the_send

directives_sync : IsSync (Seq.the_row Directive.the_row)
directives_sync = seq_sync _ directive.the_sync

block_chain_send : IsSend BlockChain.the_row
block_chain_send = declared_send BlockChain.the_type
    (seq_send _ front.the_send, (option_send _ dns64.the_send, (seq_send _ middle.the_send, (directives_send, (option_send _ cache.the_send, (seq_send _ rewrite.the_send, (seq_send _ back.the_send, (search sendable, (option_send _ named_send, tt)))))))))

block_chain_sync : IsSync BlockChain.the_row
block_chain_sync = declared_sync BlockChain.the_type
    (seq_sync _ front.the_sync, (option_sync _ dns64.the_sync, (seq_sync _ middle.the_sync, (directives_sync, (option_sync _ cache.the_sync, (seq_sync _ rewrite.the_sync, (seq_sync _ back.the_sync, (search sendable, (option_sync _ named_sync, tt)))))))))

module _ (B E : RattleType) (b : rulebook.Ghosts B.Denot) (e : extra.Ghosts E.Denot) (bs : IsSend B) (by : IsSync B) (es : IsSend E) where
  held_send : IsSend (Held.the_row B E b e)
  held_send = declared_send (Held.the_type B E b e) (search sendable, (search sendable, (Vec-send _ (search (sendable, crosses) depth 20), (Vec-send _ block_uses_send, tt))))

  plans_inside_send : IsSend (PlansInside.the_row B b)
  plans_inside_send = declared_send (PlansInside.the_type B b)
      (search (sendable, crosses) depth 30, (search sendable, (search (sendable, crosses) depth 30, (seq_send _ block.the_send, (index.the_send, (seq_send _ block_chain_send, (seq_send _ directives_send, (search (sendable, crosses) depth 30, (search (sendable, crosses) depth 30, tt)))))))))

  plans_inside_sync : IsSync (PlansInside.the_row B b)
  plans_inside_sync = declared_sync (PlansInside.the_type B b)
      (search (sendable, crosses) depth 30, (search sendable, (search (sendable, crosses) depth 30, (seq_sync _ block.the_sync, (index.the_sync, (seq_sync _ block_chain_sync, (seq_sync _ directives_sync, (search (sendable, crosses) depth 30, (search (sendable, crosses) depth 30, tt)))))))))

  plans_send : IsSend (Plans.the_row B b)
  plans_send = search (plans_inside_send, sendable) depth 5

  plans_sync : IsSync (Plans.the_row B b)
  plans_sync = search (plans_inside_sync, sendable) depth 5

  pub chain_send : IsSend (Chain.the_row B E b e)
  chain_send = declared_send (Chain.the_type B E b e) (Arc-send _ plans_send plans_sync, (Box-send _ held_send, tt))

  pass_send : IsSend (Pass.the_row (Chain.the_row B E b e))
  pass_send = declared_send (Pass.the_type (Chain.the_row B E b e))
      (seat.the_send _ _ (option_send _ chain_send), (search sendable, (search sendable, (search sendable, (search sendable, tt)))))

  publisher_send : IsSend (Publisher.the_row (Chain.the_row B E b e))
  publisher_send = declared_send (Publisher.the_type (Chain.the_row B E b e))
      (seat.the_send _ _ (option_send _ chain_send), (search sendable, (search sendable, (search (sendable, crosses) depth 20, (search sendable, tt)))))

  worker_send : (S : RattleType) → IsSend S → IsSend (Worker.the_row S B E b e)
  worker_send S s = declared_send (Worker.the_type S B E b e)
      (as_row_send (row_field S) s, (pass_send, (search (sendable, crosses) depth 20, (room.the_send, tt))))

  watcher_send : (W : RattleType) → IsSend W → IsSend (Watcher.the_row W B E b e)
  watcher_send W w = declared_send (Watcher.the_type W B E b e) (
    as_row_send (row_field W) w,
    (
      publisher_send,
      (
        search sendable,
        (Arc-send _ plans_send plans_sync, (search (sendable, crosses) depth 20, (Vec-send _ chain_send, (caches_send, (search sendable, (search sendable, tt)))))),
      ),
    ),
  )

  abbrev role_record : (S W : RattleType) → Enum.Record
  role_record S W = let T = Role.the_type S W B E b e in record { name = T.name; args = T.args; types = T.types; parts = T.parts; D = T.D; as_values = Role.as_values S W B E b e; make = Role.the_make S W B E b e; eta = Role.the_eta S W B E b e; beta = Role.the_beta S W B E b e }

  pub role_send : (S W : RattleType) → IsSend S → IsSend W → IsSend (Role.the_row S W B E b e)
  role_send S W s w = variants_send (role_record S W) ((worker_send S s, (search (sendable, crosses) depth 20, tt)), ((watcher_send W w, tt), tt))

module _ (C N K : RattleType) (t : tagged.Ghosts C.Denot N.Denot K.Denot) where
  whole_sync : IsSend (Option.the_row C) → IsSync (PinTable.the_row C N K t)
  whole_sync s = declared_sync (PinTable.the_type C N K t) (search (sendable, crosses, shared.the_sync, lease.the_sync, frees) depth 30, tt)

  pub table_sync : IsSend C → IsSync (PinTable.the_row C N K t)
  table_sync s = whole_sync (option_send _ s)

module _ (l : NamedLft) (B E : RattleType) (b : rulebook.Ghosts B.Denot) (e : extra.Ghosts E.Denot) (bs : IsSend B) (by : IsSync B) (es : IsSend E) where
  pub shared_sync : IsSync (Shared.the_row l B E b e)
  shared_sync = declared_sync (Shared.the_type l B E b e) (search (as_row_sync, shr_sync, table_sync, chain_send) depth 10 fits 5000, (search (sendable, crosses) depth 20, (search sendable, tt)))
