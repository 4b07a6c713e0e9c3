use Rattle.std.proofs.Common.{◌≤◌, arith, sym, subst}
use Rattle.std.specs.NonZero.{non_zero_usize_get}
use Rattle.cache_shards.specs.Answers.{capacities_of}
use Rattle.cache_shards.specs.Seats.{IsSeat}
use Rattle.cache_shards.proofs.SeatLists.{seats_more, new_more}
use Rattle.cache_shards.proofs.cache.Cache.with_room.Goals as goal

pub loop-at-preserved : goal.loop-at-preserved
loop-at-preserved g c =
    let i = c.loop-at.invariant in
    let e = c.in-Ok-open.ensures in
    let p = c.push_reserved.ensures in
    let q = c.push_reserved-in-loop-at.ensures in
    let lock = c.in-Ok-open.lock in
    let seat = c.in-Ok-open.seat in
    let caps = capacities_of (non_zero_usize_get c.args.success) (non_zero_usize_get c.args.denial) in (
      seats_more (λ k. k.table.shared.table_id) caps c.args.judge c.loop-at.locks.items c.loop-at.seats.items lock
          seat c.push_reserved.new.self.items c.push_reserved-in-loop-at.new.self.items p.items q.items i.0
          (subst (λ j. IsSeat caps j lock.table.shared.table_id seat) c.of.ensures e.own),
      new_more c.args.parts c.loop-at.seats.items seat c.push_reserved-in-loop-at.new.self.items q.items i.1 e.new,
      (let n = p.len in omega (arith, n, i.2)),
      (let n = q.len in omega (arith, n, i.3)),
      subst (λ n. 8 ≤ n) (sym p.capacity) i.4,
      subst (λ n. 8 ≤ n) (sym q.capacity) i.5,
    )
