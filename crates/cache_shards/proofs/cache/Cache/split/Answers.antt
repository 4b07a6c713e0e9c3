use Rattle.std.proofs.Common.{◌≡◌, ◌∙◌, ◌≤◌, ◌+◌, map, take, arith, sym, subst, ap}
use Rattle.ruled_lock.specs.Steps.{right_view}
use Rattle.cache_shards.specs.Seats.{AreSeats, views_of}
use Rattle.cache_shards.proofs.SeatLists.{cut_left, cut_right, cut_seats, cut_done, take_whole}
use Rattle.cache_shards.proofs.SeatLists.{length_views, length_others}
use Rattle.cache_shards.proofs.cache.Cache.split.Goals as goal

pub loop-at-preserved : goal.loop-at-preserved
loop-at-preserved g c =
    let i = c.loop-at.invariant in
    let e = c.split_at-right.ensures in
    let p = c.push_reserved.ensures in
    let vs = views_of c.args.seat.now.seats.items in
    let us = views_of c.loop-at.seat.seats.items in
    let ns = views_of c.split_at-right.new.seat.seats.items in (
      e.own,
      cut_left c.loop-at.at vs us ns _ i.1 e.cut,
      subst (λ l. views_of l ≡ map right_view (take (c.loop-at.at + 1) vs)) (sym p.items)
          (cut_right c.loop-at.at vs us ns c.loop-at.seats.items c.split_at-right.result i.1 e.cut i.2),
      subst (λ l. AreSeats c.args.self.now.capacities c.args.self.now.judge (take
          (c.loop-at.at + 1) c.args.self.now.ids) l) (sym p.items)
          (cut_seats c.args.self.now c.loop-at.at c.loop-at.seats.items e.right.0 c.split_at-right.result i.3 e.right.1
          e.right.2),
      (let n = p.len in omega (arith, n, i.4)),
      subst (λ n. 8 ≤ n) (sym p.capacity) i.5,
    )

pub returns-clause-left : goal.returns-clause-left
returns-clause-left g c =
    let vs = views_of c.args.seat.now.seats.items in
    let n = length_others c.args.self.now c.args.seat.now.seats.items c.requires.own in
    let m = length_views c.args.seat.now.seats.items in
    let f = c.loop-at-test.false in
    cut_done vs (views_of c.loop-at.seat.seats.items) c.loop-at.at (omega (arith, n, m, f)) c.loop-at.invariant.1

pub returns-clause-right : goal.returns-clause-right
returns-clause-right g c =
    let vs = views_of c.args.seat.now.seats.items in
    let n = length_others c.args.self.now c.args.seat.now.seats.items c.requires.own in
    let m = length_views c.args.seat.now.seats.items in
    let f = c.loop-at-test.false in
    c.loop-at.invariant.2 ∙ ap (map right_view) (take_whole c.loop-at.at vs (omega (arith, n, m, f)))
