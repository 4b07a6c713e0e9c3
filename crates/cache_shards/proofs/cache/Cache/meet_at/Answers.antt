use Rattle.std.proofs.Common.{arith}
use Rattle.cache_shards.specs.Seats.{view_of}
use Rattle.cache_shards.proofs.SeatLists.{same_length, placed, seat_placed, seat_set, view_at, views_set, one_id}
use Rattle.cache_shards.proofs.cache.Cache.meet_at.Goals as goal

pub index_mut-requires : goal.index_mut-requires
index_mut-requires g c =
    let n = same_length c.args.self.now.capacities c.args.self.now.judge c.args.self.now.ids
    c.args.seat.now.seats.items c.requires.own.each in
    let e = c.requires.own.eight in
    omega (arith, n, e, c.requires.at)

pub meet_one-requires-clause-own : goal.meet_one-requires-clause-own
meet_one-requires-clause-own g c =
    let s = seat_placed c.args.self.now c.args.seat.now.seats.items c.args.at c.index_mut.result.now c.requires.own
    c.requires.at c.index_mut.ensures.value in
    let o = c.requires.other in
    (s.0, s.1, s.2, one_id c.args.self.now c.args.at o.0 s.0 c.args.other o.1 s.1 o.2)

pub returns-clause-own : goal.returns-clause-own
returns-clause-own g c = seat_set c.args.self.now c.args.seat.now.seats.items c.args.at c.meet_one.ensures.own.0
    c.meet_one.new.seat c.requires.own c.meet_one.ensures.own.1 c.meet_one.ensures.own.2

pub returns-clause-meets : goal.returns-clause-meets
returns-clause-meets g c = record {
  view = view_of c.index_mut.result.now;
  new = view_of c.meet_one.new.seat;
  was = view_at c.args.seat.now.seats.items c.args.at c.index_mut.result.now
      (placed c.args.self.now c.args.seat.now.seats.items c.args.at c.index_mut.result.now c.requires.own
      c.requires.at c.index_mut.ensures.value);
  is = views_set c.args.seat.now.seats.items c.args.at c.meet_one.new.seat;
  meets = c.meet_one.ensures.meets;
}
