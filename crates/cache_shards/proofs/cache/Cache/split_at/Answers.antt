use Rattle.std.proofs.Common.{◌∙◌, set, arith, ap}
use Rattle.cache_shards.specs.Seats.{view_of, views_of}
use Rattle.cache_shards.proofs.SeatLists.{same_length, placed, seat_placed, seat_set, view_at, views_set}
use Rattle.cache_shards.proofs.cache.Cache.split_at.Goals as goal

pub index_mut-requires : goal.index_mut-requires
index_mut-requires g c =
    let n = same_length c.args.self.now.capacities c.args.self.now.judge c.args.self.now.ids
    c.args.seat.now.seats.items c.requires.own.each in
    let e = c.requires.own.eight in
    omega (arith, n, e, c.requires.at)

pub split_one-requires-clause-own : goal.split_one-requires-clause-own
split_one-requires-clause-own g c = seat_placed c.args.self.now c.args.seat.now.seats.items c.args.at
    c.index_mut.result.now c.requires.own c.requires.at c.index_mut.ensures.value

pub split_one-requires-clause-parts : goal.split_one-requires-clause-parts
split_one-requires-clause-parts g c = c.requires.parts (view_of c.index_mut.result.now)
    (view_at c.args.seat.now.seats.items c.args.at c.index_mut.result.now
    (placed c.args.self.now c.args.seat.now.seats.items c.args.at c.index_mut.result.now c.requires.own
    c.requires.at c.index_mut.ensures.value))

pub returns-clause-own : goal.returns-clause-own
returns-clause-own g c = seat_set c.args.self.now c.args.seat.now.seats.items c.args.at c.split_one.ensures.own.0
    c.split_one.new.seat c.requires.own c.split_one.ensures.own.1 c.split_one.ensures.own.2

pub returns-clause-cut : goal.returns-clause-cut
returns-clause-cut g c = record {
  view = view_of c.index_mut.result.now;
  was = view_at c.args.seat.now.seats.items c.args.at c.index_mut.result.now
      (placed c.args.self.now c.args.seat.now.seats.items c.args.at c.index_mut.result.now c.requires.own
      c.requires.at c.index_mut.ensures.value);
  left = views_set c.args.seat.now.seats.items c.args.at c.split_one.new.seat
      ∙ ap (λ v. set (views_of c.args.seat.now.seats.items) c.args.at v) c.split_one.ensures.left;
  right_is = c.split_one.ensures.right;
}

pub returns-clause-right : goal.returns-clause-right
returns-clause-right g c = (c.split_one.ensures.own.0, c.split_one.ensures.own.1, c.split_one.ensures.own.3)
