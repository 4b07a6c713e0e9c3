use Rattle.std.proofs.Common.{◌<◌, length, arith}
use Rattle.std.proofs.lemmas.Option.{slice_get_read}
use Rattle.cache_shards.proofs.SeatLists.{same_length, seat_at, seats_set, adds_set}
use Rattle.cache_shards.proofs.cache.Cache.ask_at.Goals as goal

pub index_mut-requires : goal.index_mut-requires
index_mut-requires g c =
    let n = same_length c.args.self.now.capacities c.args.self.now.judge c.args.self.now.ids
    c.args.seat.now.seats.items c.requires.own.each in
    let e = c.requires.own.eight in
    omega (arith, n, e, c.requires.at)

pub ask-requires-clause-own : goal.ask-requires-clause-own
ask-requires-clause-own g c =
    let n = same_length c.args.self.now.capacities c.args.self.now.judge c.args.self.now.ids
    c.args.seat.now.seats.items c.requires.own.each in
    let low : c.args.at < length c.args.seat.now.seats.items = omega
    (arith, n, c.requires.own.eight, c.requires.at) in
    seat_at c.args.self.now.capacities c.args.self.now.judge c.args.self.now.ids c.args.seat.now.seats.items c.args.at
    c.index_mut.result.now c.requires.own.each
    (slice_get_read c.args.seat.now.seats.items (length c.args.seat.now.seats.items) c.args.at
    c.index_mut.result.now (λ i. length c.args.seat.now.seats.items) low c.index_mut.ensures.value)

pub returns-clause-own : goal.returns-clause-own
returns-clause-own g c = record {
  each = seats_set c.args.self.now.capacities c.args.self.now.judge c.args.self.now.ids c.args.seat.now.seats.items
      c.args.at c.ask.ensures.own.0 c.ask.new.seat c.requires.own.each c.ask.ensures.own.1 c.ask.ensures.own.2;
  eight = c.requires.own.eight;
  room = c.requires.own.room;
}

pub returns-clause-adds : goal.returns-clause-adds
returns-clause-adds g c =
    let n = same_length c.args.self.now.capacities c.args.self.now.judge c.args.self.now.ids
    c.args.seat.now.seats.items c.requires.own.each in
    let low : c.args.at < length c.args.seat.now.seats.items = omega
    (arith, n, c.requires.own.eight, c.requires.at) in
    adds_set c.args.self.now.capacities (g.J.Judge.just c.args.self.now.judge) c.args.seat.now.seats.items c.args.at
    c.index_mut.result.now c.ask.new.seat _
    (slice_get_read c.args.seat.now.seats.items (length c.args.seat.now.seats.items) c.args.at
    c.index_mut.result.now (λ i. length c.args.seat.now.seats.items) low c.index_mut.ensures.value)
    c.ask.ensures.adds
