use Rattle.std.proofs.Common.{◌∙◌, set, arith, ap, subst, sym}
use Rattle.std.proofs.lemmas.Option.{same_Some}
use Rattle.cache_shards.specs.Seats.{IsWhole, view_of, views_of}
use Rattle.cache_shards.proofs.SeatLists.{same_length, placed, seat_placed, seat_set, view_at, views_set, set_back}
use Rattle.cache_shards.proofs.cache.Cache.whole_at.Goals as goal

pub index_mut-requires : goal.index_mut-requires
index_mut-requires g c =
    let n = same_length c.args.self.now.capacities c.args.self.now.judge c.args.self.now.ids
    c.args.seat.now.seats.items c.requires.own.each in
    let e = c.requires.own.eight in
    omega (arith, n, e, c.requires.at)

pub whole_one-requires-clause-own : goal.whole_one-requires-clause-own
whole_one-requires-clause-own g c = seat_placed c.args.self.now c.args.seat.now.seats.items c.args.at
    c.index_mut.result.now c.requires.own c.requires.at c.index_mut.ensures.value

pub whole_one-requires-clause-all : goal.whole_one-requires-clause-all
whole_one-requires-clause-all g c = c.requires.all c.args.at (view_of c.index_mut.result.now)
    (view_at c.args.seat.now.seats.items c.args.at c.index_mut.result.now
    (placed c.args.self.now c.args.seat.now.seats.items c.args.at c.index_mut.result.now c.requires.own
    c.requires.at c.index_mut.ensures.value))

pub returns-clause-own : goal.returns-clause-own
returns-clause-own g c = seat_set c.args.self.now c.args.seat.now.seats.items c.args.at c.whole_one.ensures.own.0
    c.whole_one.new.seat c.requires.own c.whole_one.ensures.own.1 c.whole_one.ensures.own.2

pub returns-clause-same : goal.returns-clause-same
returns-clause-same g c =
    let at_place = view_at c.args.seat.now.seats.items c.args.at c.index_mut.result.now
    (placed c.args.self.now c.args.seat.now.seats.items c.args.at c.index_mut.result.now c.requires.own
    c.requires.at c.index_mut.ensures.value) in
    views_set c.args.seat.now.seats.items c.args.at c.whole_one.new.seat
    ∙ ap (λ v. set (views_of c.args.seat.now.seats.items) c.args.at v) c.whole_one.ensures.same
    ∙ set_back (views_of c.args.seat.now.seats.items) c.args.at (view_of c.index_mut.result.now) at_place

pub returns-clause-whole : goal.returns-clause-whole
returns-clause-whole g c = λ v is.
    let at_place = view_at c.args.seat.now.seats.items c.args.at c.index_mut.result.now
    (placed c.args.self.now c.args.seat.now.seats.items c.args.at c.index_mut.result.now c.requires.own
    c.requires.at c.index_mut.ensures.value) in
    let one = same_Some (view_of c.index_mut.result.now) v (sym at_place ∙ is) in
    subst (λ w. IsWhole c.args.self.now.capacities (g.J.Judge.just c.args.self.now.judge) w) one
    c.whole_one.ensures.whole
