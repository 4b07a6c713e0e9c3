use Rattle.std.proofs.Common.{◌≡◌, ◌∙◌, ◌++◌, ◌∷◌, [], take, length, length-append, option_to_list, arith}
use Rattle.std.proofs.Common.{sym, subst, ap}
use Rattle.cache_shards.specs.Seats.{AreSeats, view_of, views_of}
use Rattle.cache_shards.proofs.SeatLists.{MetBehind, none_met, last_seat, seats_less, met_next, map_snoc, take_whole}
use Rattle.cache_shards.proofs.SeatLists.{length_views, length_others}
use Rattle.cache_shards.proofs.cache.Cache.meet.Goals as goal

pub loop-one-init : goal.loop-one-init
loop-one-init g c =
    let n = length_others c.args.self.now c.args.other.seats.items c.requires.other in
    let m = c.requires.other.eight in (
      c.requires.own,
      subst (λ l. AreSeats c.args.self.now.capacities c.args.self.now.judge l c.args.other.seats.items) (sym
          (take_whole (length c.args.other.seats.items) c.args.self.now.ids (omega
          (arith, n, m)))) c.requires.other.each,
      omega (arith, n),
      subst (λ k. MetBehind k (views_of c.args.seat.now.seats.items) (views_of c.args.other.seats.items)
          (views_of c.args.other.seats.items) (views_of c.args.seat.now.seats.items))
          (length_views c.args.other.seats.items) (none_met (views_of c.args.seat.now.seats.items)
          (views_of c.args.other.seats.items)),
    )

pub meet_at-requires-clause-other : goal.meet_at-requires-clause-other
meet_at-requires-clause-other g c =
    let left = c.pop.new.self.items in
    let one = c.in-Some.one in
    let items : c.loop-one.others.items ≡ left ++ one ∷ [] = c.pop.ensures.items
    ∙ ap (λ r. left ++ option_to_list r) c.in-Some.is in
    let e = c.len-at.ensures in
    last_seat c.args.self.now (length c.loop-one.others.items) left one c.len-at.result (omega (arith, e))
    (subst (λ l. AreSeats c.args.self.now.capacities c.args.self.now.judge (take
    (length c.loop-one.others.items) c.args.self.now.ids) l) items c.loop-one.invariant.1)

pub loop-one-preserved : goal.loop-one-preserved
loop-one-preserved g c =
    let i = c.loop-one.invariant in
    let left = c.pop.new.self.items in
    let one = c.in-Some.one in
    let items : c.loop-one.others.items ≡ left ++ one ∷ [] = c.pop.ensures.items
    ∙ ap (λ r. left ++ option_to_list r) c.in-Some.is in
    let e = c.len-at.ensures in
    let n = ap (λ l. length l) items in
    let k = length-append left (one ∷ []) in
    let vs = views_of c.args.seat.now.seats.items in
    let ws = views_of c.args.other.seats.items in
    let us = views_of c.loop-one.seat.seats.items in
    let m = length_views left in
    let at_end : MetBehind (length (views_of left ++ view_of one ∷ [])) vs ws (views_of left ++ view_of one ∷ []) us =
    subst (λ l. MetBehind (length l) vs ws l us) (map_snoc view_of left one)
    (subst (λ l. MetBehind (length (views_of l)) vs ws (views_of l) us) items
    (subst (λ j. MetBehind j vs ws (views_of c.loop-one.others.items) us) (sym
    (length_views c.loop-one.others.items)) i.3)) in
    let at_left : c.len-at.result ≡ length left = omega (arith, e) in (
      c.meet_at.ensures.own,
      seats_less c.args.self.now.capacities c.args.self.now.judge c.args.self.now.ids
          (length c.loop-one.others.items) left one
          (subst (λ l. AreSeats c.args.self.now.capacities c.args.self.now.judge (take
          (length c.loop-one.others.items) c.args.self.now.ids) l) items i.1),
      (let h = i.2 in omega (arith, n, k, h)),
      subst (λ j. MetBehind j vs ws (views_of left) (views_of c.meet_at.new.seat.seats.items)) at_left
          (met_next c.len-at.result vs ws (views_of left) (view_of one) us (views_of c.meet_at.new.seat.seats.items) (m
          ∙ sym at_left) at_end c.meet_at.ensures.meets),
    )

pub returns-clause-meets : goal.returns-clause-meets
returns-clause-meets g c =
    let z = c.in_default.ensures.cases.0 in
    λ at v w u a b is. c.loop-one.invariant.3.met at v w u (omega (arith, z)) a b is
