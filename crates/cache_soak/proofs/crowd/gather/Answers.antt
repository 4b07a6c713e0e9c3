use Rattle.std.proofs.Common.{ℕ, ◌≡◌, ◌+◌, ◌++◌, ◌∷◌, [], List, length, length-append, option_to_list, Some}
use Rattle.std.proofs.Common.{arith, refl, sym, ap, ◌∙◌, subst}
use Rattle.std.proofs.lemmas.List.Elements.{All-pop}
use Rattle.cache_shards.specs.Seats.{ShardView, WholeAt, views_of}
use Rattle.cache_soak.specs.declared.making.Anything.{Anything}
use Rattle.cache_soak.specs.declared.crowd.Worker.{Worker}
use Rattle.cache_soak.specs.Judging.{is_any}
use Rattle.cache_soak.specs.Shares.{AreShares}
use Rattle.cache_soak.specs.Workers.{IsWorking}
use Rattle.cache_soak.proofs.Shares.{met_shares, all_shares, eight_views}
use Rattle.cache_soak.proofs.crowd.gather.Goals as goal

pub loop-worker-init : goal.loop-worker-init
loop-worker-init c =
    let n = c.requires.four in
    (c.requires.own, c.requires.workers, record { many = 1; share = c.requires.share; sum = omega (arith, n) })

pub loop-worker-preserved : goal.loop-worker-preserved
loop-worker-preserved c =
    let cache = c.args.cache.now in
    let i = c.loop-worker.invariant in
    let s = i.2 in
    let left = c.pop.new.self.items in
    let one = c.in-Some.worker in
    let items = c.in-Some.ensures.items in
    let t = All-pop (IsWorking cache) c.loop-worker.workers.items left (Some one) items i.1 in
    let seats = c.loop-worker.seat.seats.items in
    let news = c.meet.new.seat.seats.items in
    let n = ap (λ (l : List Worker). length l) items in
    let m = length-append left (one ∷ []) in
    let q = s.sum in (
      c.meet.ensures.own,
      t.0,
      record {
        many = s.many + 1;
        share = met_shares 5 s.many 1 (views_of seats) (views_of one.seat.seats.items) (views_of news)
            (eight_views cache news c.meet.ensures.own ∙ sym (eight_views cache seats i.0))
            (eight_views cache one.seat.seats.items t.1.own ∙ sym (eight_views cache seats i.0))
            c.meet.ensures.meets s.share t.1.share;
        sum = omega (arith, n, m, q);
      },
    )

pub whole-requires-clause-all : goal.whole-requires-clause-all
whole-requires-clause-all c =
    let s = c.loop-worker.invariant.2 in
    let z = c.in_default.ensures.cases.0 in
    let q = s.sum in
    let views = views_of c.loop-worker.seat.seats.items in
    let e : s.many ≡ 5 = omega (arith, z, q) in
    all_shares 5 views (subst (λ (k : ℕ). AreShares 5 k views) e s.share)

pub returns-clause-whole : goal.returns-clause-whole
returns-clause-whole c =
    let cache = c.args.cache.now in
    λ at l. subst (λ (vs : List (ShardView Anything)). WholeAt at cache.capacities (is_any cache.judge) vs)
    (sym c.whole.ensures.same) (c.whole.ensures.whole at l)
