use Rattle.std.proofs.Common.{ℕ, ◌≡◌, ◌+◌, ◌-◌, List, length, arith, refl, sym, ap, ◌∙◌, subst}
use Rattle.std.proofs.lemmas.List.{length_push}
use Rattle.std.proofs.lemmas.List.Elements.{All-push, All-nil}
use Rattle.std.specs.List.{All}
use Rattle.cache_shards.specs.Seats.{IsSeatOf, views_of}
use Rattle.cache_shards.specs.declared.cache.CacheSeat.{CacheSeat}
use Rattle.cache_soak.specs.declared.making.Anything.{Anything}
use Rattle.cache_soak.specs.declared.crowd.Worker.{Worker}
use Rattle.cache_soak.specs.Shares.{AreShares}
use Rattle.cache_soak.specs.Workers.{IsWorking}
use Rattle.cache_soak.proofs.Shares.{enough, left_shares, right_shares}
use Rattle.cache_soak.proofs.crowd.enlist.Goals as goal

pub loop-number-init : goal.loop-number-init
loop-number-init c =
    let P = IsWorking c.args.cache.now in
    let e = c.new-workers.ensures.items in (
      c.requires.own,
      subst (λ (l : List Worker). All P l) (sym e) (All-nil P),
      ap (λ (l : List Worker). length l) e,
      record { many = 5; share = c.requires.share; sum = refl },
    )

pub split-requires-clause-parts : goal.split-requires-clause-parts
split-requires-clause-parts c =
    let s = c.loop-number.invariant.3 in
    let q = s.sum in
    let l = c.loop-number-test.true in
    enough 2 5 s.many _ (omega (arith, q, l)) s.share

pub loop-number-preserved : goal.loop-number-preserved
loop-number-preserved c =
    let P = IsWorking c.args.cache.now in
    let i = c.loop-number.invariant in
    let s = i.3 in
    let q = s.sum in
    let l = c.loop-number-test.true in
    let before = views_of c.loop-number.seat.seats.items in
    let cut = c.in_ok-other.ensures in
    let one = c.worker_of.result in
    let own : IsSeatOf c.args.cache.now one.seat.seats.items =
    subst (λ (z : CacheSeat Anything). IsSeatOf c.args.cache.now z.seats.items) (sym c.worker_of.ensures)
    cut.right_own in
    let share : AreShares 5 1 (views_of one.seat.seats.items) =
    subst (λ (z : CacheSeat Anything). AreShares 5 1 (views_of z.seats.items)) (sym c.worker_of.ensures)
    (right_shares 5 s.many before _ cut.right s.share) in
    let made = c.loop-number.workers.items in
    let e = c.in_ok-push.ensures.items in
    let more : s.many ≡ 4 - c.loop-number.number + 1 = omega (arith, q, l) in (
      c.split.ensures.own,
      subst (λ (m : List Worker). All P m) (sym e) (All-push P made one i.1 (record { own = own; share = share })),
      ap (λ (m : List Worker). length m) e ∙ (length_push made one ∙ ap (λ (k : ℕ). k + 1) i.2),
      record {
        many = 4 - c.loop-number.number;
        share = left_shares 5 (4 - c.loop-number.number) before _ cut.left
            (subst (λ (k : ℕ). AreShares 5 k before) more s.share);
        sum = omega (arith, l);
      },
    )
