use Rattle.std.proofs.Common.{◌≡◌, ◌∙◌, ◌+◌, ◌++◌, ◌-◌, List, length, map, refl, sym, ap, subst, rules, arith}
use Rattle.std.specs.Box.{box_value}
use Rattle.std.proofs.lemmas.List.Elements.{All-push}
use Rattle.std.specs.Arc.{arc_value}
use Rattle.extra_stock.specs.{asked_by, is_named, seats_in}
use Rattle.extra_stock.specs.StocksLaws.{chain_gone, chain_left, chains_more}
use Rattle.lent_caches.specs.Building.{AreNewUses, CanLendEach}
use Rattle.lent_caches.specs.Held.{AreApart, HeldData, LentData, caches_data, given_all}
use Rattle.lent_caches.specs.Ledger.{AllHeld, lent_each}
use Rattle.lent_caches.specs.NamedLaws.{apart_times, can_next, times_more}
use Rattle.lent_caches.specs.TimesLaws.{copies, new_more, undo_times}
use Rattle.pin_table.specs.{AreNew-push}
use Rattle.std.specs.List.{All}
use Rattle.chain_build.specs.Lending.{AreHeldBy, chain_names}
use Rattle.chain_build.specs.Shares.{HaveMore, HaveParts}
use Rattle.chain_build.specs.Uses.{ArePooled, chain_named}
use Rattle.chain_build.specs.Workers.{chain_extras, chain_identity, chain_lents, chain_log, chains_lents, plans_of}
use Rattle.chain_build.proofs.LentChains.{held_times, lents_push, pooled_long}
use Rattle.chain_build.proofs.Logging.{empty_log}
use Rattle.chain_build.proofs.Parts.{more_left, one_less}
use Rattle.chain_build.proofs.Pooled.{written_back}
use Rattle.chain_build.proofs.building.build_chains.Goals as goal

pub one_chain-requires-clause-enough : goal.one_chain-requires-clause-enough
one_chain-requires-clause-enough g c n =
    chain_left _ _ c.loop-worker.worker c.args.workers (asked_by (is_named n) (arc_value c.args.plans.now).extras) c.loop-worker-test.true (c.loop-worker.invariant.weighs (is_named n)) (c.requires.enough n)

pub one_chain-requires-clause-more : goal.one_chain-requires-clause-more
one_chain-requires-clause-more g c =
    subst (All HaveMore) (sym c.as_mut_slice.ensures.value) (more_left (c.args.workers + 1 - c.loop-worker.worker) c.loop-worker.shared.items (omega (arith, c.loop-worker-test.true)) c.loop-worker.invariant.parts)

pub one_chain-requires-clause-held : goal.one_chain-requires-clause-held
one_chain-requires-clause-held g c =
    let chains = (arc_value c.args.plans.now).chains in
    subst (AreHeldBy (map chain_named chains)) (sym c.loop-worker.invariant.lent) (held_times (map chain_named chains) c.loop-worker.worker (chain_names chains) (caches_data c.args.caches.now) c.requires.held)

pub one_chain-requires-clause-can : goal.one_chain-requires-clause-can
one_chain-requires-clause-can g c =
    let names = chain_names (arc_value c.args.plans.now).chains in
    subst (CanLendEach names) (sym c.loop-worker.invariant.lent) (can_next c.loop-worker.worker c.args.workers names (caches_data c.args.caches.now) c.loop-worker-test.true c.requires.can)

pub one_chain-requires-clause-apart : goal.one_chain-requires-clause-apart
one_chain-requires-clause-apart g c =
    let names = chain_names (arc_value c.args.plans.now).chains in
    subst AreApart (sym c.loop-worker.invariant.lent) (apart_times c.loop-worker.worker names (caches_data c.args.caches.now) c.requires.apart)

pub give_chains-requires-clause-held : goal.give_chains-requires-clause-held
give_chains-requires-clause-held g c =
    let names = chain_names (arc_value c.args.plans.now).chains in
    let us = chains_lents c.loop-worker.chains.items in
    let was = c.loop-worker.invariant in
    subst (AllHeld us) (sym (c.in-Err.ensures.fails ∙ was.lent)) (undo_times c.loop-worker.worker names (caches_data c.args.caches.now) us was.lents).0

pub give_chains-requires-clause-apart : goal.give_chains-requires-clause-apart
give_chains-requires-clause-apart g c =
    let names = chain_names (arc_value c.args.plans.now).chains in
    subst AreApart (sym (c.in-Err.ensures.fails ∙ c.loop-worker.invariant.lent)) (apart_times c.loop-worker.worker names (caches_data c.args.caches.now) c.requires.apart)

pub returns-in-Err-clause-fails : goal.returns-in-Err-clause-fails
returns-in-Err-clause-fails g c =
    let names = chain_names (arc_value c.args.plans.now).chains in
    let us = chains_lents c.loop-worker.chains.items in
    let was = c.loop-worker.invariant in
    c.give_chains.ensures.given
    ∙ (ap (λ (l : List HeldData). given_all us l) (c.in-Err.ensures.fails ∙ was.lent) ∙ (undo_times c.loop-worker.worker names (caches_data c.args.caches.now) us was.lents).1)

pub loop-worker-preserved : goal.loop-worker-preserved
loop-worker-preserved g c =
    let was = c.loop-worker.invariant in
    let made = c.in-Ok.ensures in
    let push = c.push_reserved.ensures in
    let plans = (arc_value c.args.plans.now).extras in
    let parts = c.args.workers + 1 - c.loop-worker.worker in
    let chains = (arc_value c.args.plans.now).chains in
    let pools = c.loop-worker.shared.items in
    let slice : c.as_mut_slice.result.now ≡ pools = c.as_mut_slice.ensures.value in
    let long : map length c.one_chain.new.shared ≡ map length pools = c.one_chain.ensures.pooled ∙ ap (map length) slice in
    let back = written_back pools c.one_chain.new.shared c.loop-worker.shared.len (pooled_long c.one_chain.new.shared pools long) (sym c.as_mut_slice.ensures.len ∙ ap (λ l. length l) slice) in
    let names = chain_names chains in
    let before = caches_data c.args.caches.now in
    let lents = chains_lents c.loop-worker.chains.items in
    let pushed : chains_lents c.push_reserved.new.self.items ≡ lents ++ chain_lents c.in-Ok.chain = ap (λ cs. chains_lents cs) push.items ∙ lents_push c.loop-worker.chains.items c.in-Ok.chain in
    record {
      obey = c.one_chain.ensures.obey;
      weighs = λ w. chain_gone _ _ _ c.loop-worker.worker (asked_by w plans) (was.weighs w) (made.ok w);
      in_chains = λ w. chains_more (λ k. asked_by w (chain_extras k)) c.loop-worker.chains.items c.push_reserved.new.self.items c.in-Ok.chain c.loop-worker.worker (asked_by w plans) push.items (was.in_chains w) (ap (λ p. asked_by w p.extras) made.plans);
      in_seats = chains_more (λ k. seats_in (chain_extras k)) c.loop-worker.chains.items c.push_reserved.new.self.items c.in-Ok.chain c.loop-worker.worker (seats_in plans) push.items was.in_seats (ap (λ p. seats_in p.extras) made.plans);
      len = chain_gone _ _ _ c.loop-worker.worker (seats_in plans) was.len made.ok_len;
      count = search rules;
      new = rw push.items (AreNew-push chain_identity chain_log c.args.serial 0 c.loop-worker.chains.items c.in-Ok.chain was.new made.serial (made.worker ∙ sym was.count ∙ omega arith) (empty_log (box_value c.in-Ok.chain.held).uses.items made.fresh));
      plans = rw push.items (All-push (λ k. plans_of k ≡ arc_value c.args.plans.now) c.loop-worker.chains.items c.in-Ok.chain was.plans made.plans);
      room = omega (arith, was.room, push.capacity);
      capacity = search rules;
      judges = search rules;
      pooled = subst (ArePooled chains) (sym back) (long ∙ was.pooled);
      parts = subst (All (HaveParts (c.args.workers + 1 - (c.loop-worker.worker + 1)))) (sym back)
          (one_less parts c.args.workers c.loop-worker.worker c.one_chain.new.shared refl (made.parts parts (subst (All (HaveParts parts)) (sym slice) was.parts)));
      lent = made.lent ∙ (ap (λ (l : List HeldData). lent_each names l) was.lent ∙ sym (times_more c.loop-worker.worker names before));
      lents = subst (λ (us : List LentData). AreNewUses (copies (c.loop-worker.worker + 1) names) before us) (sym pushed)
          (new_more c.loop-worker.worker names before lents (chain_lents c.in-Ok.chain) was.lents (subst (λ (l : List HeldData). AreNewUses names l (chain_lents c.in-Ok.chain)) was.lent made.new));
    }
