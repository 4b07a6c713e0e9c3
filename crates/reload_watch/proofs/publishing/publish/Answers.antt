use Rattle.std.proofs.Common.{List, [], ◌∷◌, ◌++◌, ap, sym, subst, ◌∙◌, arith}
use Rattle.std.proofs.lemmas.List.{length_push, take_all}
use Rattle.pin_table.specs.declared.views.Plan.{Plan}
use Rattle.all_home.specs.AllHome.{AreAccounted}
use Rattle.pin_table.specs.{count_of, plan_of, plan_slot}
use Rattle.reload_watch.specs.AccountsLaws.{free_phase, published_accounts}
use Rattle.reload_watch.specs.Placing.{IsPlaced}
use Rattle.reload_watch.specs.Stocked.{chain_seats, chain_weighs}
use Rattle.reload_watch.proofs.Placed.{placed_published}
use Rattle.reload_watch.proofs.publishing.publish.Goals as goal

pub returns-clause-placed : goal.returns-clause-placed
returns-clause-placed g c =
    let published = c.in-Ok.ensures.published in
    subst IsPlaced (sym published.3) (placed_published (plan_of c.args.publisher.now) c.args.slot c.args.chains.items published.2 c.requires.free.0 c.requires.placed)

pub returns-clause-seats : goal.returns-clause-seats
returns-clause-seats g c = c.in-Ok.ensures.sum (λ x. chain_seats x) c.requires.stands

pub returns-clause-weighs : goal.returns-clause-weighs
returns-clause-weighs g c w = c.in-Ok.ensures.sum (λ x. chain_weighs w x) c.requires.stands

pub returns-clause-published : goal.returns-clause-published
returns-clause-published g c =
    let p = plan_of c.args.publisher.now in
    let published = c.in-Ok.ensures.published in
    let is = published.3 in
    let whole = take_all p.workers c.args.chains.items (omega (arith, c.requires.chains)) in
    record {
      count = ap (λ (q : Plan _). count_of q) is ∙ length_push p.past.published c.args.slot;
      filled = ap (λ (q : Plan _). q.past.filled) is ∙ ap (λ (l : List _). p.past.filled ++ l ∷ []) whole;
      stands = λ f. c.in-Ok.ensures.sum f c.requires.stands;
      sweeps = ap (λ (q : Plan _). q.sweeps) is;
      drains = ap (λ (q : Plan _). q.drains) is;
      workers = ap (λ (q : Plan _). q.workers) is;
      joined = ap (λ (q : Plan _). q.joined) is;
    }

pub returns-clause-accounted : goal.returns-clause-accounted
returns-clause-accounted g c =
    let published = c.in-Ok.ensures.published in
    let p = plan_of c.args.publisher.now in
    subst AreAccounted (sym published.3) (published_accounts p c.args.slot published.2 c.args.chains.items c.requires.free.0 (free_phase (plan_slot p c.args.slot).phase c.requires.free.1) c.requires.accounted)
