use Rattle.std.proofs.Common.{subst, rules}
use Rattle.outside.specs.Causes.{Rose}
use Rattle.pin_table.specs.{plan_of}
use Rattle.reload_watch.specs.Going.{CountsRefusals, WatchGoesOn}
use Rattle.reload_watch.specs.States.{source_data}
use Rattle.reload_watch.proofs.Looks.{swept_looks}
use Rattle.reload_watch.proofs.Stocked.{keeps_both}
use Rattle.reload_watch.proofs.look.look.Goals as goal

pub returns-clause-look : goal.returns-clause-look
returns-clause-look g c =
    let state = g.W.PatternMaker.state in
    let old = c.args.watcher.now in
    let mid = c.sweep.new.watcher in
    let new = c.look_on.new.watcher in
    let swept = c.sweep.ensures in
    let on = c.look_on.ensures.look in
    record {
      own = search rules;
      workers = search rules;
      looks = swept_looks state (source_data c.args.source) old mid new c.look_on.result swept.keeps.past swept.current swept.watch swept.workers on.looks;
      searches = λ _. record { mid = plan_of mid.publisher; swept = swept.swept.0; frees = swept.swept.1; searches = on.searches };
      extras = keeps_both swept.extras on.extras;
      sweeps = λ last serial left has. on.sweeps last serial left (swept.sweeps last serial left has);
      goes = subst (λ w. WatchGoesOn (state w) (state new.watch)) swept.watch on.goes;
      refusals = subst (λ w. CountsRefusals c.look_on.result (state w).refusals (state new.watch).refusals) swept.watch on.refusals;
      read = λ name is. subst (λ w. Rose (state w).counts.reads (state new.watch).counts.reads) swept.watch (on.read name is);
    }
