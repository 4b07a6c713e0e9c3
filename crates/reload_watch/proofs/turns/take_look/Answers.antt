use Rattle.run_meaning.specs.declared.looking.Looking.TheVariants as looking
use Rattle.std.proofs.Common.{◌≡◌, ◌≢◌, ℕ, length, subst, rules}
use Rattle.std.specs.List.{All}
use Rattle.extra_stock.specs.{is_named}
use Rattle.pin_table.specs.{plan_of}
use Rattle.reload_watch.specs.Going.{CountsRefusals}
use Rattle.reload_watch.specs.Shortage.{found_in}
use Rattle.reload_watch.proofs.Counting.{counted_by}
use Rattle.reload_watch.proofs.Sweeping.{swept_by}
use Rattle.reload_watch.proofs.turns.take_look.Goals as goal

pub returns-in-Look-clause-takes : goal.returns-in-Look-clause-takes
returns-in-Look-clause-takes g c =
    let made : c.look_once.result ≢ looking.NoReload = search rules in
    let searches = c.look_once.ensures.look.searches made in
    record {
      waited = g.W.PatternMaker.state c.look.new.self;
      looked = search rules;
      answer = c.look_once.result;
      found = found_in c.args.watcher.now c.look_once.new.watcher;
      looks = c.look_once.ensures.look.looks;
      made = made;
      starved_is = search rules;
      swept = swept_by (plan_of c.args.watcher.now.publisher) (plan_of c.look_once.new.watcher.publisher) c.look_once.result c.requires.keeping.placed searches;
      sweeps = c.look_once.ensures.look.sweeps;
      counts = counted_by _ c.look_once.new.watcher c.look_once.result c.requires.keeping.placed c.requires.keeping.count searches c.look_once.ensures.look.extras;
      workers = c.look_once.ensures.look.workers;
      extras = λ name. c.look_once.ensures.look.extras.weighs (is_named name);
      full =
          let k = c.look_once.ensures.keeping in
          subst (λ (n : ℕ). All (λ chains. length chains ≡ n) (plan_of c.look_once.new.watcher.publisher).past.filled) k.workers k.stands.full;
      refused = subst (λ (n : ℕ). CountsRefusals c.look_once.result n (g.W.PatternMaker.state c.look_once.new.watcher.watch).refusals) c.look.ensures.counts.stays.refusals c.look_once.ensures.look.refusals;
    }
