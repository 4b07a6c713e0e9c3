use Rattle.std.proofs.Common.{◌≡◌, ℕ, length, rules, refl, subst, ◌∙◌}
use Rattle.std.specs.List.{All}
use Rattle.pin_table.specs.{plan_of}
use Rattle.reload_watch.specs.States.{source_data, watcher_state}
use Rattle.reload_watch.proofs.Watching.{looks_on, starts, watched_all}
use Rattle.reload_watch.proofs.Stocked.{keeps_both}
use Rattle.reload_watch.proofs.turns.watch.Goals as goal

pub loop-init : goal.loop-init
loop-init g c = record {
  can_next = search rules;
  finite = search rules;
  keeping = search rules;
  own = search rules;
  workers = refl;
  extras = record { judges = refl; weighs = λ _. refl };
  watched = let k = c.requires.keeping in starts (source_data c.args.source) (watcher_state g.W.PatternMaker.state c.args.watcher.now) k.are c.requires.first (k.count ∙ c.requires.first) k.current
      (subst (λ (n : ℕ). All (λ chains. length chains ≡ n) (plan_of c.args.watcher.now.publisher).past.filled) k.workers k.stands.full);
  goes = search rules;
}

pub loop-preserved : goal.loop-preserved
loop-preserved g c = record {
  can_next = search rules;
  finite = search rules;
  keeping = search rules;
  own = search rules;
  workers = c.in_default.ensures.workers ∙ c.loop.invariant.workers;
  extras = keeps_both c.loop.invariant.extras c.in_default.ensures.extras;
  watched = looks_on (source_data c.args.source) (watcher_state g.W.PatternMaker.state c.args.watcher.now) (watcher_state g.W.PatternMaker.state c.loop.watcher)
      (watcher_state g.W.PatternMaker.state c.take_look.new.watcher) c.loop.invariant.watched c.in_default.ensures.takes;
  goes = search rules;
}

pub returns-in-Some-take_look-clause-watches : goal.returns-in-Some-take_look-clause-watches
returns-in-Some-take_look-clause-watches g c =
    watched_all (source_data c.args.source) (watcher_state g.W.PatternMaker.state c.args.watcher.now) (watcher_state g.W.PatternMaker.state c.loop.watcher) (watcher_state g.W.PatternMaker.state c.take_look.new.watcher)
    c.in-Some-take_look.end c.loop.invariant.watched c.in-Some-take_look.ensures.takes
