use Rattle.std.proofs.Common.{◌≡◌}
use Rattle.pin_table.specs.{SamePublisher}
use Rattle.reload_watch.specs.Going.{WatchGoesOn}
use Rattle.reload_watch.specs.Keeping.{IsKeeping}
use Rattle.reload_watch.specs.Stocked.{KeepsStock}
use Rattle.reload_watch.specs.States.{source_data, watcher_state}
use Rattle.reload_watch.proofs.Watching.{Watched}
use Rattle.reload_watch.proofs.turns.watch.Given as goal

abbrev pub invariant-loop : goal.invariant-loop
invariant-loop g l = record {
  can_next : (goal.iterator-loop g).can_next l.iterator';
  finite : (goal.iterator-loop g).is_finite l.iterator';
  keeping : IsKeeping l.table l.watcher;
  own : SamePublisher l.fn.watcher.publisher l.watcher.publisher;
  workers : l.watcher.workers ≡ l.fn.watcher.workers;
  watched : Watched (source_data l.source) (watcher_state g.W.PatternMaker.state l.fn.watcher) (watcher_state g.W.PatternMaker.state l.watcher);
  extras : KeepsStock l.fn.watcher l.watcher;
  goes : WatchGoesOn (g.W.PatternMaker.state l.fn.watcher.watch) (g.W.PatternMaker.state l.watcher.watch);
}
