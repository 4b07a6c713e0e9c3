use Rattle.std.proofs.Common.{◌≡◌, ◌+◌, true, length}
use Rattle.rewrite_plugin.specs.Rewrite.{changed_behind}
use Rattle.rewrite_plugin.specs.Rules.{searched, unchanged}
use Rattle.rewrite_plugin.proofs.changing.change.Given as goal

abbrev pub invariant-loop-plan : goal.invariant-loop-plan
invariant-loop-plan l = record {
  size : l.number + length l.rest ≡ length l.plans;
  text : l.is_fresh ≡ true → l.room.text ≡ searched l.changed.query.name;
  on : changed_behind l.number l.rest l.changed ≡ changed_behind 0 l.plans (unchanged l.query);
}

abbrev pub decreases-loop-plan : goal.decreases-loop-plan
decreases-loop-plan l = length l.rest
