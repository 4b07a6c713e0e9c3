use Rattle.pin_table.specs.{SamePass}
use Rattle.query_worker.specs.Pins.{IsResting}
use Rattle.query_worker.specs.States.{worker_state}
use Rattle.query_worker.proofs.Whole.{GoesOn}
use Rattle.query_worker.proofs.working.work.Given as goal

abbrev pub invariant-loop : goal.invariant-loop
invariant-loop g l = record {
  can_next : (goal.iterator-loop g).can_next l.iterator';
  finite : (goal.iterator-loop g).is_finite l.iterator';
  goes : GoesOn l.most (worker_state g.S.Side.state l.fn.worker) (worker_state g.S.Side.state l.worker);
  same : SamePass l.fn.worker.pass l.worker.pass;
  rests : IsResting l.table l.worker.pass;
}
