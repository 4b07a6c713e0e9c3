use Rattle.std.proofs.Common.{rules}
use Rattle.query_worker.specs.States.{worker_state}
use Rattle.query_worker.proofs.Whole.{first_turn, next_turn, last_turn}
use Rattle.query_worker.proofs.working.work.Goals as goal

pub loop-init : goal.loop-init
loop-init g c = record {
  can_next = search rules;
  finite = search rules;
  goes = first_turn (worker_state g.S.Side.state c.args.worker.now) c.requires.ready.idle c.requires.ready.unused c.requires.ready.settled c.requires.ready.published c.requires.most.0;
  same = search rules;
  rests = search rules;
}

pub loop-preserved : goal.loop-preserved
loop-preserved g c = record {
  can_next = search rules;
  finite = search rules;
  goes = next_turn c.loop.invariant.goes c.in_default.ensures.takes;
  same = search rules;
  rests = search rules;
}

pub returns-in-Some-work_once-clause-works : goal.returns-in-Some-work_once-clause-works
returns-in-Some-work_once-clause-works g c =
    last_turn c.loop.invariant.goes c.in-Some-work_once.ensures.takes c.leave.ensures
