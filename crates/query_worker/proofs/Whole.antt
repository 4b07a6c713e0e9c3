-- How a worker goes on from turn to turn until its end.
use Rattle.std.proofs.Common.{◌≡◌, ◌<◌, ℕ, List, [], Option, Some, None, refl, sym, ap, subst, ◌∙◌}
use Rattle.outside.specs.declared.mark.Mark.{Mark}
use Rattle.outside.specs.Causes.{raised}
use Rattle.outside.specs.Marks.{Grows}
use Rattle.outside.specs.States.{SideState, Stays, left_once}
use Rattle.outside.specs.TakingLaws.{stays-nothing, stays-then}
use Rattle.pin_table.specs.declared.views.PassView.{PassView}
use Rattle.chain_build.specs.declared.chain.Chain.{Chain}
use Rattle.plugin_api.specs.declared.extra.Extra as extra
use Rattle.plugin_api.specs.declared.rulebook.Rulebook as rulebook
use Rattle.query_worker.specs.declared.turn.Turned.{Turned}
use Rattle.query_worker.specs.declared.turn.Turned.TheVariants as turned
use Rattle.query_worker.specs.declared.worker.Tally.{Tally}
use Rattle.run_meaning.specs.declared.work_end.WorkEnd.{WorkEnd}
use Rattle.query_worker.specs.States.{WorkerState}
use Rattle.query_worker.specs.Tally.{TurnEnds, IsIdle}
use Rattle.query_worker.specs.Worker.{AddsTurn, TakesTurn, WorksToEnd}
use Rattle.query_worker.proofs.Counting.{IsTallied, StandsAt, tallied_by, stands_by, tallied_first, failed_at, starved_at}
use Rattle.query_worker.proofs.Turns.{HasWorked, Stopped, starts, goes_on, stops}

-- the journal is the same once the side was told of the end
left_run : {P : List Mark → Type 0} {a c : SideState} → Grows a c P → Grows a (left_once c) P
left_run grows = record { marks = grows.marks; told = record { told = grows.told.told }; are = grows.are }

module _ {B E : Type 0} {bk : rulebook.Ghosts B} {ex : extra.Ghosts E} where
  -- a worker between two turns
  pub record GoesOn (most : ℕ) (start now : WorkerState (Chain B E bk ex)) : Type 0 where
    pub has : HasWorked start.side now.side now.pass now.tally
    pub is : IsTallied start.side.counts.recv now.side.counts.recv now.tally
    pub stands : StandsAt most now.tally None
    pub number : now.pass.worker ≡ start.pass.worker
    pub stays : Stays start.side now.side

  -- before its first turn
  pub first_turn : {most : ℕ} (start : WorkerState (Chain B E bk ex)) → IsIdle start.tally → start.pass.turns ≡ [] → start.pass.taken ≡ None → 0 < start.pass.seen → 0 < most → GoesOn most start start
  first_turn {most} start idle unused settled seen some =
      let first = tallied_first start.side.counts.recv most start.tally idle some in
      record { has = starts start.side start.pass start.tally idle unused settled seen; is = first.0; stands = first.1; number = refl; stays = stays-nothing start.side }

  -- a turn is of the same pass
  same_number : (what : Turned) (q r : PassView (Chain B E bk ex)) (marks : List Mark) → AddsTurn q r what marks → r.worker ≡ q.worker
  same_number (turned.Answered s) q r marks adds = ap (λ (x : PassView (Chain B E bk ex)). x.worker) adds.pass
  same_number (turned.Starved s) q r marks adds = ap (λ (x : PassView (Chain B E bk ex)). x.worker) adds.pass
  same_number turned.RecvFailed q r marks adds = ap (λ (x : PassView (Chain B E bk ex)). x.worker) adds.1
  same_number turned.RecvStarved q r marks adds = ap (λ (x : PassView (Chain B E bk ex)). x.worker) adds.1
  same_number turned.RecvEnd q r marks adds = ap (λ (x : PassView (Chain B E bk ex)). x.worker) adds.1

  -- what is counted behind a turn
  counted : {most : ℕ} {start before after : WorkerState (Chain B E bk ex)} {end : Option WorkEnd} → GoesOn most start before → TakesTurn most before after end
      → IsTallied start.side.counts.recv after.side.counts.recv after.tally × StandsAt most after.tally end
  counted {most} {start} {before} {after} {end} was takes =
      let ends = subst (λ (x : Tally). TurnEnds most takes.what x end) takes.tally takes.ends in (
        subst (IsTallied start.side.counts.recv after.side.counts.recv) (sym takes.tally)
            (tallied_by takes.what start.side.counts.recv before.side.counts.recv after.side.counts.recv before.tally was.is was.stands.1 takes.stays.later.recv takes.failed),
        subst (λ (x : Tally). StandsAt most x end) (sym takes.tally) (stands_by takes.what most before.tally end was.stands.0 ends),
      )

  -- a turn that isn't the last
  pub next_turn : {most : ℕ} {start before after : WorkerState (Chain B E bk ex)} → GoesOn most start before → TakesTurn most before after None → GoesOn most start after
  next_turn {most} {start} {before} {after} was takes =
      let ends = subst (λ (x : Tally). TurnEnds most takes.what x None) takes.tally takes.ends in
      let count = counted was takes in
      record {
        has = subst (HasWorked start.side after.side after.pass) (sym takes.tally) (goes_on most takes.what was.has takes.told ends);
        is = count.0;
        stands = count.1;
        number = same_number takes.what before.pass after.pass takes.told.marks takes.told.are ∙ was.number;
        stays = stays-then was.stays takes.stays;
      }

  -- the last turn, behind which the side is told
  pub last_turn : {most : ℕ} {start before after : WorkerState (Chain B E bk ex)} {side : SideState} {end : WorkEnd} → GoesOn most start before → TakesTurn most before after (Some end) → side ≡ left_once after.side
      → WorksToEnd most start (record after { side = side }) end
  last_turn {most} {start} {before} {after} {side} {end} was takes left =
      let ends = subst (λ (x : Tally). TurnEnds most takes.what x (Some end)) takes.tally takes.ends in
      let count = counted was takes in
      let stopped : Stopped most start.side after.side after.pass after.tally end =
      subst (λ (x : Tally). Stopped most start.side after.side after.pass x end) (sym takes.tally) (stops most takes.what end was.stands.0 was.has takes.told ends) in
      let stays = stays-then was.stays takes.stays in
      subst (λ (x : SideState). WorksToEnd most start (record after { side = x }) end) (sym left) (record {
        run = left_run stopped.run;
        counts = stopped.counts;
        settled = stopped.settled;
        number = same_number takes.what before.pass after.pass takes.told.marks takes.told.are ∙ was.number;
        failed = failed_at most start.side.counts.recv after.side.counts.recv after.tally end count.0 count.1;
        starved = starved_at most start.side.counts.recv after.side.counts.recv after.tally end count.0 count.1;
        later = stays.later;
        script = stays.script;
        left = ap raised stays.left;
      })
