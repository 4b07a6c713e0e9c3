-- What the workers, the watcher and the table tell together, once all have ended.
use Rattle.std.proofs.Common.{◌≡◌, ◌≤◌, ◌<◌, ℕ, zero, suc, ◌+◌, List, [], ◌∷◌, map, length, reverse, Some, None, slice_get, refl, sym, ap, subst, ◌∙◌, arith}
use Rattle.std.specs.List.{All, AllByRecursion, AllZip}
use Rattle.std.proofs.lemmas.List.Elements.{All-cons, All-head, All-nil, All-tail}
use Rattle.std.proofs.lemmas.Option.{none-some, same_Some}
use Rattle.atomic_table.specs.Seated.{TableId}
use Rattle.dns_data.specs.declared.limit.TheConstants as limits
use Rattle.one_history.specs.Calls.{Call}
use Rattle.one_history.specs.Join.{side_calls}
use Rattle.one_history.specs.Logs.{Place, calls_of}
use Rattle.outside.specs.declared.mark.Mark.{Mark}
use Rattle.outside.specs.Causes.{RoseBy, SideCounts, raised}
use Rattle.outside.specs.Hosts.{IsFreshSide}
use Rattle.outside.specs.Journals.{tells_since}
use Rattle.outside.specs.Marks.{Grows}
use Rattle.outside.specs.States.{SideState, WatchState}
use Rattle.corefile_blocks.specs.declared.bundle.Bundle.{Bundle}
use Rattle.chain_build.specs.declared.chain.Chain.{Chain}
use Rattle.plugin_api.specs.declared.extra.Extra as extra
use Rattle.plugin_api.specs.declared.rulebook.Rulebook as rulebook
use Rattle.chain_build.specs.{PlansData, chain_identity, chain_log, plans_of, ground_of}
use Rattle.chain_build.specs.HistoryPins.{ArePassesGrown, passes_with, pins_with}
use Rattle.chain_meaning.specs.{Ground}
use Rattle.plugin_api.specs.{Sayings, Takings}
use Rattle.pin_table.specs.declared.passes.Pass.{Pass}
use Rattle.pin_table.specs.declared.views.PassView.{PassView}
use Rattle.pin_table.specs.{AreGiven, Identity, Keeps, id_of, pass_of, views_of}
use Rattle.pin_table.specs.Known.{filled_at}
use Rattle.run_meaning.specs.declared.work_end.WorkEnd.{WorkEnd}
use Rattle.run_meaning.specs.declared.work_end.WorkEnd.TheVariants as ends
use Rattle.query_worker.specs.declared.worker.Worker.{Worker}
use Rattle.query_worker.specs.{AreOf, IsOfPass, IsPlacedPin, MakeCalls, PastPin, RunsUnder, calls_told, calls_under, grown_of, last_seen, lawful_of, make_calls, pinned_by, run_as}
use Rattle.query_worker.specs.{worked_of}
use Rattle.run_meaning.specs.Turn.{IsLawful, Turn}
use Rattle.reload_watch.specs.{AreFilledBy, Footing, footing_on, terms_of}
use Rattle.reload_watch.specs.Filled.{IsOf}
use Rattle.reload_watch.specs.GenerationsLaws.{IsPlacedTurn}
use Rattle.reload_watch.specs.Histories.{places_by}
use Rattle.dns_server.specs.declared.report.Done.{Done}
use Rattle.dns_server.specs.declared.roles.Role.{Role}
use Rattle.dns_server.specs.declared.roles.Role.TheVariants.{Work, Watch}
use Rattle.dns_server.specs.Each.{Each3}
use Rattle.dns_server.specs.Report.{RunsWith, TellEach, TellsRun}
use Rattle.dns_server.specs.Roles.{AreStarting, AreWorking, Becomes, IsPart, Task}
use Rattle.dns_server.specs.States.{RunSetup, SideRun, run_terms, side_run, side_runs}
use Rattle.dns_server.proofs.Holding.{IsSettled}

-- the passes from this number on, none of which holds a pin
abbrev pub IdleFrom : {C : Type 0} → TableId → ℕ → List (Pass C) → Type 0
IdleFrom {C} id number passes =
    (w : ℕ) (pass : Pass C) → slice_get passes w ≡ Some pass → (pass.seat.table_id ≡ id) × ((pass_of pass).worker ≡ number + w) × ((pass_of pass).held ≡ None)

none_idle : {C : Type 0} (id : TableId) (number : ℕ) → IdleFrom {C = C} id number []
none_idle id number w pass at = absurd (none-some pass at)

-- a run that is set to what this program brings
abbrev pub IsBy : Takings → Sayings → RunSetup → Type 0
IsBy taken said setup = setup.footing ≡ footing_on taken said setup.footing.basis

module _ {B E : Type 0} {bk : rulebook.Ghosts B} {ex : extra.Ghosts E} where
  -- a worker that has ended, by the side as it was opened, as it was handed back, and by its pass
  pub record IsDone (most : ℕ) (opened : SideState) (run : SideRun) (pass : PassView (Chain B E bk ex)) : Type 0 where
    pub told : Grows opened run.state (RunsUnder pass.turns most run.worked)
    pub seen : run.worked.seen + 1 ≤ pass.seen
    pub last : run.worked.seen ≡ last_seen (pinned_by pass)
    pub failed : run.worked.end ≡ ends.RecvFailed → RoseBy limits.FAILURES opened.counts.recv run.state.counts.recv
    pub starved : run.worked.end ≡ ends.NoMemory → 0 < run.worked.starved
    pub script : run.state.script ≡ opened.script
    pub left : run.state.left ≡ raised opened.left

  one_idle : (id : TableId) (number : ℕ) (pass : Pass (Chain B E bk ex)) (passes : List (Pass (Chain B E bk ex))) → pass.seat.table_id ≡ id → (pass_of pass).worker ≡ number → (pass_of pass).held ≡ None
      → IdleFrom id (number + 1) passes → IdleFrom id number (pass ∷ passes)
  one_idle id number pass passes own is held others zero other at =
      subst (λ (p : Pass (Chain B E bk ex)). (p.seat.table_id ≡ id) × ((pass_of p).worker ≡ number + 0) × ((pass_of p).held ≡ None)) (same_Some pass other at) (own, omega (arith, is), held)
  one_idle id number pass passes own is held others (suc w) other at =
      let that = others w other at in let n = that.1 in (that.0, omega (arith, n), that.2)

  abbrev Keeping : PassView (Chain B E bk ex) → Type 0
  Keeping q = Keeps chain_identity chain_log q.turns

  module _ {S W : Type 0} (side : S → SideState) (watch : W → WatchState) (task : Task (Chain B E bk ex)) where
    -- what workers leave together
    pub record Leave (number : ℕ) (sides : List S) (news : List (Role S W B E bk ex)) (dones : List (Done S)) (passes : List (Pass (Chain B E bk ex))) : Type 0 where
      pub idle : IdleFrom (id_of task.table) number passes
      pub kept : All (λ q. Keeps chain_identity chain_log q.turns) (views_of passes)
      pub settled : AllByRecursion IsSettled (views_of passes)
      pub done : Each3 (IsDone task.most) (map side sides) (side_runs side dones) (views_of passes)

    one_done : (number : ℕ) (opened : S) (old new : Worker S B E bk ex) (end : WorkEnd) (done : Done S) (pass : Pass (Chain B E bk ex))
        → old.side ≡ opened → Becomes {W = W} side watch task (Work old None) (Work new (Some end)) → IsPart {W = W} (Work new (Some end)) done pass
        → IsDone task.most (side opened) (side_run side done) (pass_of pass)
    one_done number opened old new end done pass same has part =
        let w = has.works in
        let run : SideRun = record { state = side new.side; worked = worked_of new.tally end } in
        let is : IsDone task.most (side opened) run (pass_of new.pass) = subst (λ (s : S). IsDone task.most (side s) run (pass_of new.pass)) same (record {
          told = w.run;
          seen = w.counts.within;
          last = w.counts.seen;
          failed = w.failed;
          starved = w.starved;
          script = w.script;
          left = w.left;
        }) in
        subst (λ (x : SideRun × Pass (Chain B E bk ex)). IsDone task.most (side opened) x.0 (pass_of x.1)) (λ i. (ap (side_run side) (sym part.1) i, sym part.0 i)) is

    pub leave : (number : ℕ) (sides : List S) (olds news : List (Role S W B E bk ex)) (dones : List (Done S)) (passes : List (Pass (Chain B E bk ex))) → AreStarting task.table number sides olds
        → AllZip (Becomes side watch task) olds news → Each3 IsPart news dones passes → Leave number sides news dones passes
    leave number [] [] [] [] [] are zip part = record { idle = none_idle (id_of task.table) number; kept = All-nil Keeping; settled = tt; done = tt }
    leave number [] [] [] [] (pass ∷ passes) are zip part = absurd part
    leave number [] [] [] (done ∷ dones) passes are zip part = absurd part
    leave number [] [] (new ∷ news) dones passes are zip part = absurd zip
    leave number [] (old ∷ olds) news dones passes are zip part = absurd are
    leave number (s ∷ sides) [] news dones passes are zip part = absurd are
    leave number (s ∷ sides) (Watch old ∷ olds) news dones passes are zip part = absurd are
    leave number (s ∷ sides) (Work old before ∷ olds) [] dones passes are zip part = absurd zip
    leave number (s ∷ sides) (Work old before ∷ olds) (new ∷ news) [] passes are zip part = absurd part
    leave number (s ∷ sides) (Work old before ∷ olds) (new ∷ news) (done ∷ dones) [] are zip part = absurd part
    leave number (s ∷ sides) (Work old before ∷ olds) (Watch new ∷ news) (done ∷ dones) (pass ∷ passes) are zip part = absurd zip.0
    leave number (s ∷ sides) (Work old before ∷ olds) (Work new None ∷ news) (done ∷ dones) (pass ∷ passes) are zip part = absurd zip.0
    leave number (s ∷ sides) (Work old before ∷ olds) (Work new (Some end) ∷ news) (done ∷ dones) (pass ∷ passes) are zip part =
        let others = leave (number + 1) sides olds news dones passes are.1 zip.1 part.1 in
        let has = zip.0 in
        let back = sym part.0.0 in
        let worker : (pass_of new.pass).worker ≡ number = has.works.number ∙ ap (λ (q : PassView (Chain B E bk ex)). q.worker) are.0.pass_is in
        let here = subst (λ (p : Pass (Chain B E bk ex)). (p.seat.table_id ≡ id_of task.table) × ((pass_of p).worker ≡ number) × ((pass_of p).held ≡ None) × Keeps chain_identity chain_log (pass_of p).turns × ((pass_of p).taken ≡ None)) back
        (has.rests.own, worker, has.rests.idle, has.rests.kept, has.works.settled) in
        record {
          idle = one_idle (id_of task.table) number pass passes here.0 here.1 here.2 others.idle;
          kept = All-cons Keeping (pass_of pass) (views_of passes) here.3 others.kept;
          settled = ((here.2, here.4), others.settled);
          done = (one_done number s old new end done pass are.0.side_is has part.0, others.done);
        }

    -- the workers have all ended so
    pub all_worked : (number : ℕ) (sides : List S) (olds news : List (Role S W B E bk ex)) → AreStarting task.table number sides olds → AllZip (Becomes side watch task) olds news → AreWorking news
    all_worked number [] [] [] are zip = tt
    all_worked number [] [] (new ∷ news) are zip = absurd zip
    all_worked number [] (old ∷ olds) news are zip = absurd are
    all_worked number (s ∷ sides) [] news are zip = absurd are
    all_worked number (s ∷ sides) (Watch old ∷ olds) news are zip = absurd are
    all_worked number (s ∷ sides) (Work old before ∷ olds) [] are zip = absurd zip
    all_worked number (s ∷ sides) (Work old before ∷ olds) (Watch new ∷ news) are zip = absurd zip.0
    all_worked number (s ∷ sides) (Work old before ∷ olds) (Work new None ∷ news) are zip = absurd zip.0
    all_worked number (s ∷ sides) (Work old before ∷ olds) (Work new (Some end) ∷ news) are zip = (tt, all_worked (number + 1) sides olds news are.1 zip.1)

  -- a chain that was filled serves by the bundle of its serial
  filled_is : (bundles : List Bundle) (basis : Ground) (filled : List (List (Chain B E bk ex))) (serial worker : ℕ) (chain : (Chain B E bk ex)) → AreFilledBy bundles basis filled → filled_at filled serial worker ≡ Some chain
      → (slice_get bundles serial ≡ Some (plans_of chain).bundle) × (ground_of (plans_of chain) ≡ basis)
  filled_is [] basis [] serial worker chain are at = absurd (none-some chain at)
  filled_is [] basis (chains ∷ filled) serial worker chain are at = absurd are
  filled_is (bundle ∷ bundles) basis [] serial worker chain are at = absurd are
  filled_is (bundle ∷ bundles) basis (chains ∷ filled) zero worker chain are at =
      let is = of_all chains worker chain are.0 at in
      (ap (λ (b : Bundle). Some b) (sym is.bundle_is), is.ground_is)
    where
      of_all : (cs : List (Chain B E bk ex)) (k : ℕ) (c : (Chain B E bk ex)) → All (IsOf bundle basis) cs → slice_get cs k ≡ Some c → IsOf bundle basis c
      of_all [] k c all at = absurd (none-some c at)
      of_all (x ∷ cs) zero c all at = subst (IsOf bundle basis) (same_Some x c at) (All-head (IsOf bundle basis) x cs all)
      of_all (x ∷ cs) (suc k) c all at = of_all cs k c (All-tail (IsOf bundle basis) x cs all) at
  filled_is (bundle ∷ bundles) basis (chains ∷ filled) (suc serial) worker chain are at = filled_is bundles basis filled serial worker chain are.1 at

  -- the pins of a pass gave chains that serve by published bundles
  pub given_of : (bundles : List Bundle) (basis : Ground) (filled : List (List (Chain B E bk ex))) (worker : ℕ) (pins : List (PastPin (Chain B E bk ex))) → AreFilledBy bundles basis filled → AreGiven chain_identity chain_log filled worker pins
      → AreOf bundles basis pins
  given_of bundles basis filled worker [] are given = tt
  given_of bundles basis filled worker (pin ∷ pins) are given =
      let first = given.0.first in
      let is = filled_is bundles basis filled pin.serial worker first.0 are first.1 in
      let same : plans_of pin.given ≡ plans_of first.0 = ap (λ (i : Identity PlansData). i.kind) first.2 in
      (subst (λ (p : PlansData). (slice_get bundles pin.serial ≡ Some p.bundle) × (ground_of p ≡ basis)) (sym same) is, given_of bundles basis filled worker pins are given.1)

  -- and the logs of these stand at the places of their serials
  pub placed_of : (generations : List PlansData) (pins : List (PastPin (Chain B E bk ex))) → AllByRecursion (IsPlacedTurn generations) pins → AllByRecursion (IsPlacedPin (places_by generations)) pins
  placed_of generations [] are = tt
  placed_of generations (pin ∷ pins) are = (record { serial_is = are.0.serial_is; places_are = are.0.places_are }, placed_of generations pins are.1)

  -- a turn under pins of published bundles is lawful in such a run
  lawful_by : (setup : RunSetup) → IsBy bk.taken bk.said setup → (bundles : List Bundle) (pins : List (PastPin (Chain B E bk ex))) → AreOf bundles setup.footing.basis pins
      → (turn : Turn) → IsOfPass pins turn → IsLawful bundles (run_terms setup) turn
  lawful_by setup by bundles pins are turn is = subst (λ (f : Footing). IsLawful bundles (terms_of f) turn) (sym by) (lawful_of bundles setup.footing.basis pins are turn is)

  -- the calls of each pin of a worker that has ended, the last one first
  abbrev pub done_calls : (most : ℕ) (opened : SideState) (run : SideRun) (pass : PassView (Chain B E bk ex)) → IsDone most opened run pass → List (List (Call Mark))
  done_calls most opened run pass done = reverse (calls_under (reverse pass.turns) done.told.are.run.turns done.told.are.under)

  -- a worker that has ended tells a run by the published bundles
  tells : (setup : RunSetup) → IsBy bk.taken bk.said setup → (places : ℕ → List Place) (bundles : List Bundle) (opened : SideState) (run : SideRun) (pass : PassView (Chain B E bk ex)) → IsFreshSide opened → (done : IsDone setup.most opened run pass)
      → AreOf bundles setup.footing.basis pass.turns → pass.seen ≤ length bundles → AllByRecursion (IsPlacedPin places) pass.turns → TellsRun setup bundles (pinned_by pass) (calls_of (pins_with chain_log pass.turns (done_calls setup.most opened run pass done))) run
  tells setup by places bundles opened run pass fresh done are seen placed =
      let none : opened.counts.recv ≡ 0 = ap (λ (c : SideCounts). c.recv) fresh.no_fault in
      let turns = done.told.are.run.turns in
      let under = done.told.are.under in
      record {
        run = tells_since opened run.state (RunsWith setup bundles (pinned_by pass) (calls_of (pins_with chain_log pass.turns (done_calls setup.most opened run pass done))) run.worked) fresh (record {
          marks = done.told.marks;
          told = done.told.told;
          are = record {
            run = run_as (IsOfPass pass.turns) (IsLawful bundles (run_terms setup)) (lawful_by setup by bundles pass.turns are) done.told.are.run;
            each = calls_under (reverse pass.turns) turns under;
            made = subst (λ (f : Footing). MakeCalls bundles (terms_of f) turns (calls_under (reverse pass.turns) turns under)) (sym by) (make_calls bundles setup.footing.basis places pass.turns turns under are placed);
            calls_are = calls_told places pass.turns turns under placed;
          };
        });
        at_most = done.told.are.run.at_most;
        seen = let s = done.seen in omega (arith, s, seen);
        last = done.last;
        failed = λ e. subst (λ (n : ℕ). RoseBy limits.FAILURES n run.state.counts.recv) none (done.failed e);
        starved = done.starved;
        left = done.left ∙ ap raised fresh.here;
      }

  -- those of all workers, by side
  abbrev pub all_calls : (most : ℕ) (opened : List SideState) (runs : List SideRun) (passes : List (PassView (Chain B E bk ex))) → Each3 (IsDone most) opened runs passes → List (List (List (Call Mark)))
  all_calls most [] [] [] done = []
  all_calls most [] [] (q ∷ passes) done = absurd done
  all_calls most [] (run ∷ runs) passes done = absurd done
  all_calls most (o ∷ opened) [] passes done = absurd done
  all_calls most (o ∷ opened) (run ∷ runs) [] done = absurd done
  all_calls most (o ∷ opened) (run ∷ runs) (q ∷ passes) done = done_calls most o run q done.0 ∷ all_calls most opened runs passes done.1

  -- the logs of their chains have grown by these
  pub all_grown : (most : ℕ) (places : ℕ → List Place) (opened : List SideState) (runs : List SideRun) (passes : List (PassView (Chain B E bk ex))) → (done : Each3 (IsDone most) opened runs passes)
      → ((w : ℕ) (q : PassView (Chain B E bk ex)) → slice_get passes w ≡ Some q → AllByRecursion (IsPlacedPin places) q.turns) → ArePassesGrown chain_log places passes (all_calls most opened runs passes done)
  all_grown most places [] [] [] done placed = tt
  all_grown most places [] [] (q ∷ passes) done placed = absurd done
  all_grown most places [] (run ∷ runs) passes done placed = absurd done
  all_grown most places (o ∷ opened) [] passes done placed = absurd done
  all_grown most places (o ∷ opened) (run ∷ runs) [] done placed = absurd done
  all_grown most places (o ∷ opened) (run ∷ runs) (q ∷ passes) done placed =
      (grown_of places q.turns done.0.told.are.run.turns done.0.told.are.under (placed 0 q refl), all_grown most places opened runs passes done.1 (λ w p at. placed (suc w) p at))

  pub all_tell : (setup : RunSetup) → IsBy bk.taken bk.said setup → (places : ℕ → List Place) (bundles : List Bundle) (filled : List (List (Chain B E bk ex))) (number : ℕ) (opened : List SideState) (runs : List SideRun) (passes : List (PassView (Chain B E bk ex)))
      → AllByRecursion IsFreshSide opened → (done : Each3 (IsDone setup.most) opened runs passes) → AreFilledBy bundles setup.footing.basis filled
      → ((w : ℕ) (q : PassView (Chain B E bk ex)) → slice_get passes w ≡ Some q → AreGiven chain_identity chain_log filled (number + w) q.turns × (q.seen ≤ length bundles) × AllByRecursion (IsPlacedPin places) q.turns)
      → TellEach setup bundles (map (λ q. pinned_by q) passes) (side_calls (passes_with chain_log passes (all_calls setup.most opened runs passes done))) runs
  all_tell setup by places bundles filled number [] [] [] fresh done are given = tt
  all_tell setup by places bundles filled number [] [] (q ∷ passes) fresh done are given = absurd done
  all_tell setup by places bundles filled number [] (run ∷ runs) passes fresh done are given = absurd done
  all_tell setup by places bundles filled number (o ∷ opened) [] passes fresh done are given = absurd done
  all_tell setup by places bundles filled number (o ∷ opened) (run ∷ runs) [] fresh done are given = absurd done
  all_tell setup by places bundles filled number (o ∷ opened) (run ∷ runs) (q ∷ passes) fresh done are given =
      let here = given 0 q refl in (
        tells setup by places bundles o run q fresh.0 done.0 (given_of bundles setup.footing.basis filled (number + 0) q.turns are here.0) here.1 here.2,
        all_tell setup by places bundles filled (number + 1) opened runs passes fresh.1 done.1 are
            (λ w p at. let that = given (suc w) p at in (subst (λ (n : ℕ). AreGiven chain_identity chain_log filled n p.turns) (omega arith) that.0, that.1, that.2)),
      )

  pub scripts_are : (most : ℕ) (opened : List SideState) (runs : List SideRun) (passes : List (PassView (Chain B E bk ex))) → Each3 (IsDone most) opened runs passes
      → map (λ (r : SideRun). r.state.script) runs ≡ map (λ (s : SideState). s.script) opened
  scripts_are most [] [] [] done = refl
  scripts_are most [] [] (q ∷ passes) done = absurd done
  scripts_are most [] (run ∷ runs) passes done = absurd done
  scripts_are most (o ∷ opened) [] passes done = absurd done
  scripts_are most (o ∷ opened) (run ∷ runs) [] done = absurd done
  scripts_are most (o ∷ opened) (run ∷ runs) (q ∷ passes) done = λ i. done.0.script i ∷ scripts_are most opened runs passes done.1 i
