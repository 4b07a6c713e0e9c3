-- A worker's run is a walk along its journal to its end.
use Rattle.std.proofs.Common.{◌≡◌, ◌≤◌, ◌<◌, ◌+◌, ◌-◌, ℕ, List, [], ◌∷◌, ◌++◌, refl, sym}
use Rattle.std.proofs.Common.{ap}
use Rattle.std.proofs.Common.{subst, ◌∙◌, inl, inr, arith, append_assoc, append-nil}
use Rattle.std.specs.Prelude.{◌⊎◌, Err, Ok, Result}
use Rattle.std.specs.List.{AllByRecursion, flat_map}
use Rattle.dns_data.specs.declared.limit.TheConstants as limits
use Rattle.outside.specs.declared.mark.Mark.{Mark}
use Rattle.outside.specs.declared.mark.Mark.TheVariants.{RecvEnd}
use Rattle.run_meaning.specs.declared.work_end.WorkEnd.{WorkEnd}
use Rattle.run_meaning.specs.declared.work_end.WorkEnd.TheVariants as ends
use Rattle.run_meaning.specs.Turn.{NeverFall, Turn, datagrams, failed, marks_of, replied, serials}
use Rattle.run_meaning.specs.Turn.{silenced, starved, total, unread}
use Rattle.run_meaning.specs.Workers.{Ending, EndsInLongRow, HasNoLongRow, NoneBehind, Worked}
use Rattle.run_meaning.specs.Workers.{WorkerRun, last_row, last_unread}
use Rattle.audit_run.specs.declared.walk.Walk.{Walk}
use Rattle.audit_run.specs.declared.walk.SideFault.{SideFault}
use Rattle.audit_run.specs.declared.walk.SideFault.TheVariants as fault
use Rattle.audit_run.specs.Walking.{JudgesSide, start}
use Rattle.audit_run.specs.Walks.{FailsAt, Finishes, IsStep, MayEnd, Meanings, after, row_limit}
use Rattle.audit_run.specs.WorkerRuns.{IsWorkers, TellsWorker, lawful_by}
use Rattle.audit_run.proofs.Walked.{failed_in}
use Rattle.audit_run.proofs.Worked.{is_workers}

marks_then : (xs ys : List Turn)
    → flat_map marks_of (xs ++ ys) ≡ flat_map marks_of xs ++ flat_map marks_of ys
marks_then [] ys = refl
marks_then (x ∷ xs) ys =
    ap (λ l. marks_of x ++ l) (marks_then xs ys)
    ∙ sym (append_assoc (marks_of x) (flat_map marks_of xs) (flat_map marks_of ys))

row_then : (row : ℕ) (xs ys : List Turn) → last_row row (xs ++ ys) ≡ last_row (last_row row xs) ys
row_then row [] ys = refl
row_then row (failed ∷ xs) ys = row_then (row + 1) xs ys
row_then row (unread ∷ xs) ys = row_then (row + 1) xs ys
row_then row (replied serial d m reply out ∷ xs) ys = row_then 0 xs ys
row_then row (silenced serial d m why ∷ xs) ys = row_then 0 xs ys
row_then row (starved serial d m ∷ xs) ys = row_then 0 xs ys

met_then : (met : ℕ) (xs ys : List Turn)
    → last_unread met (xs ++ ys) ≡ last_unread (last_unread met xs) ys
met_then met [] ys = refl
met_then met (failed ∷ xs) ys = met_then met xs ys
met_then met (unread ∷ xs) ys = met_then (met + 1) xs ys
met_then met (replied serial d m reply out ∷ xs) ys = met_then 0 xs ys
met_then met (silenced serial d m why ∷ xs) ys = met_then 0 xs ys
met_then met (starved serial d m ∷ xs) ys = met_then 0 xs ys

row_short : (row : ℕ) (turns : List Turn) → row < limits.FAILURES → HasNoLongRow row turns
    → last_row row turns < limits.FAILURES
row_short row [] low short = low
row_short row (failed ∷ turns) low short = row_short (row + 1) turns short.0 short.1
row_short row (unread ∷ turns) low short = row_short (row + 1) turns short.0 short.1
row_short row (replied serial d m reply out ∷ turns) low short =
    row_short 0 turns (omega arith) short
row_short row (silenced serial d m why ∷ turns) low short = row_short 0 turns (omega arith) short
row_short row (starved serial d m ∷ turns) low short = row_short 0 turns (omega arith) short

none_front : (most t : ℕ) (xs ys : List Turn) → NoneBehind most t (xs ++ ys)
    → NoneBehind most t xs × NoneBehind most (t + total datagrams xs) ys
none_front most t [] ys none =
    (tt, subst (λ n. NoneBehind most n ys) (let e : t ≡ t + 0 = omega arith in e) none)
none_front most t (x ∷ xs) ys none =
    let rest = none_front most (t + datagrams x) xs ys none.1 in (
      (none.0, rest.0),
      subst (λ n. NoneBehind most n ys)
          (let e : t + datagrams x + total datagrams xs ≡ t + (datagrams x + total datagrams xs) =
          omega arith in e) rest.1,
    )

all_front : (P : Turn → Type 0) (xs ys : List Turn) → AllByRecursion P (xs ++ ys)
    → AllByRecursion P xs
all_front P [] ys all = tt
all_front P (x ∷ xs) ys all = (all.0, all_front P xs ys all.1)

order_front : (from : ℕ) (xs ys : List ℕ) → NeverFall from (xs ++ ys) → NeverFall from xs
order_front from [] ys order = tt
order_front from (x ∷ xs) ys order = (order.0, order_front x xs ys order.1)

serials_then : (xs ys : List Turn)
    → flat_map serials (xs ++ ys) ≡ flat_map serials xs ++ flat_map serials ys
serials_then [] ys = refl
serials_then (x ∷ xs) ys =
    ap (λ l. serials x ++ l) (serials_then xs ys)
    ∙ sym (append_assoc (serials x) (flat_map serials xs) (flat_map serials ys))

module _ (serves : Meanings) (most : ℕ) (end : WorkEnd)
    (limit : limits.FAILURES - 1 ≤ row_limit end) where
  abbrev Ends : Walk → List Mark → Type 0
  Ends w marks = MayEnd serves most end w marks

  turn_front : (w : Walk) (turn : Turn) (l marks : List Mark) → IsStep serves most end w turn
      → Ends (after w turn) (l ++ marks) → Ends w ((marks_of turn ++ l) ++ marks)
  turn_front w turn l marks step goes = (
    turn ∷ goes.0,
    (step, l ++ marks, append_assoc (marks_of turn) l marks, goes.1),
  )

  -- turns of a run in front of others, with the receives of the last row that met want of memory
  runs_then : (turns : List Turn) (w : Walk) (met : ℕ) → w.row + met < limits.FAILURES
      → HasNoLongRow (w.row + met) turns → AllByRecursion (lawful_by serves) turns
      → NeverFall w.last (flat_map serials turns) → NoneBehind most w.taken turns
      → (marks : List Mark)
      → ((v : Walk) → v.taken ≡ w.taken + total datagrams turns
      → v.row + last_unread met turns ≡ last_row (w.row + met) turns → Ends v marks)
      → Ends w (flat_map marks_of turns ++ marks)
  runs_then [] w met low short lawful order none marks then =
      then w (omega arith) refl
  runs_then (failed ∷ turns) w met low short lawful order none marks then =
      let same : w.row + met + 1 ≡ w.row + 1 + met = omega arith in
      let next : w.row + met + 1 < limits.FAILURES = short.0 in
      failed_in serves most end w (flat_map marks_of turns ++ marks) none.0 (omega (arith, low))
      (omega (arith, next, limit))
      (runs_then turns (after w failed) met (omega (arith, next))
      (subst (λ n. HasNoLongRow n turns) same short.1) lawful.1 order
      (subst (λ n. NoneBehind most n turns)
      (let e : w.taken + 0 ≡ w.taken = omega arith in e) none.1)
      marks
      (λ v taken row. then v (omega (arith, taken))
      (row ∙ ap (λ n. last_row n turns) (sym same))))
  runs_then (unread ∷ turns) w met low short lawful order none marks then =
      let same : w.row + met + 1 ≡ w.row + (met + 1) = omega arith in
      let next : w.row + met + 1 < limits.FAILURES = short.0 in
      runs_then turns w (met + 1) (omega (arith, next))
      (subst (λ n. HasNoLongRow n turns) same short.1) lawful.1 order
      (subst (λ n. NoneBehind most n turns)
      (let e : w.taken + 0 ≡ w.taken = omega arith in e) none.1)
      marks
      (λ v taken row. then v (omega (arith, taken))
      (row ∙ ap (λ n. last_row n turns) (sym same)))
  runs_then (replied serial d m reply out ∷ turns) w met low short lawful order none marks then =
      turn_front w (replied serial d m reply out) (flat_map marks_of turns) marks
      (record { more = none.0; few = omega (arith, low); is = (order.0, lawful.0) })
      (runs_then turns (after w (replied serial d m reply out)) 0 (omega arith) short lawful.1
      order.1 none.1 marks (λ v taken row. then v (omega (arith, taken)) row))
  runs_then (silenced serial d m why ∷ turns) w met low short lawful order none marks then =
      turn_front w (silenced serial d m why) (flat_map marks_of turns) marks
      (record { more = none.0; few = omega (arith, low); is = (order.0, lawful.0) })
      (runs_then turns (after w (silenced serial d m why)) 0 (omega arith) short lawful.1
      order.1 none.1 marks (λ v taken row. then v (omega (arith, taken)) row))
  runs_then (starved serial d m ∷ turns) w met low short lawful order none marks then =
      turn_front w (starved serial d m) (flat_map marks_of turns) marks
      (record { more = none.0; few = omega (arith, low); is = (order.0, lawful.0) })
      (runs_then turns (after w (starved serial d m)) 0 (omega arith) short lawful.1
      order.1 none.1 marks (λ v taken row. then v (omega (arith, taken)) row))

-- the side's end, or the last datagram
end_back : (serves : Meanings) (most : ℕ) (pinned : List ℕ) (worked : Worked)
    (journal : List Mark) → (run : WorkerRun (lawful_by serves) most pinned worked journal)
    → Ending most worked run.turns ends.End run.ending → MayEnd serves most ends.End start journal
end_back serves most pinned worked journal run ending =
    subst (λ l. MayEnd serves most ends.End start l) (sym run.told)
    (runs_then serves most ends.End (omega arith) run.turns start 0 (omega arith) ending.0
    run.are.lawful_are run.are.in_order run.none_behind run.ending
    (λ v taken row. ([], ends_so v taken row)))
  where
    ends_so : (v : Walk) → v.taken ≡ 0 + total datagrams run.turns
        → v.row + last_unread 0 run.turns ≡ last_row 0 run.turns
        → Finishes serves most ends.End ends.End v run.ending
    ends_so v taken row =
        let low = row_short 0 run.turns (omega arith) ending.0 in
        let all = run.are.datagrams_are in (
          omega (arith, low, row),
          by ending.1,
        )
      where
        by : ((run.ending ≡ RecvEnd ∷ []) × (worked.taken < most))
            ⊎ ((run.ending ≡ []) × (worked.taken ≡ most))
            → ((run.ending ≡ RecvEnd ∷ []) × (v.taken < most))
            ⊎ ((run.ending ≡ []) × (v.taken ≡ most))
        by (inl h) = inl (
          h.0,
          (let few = h.1 in let all = run.are.datagrams_are in
              omega (arith, few, taken, all)),
        )
        by (inr h) = inr (
          h.0,
          (let few = h.1 in let all = run.are.datagrams_are in
              omega (arith, few, taken, all)),
        )

-- a row that ended a worker
module _ (serves : Meanings) (most : ℕ) (end : WorkEnd)
    (limit : limits.FAILURES - 1 ≤ row_limit end) (P : ℕ → Type 0)
    (finish : (last : Turn) (v : Walk) (met : ℕ) → v.taken < most
    → v.row + met ≡ limits.FAILURES - 1
    → last_row (limits.FAILURES - 1) (last ∷ []) ≡ limits.FAILURES
    → P (last_unread met (last ∷ [])) → MayEnd serves most end v (marks_of last ++ []))
  where
    no_datagram : (last : Turn) (row : ℕ) → last_row row (last ∷ []) ≡ limits.FAILURES
        → (row ≡ limits.FAILURES - 1)
        × (last_row (limits.FAILURES - 1) (last ∷ []) ≡ limits.FAILURES)
    no_datagram failed row e = (omega (arith, e), refl)
    no_datagram unread row e = (omega (arith, e), refl)
    no_datagram (replied serial d m reply out) row e = absurd (omega (arith, e))
    no_datagram (silenced serial d m why) row e = absurd (omega (arith, e))
    no_datagram (starved serial d m) row e = absurd (omega (arith, e))

    row_back : (pinned : List ℕ) (worked : Worked) (journal : List Mark)
        → (run : WorkerRun (lawful_by serves) most pinned worked journal)
        → EndsInLongRow P run.turns × (run.ending ≡ []) → MayEnd serves most end start journal
    row_back pinned worked journal run h =
        let long = h.0 in
        let before = long.before in
        let one = long.last ∷ [] in
        let split = long.turns_are in
        let lawful = all_front (lawful_by serves) before one
        (subst (λ l. AllByRecursion (lawful_by serves) l) split run.are.lawful_are) in
        let order = order_front 0 (flat_map serials before) (flat_map serials one)
        (subst (λ l. NeverFall 0 l) (ap (flat_map serials) split ∙ serials_then before one)
        run.are.in_order) in
        let none = none_front most 0 before one
        (subst (λ l. NoneBehind most 0 l) split run.none_behind) in
        let row = no_datagram long.last (last_row 0 before)
        (sym (row_then 0 before one) ∙ ap (last_row 0) (sym split) ∙ long.row) in
        let met = subst P (ap (last_unread 0) split ∙ met_then 0 before one) long.met in
        let told : journal ≡ flat_map marks_of before ++ (marks_of long.last ++ []) =
        run.told ∙ ap (λ l. flat_map marks_of run.turns ++ l) h.1
        ∙ append-nil (flat_map marks_of run.turns) ∙ ap (flat_map marks_of) split
        ∙ marks_then before one in
        subst (λ l. MayEnd serves most end start l) (sym told)
        (runs_then serves most end limit before start 0 (omega arith) long.first lawful order none.0
        (marks_of long.last ++ [])
        (λ v taken rows. finish long.last v (last_unread 0 before)
        (let few = none.1.0 in omega (arith, few, taken)) (rows ∙ row.0) row.1 met))

failed_end : (serves : Meanings) (most : ℕ) (last : Turn) (v : Walk) (met : ℕ) → v.taken < most
    → v.row + met ≡ limits.FAILURES - 1
    → last_row (limits.FAILURES - 1) (last ∷ []) ≡ limits.FAILURES
    → last_unread met (last ∷ []) ≡ 0
    → MayEnd serves most ends.RecvFailed v (marks_of last ++ [])
failed_end serves most failed v met few row long none =
    failed_in serves most ends.RecvFailed v [] few (omega (arith, row)) (omega (arith, row))
    ([], (omega (arith, row, none), refl))
failed_end serves most unread v met few row long none = absurd (omega (arith, none))
failed_end serves most (replied serial d m reply out) v met few row long none =
    absurd (omega (arith, long))
failed_end serves most (silenced serial d m why) v met few row long none =
    absurd (omega (arith, long))
failed_end serves most (starved serial d m) v met few row long none = absurd (omega (arith, long))

starved_end : (serves : Meanings) (most : ℕ) (last : Turn) (v : Walk) (met : ℕ) → v.taken < most
    → v.row + met ≡ limits.FAILURES - 1
    → last_row (limits.FAILURES - 1) (last ∷ []) ≡ limits.FAILURES
    → 0 < last_unread met (last ∷ [])
    → MayEnd serves most ends.NoMemory v (marks_of last ++ [])
starved_end serves most failed v met few row long some =
    failed_in serves most ends.NoMemory v [] few (omega (arith, row)) (omega (arith, row, some))
    ([], (omega (arith, row, some), few, refl))
starved_end serves most unread v met few row long some = ([], (omega (arith, row), few, refl))
starved_end serves most (replied serial d m reply out) v met few row long some =
    absurd (omega (arith, long))
starved_end serves most (silenced serial d m why) v met few row long some =
    absurd (omega (arith, long))
starved_end serves most (starved serial d m) v met few row long some =
    absurd (omega (arith, long))

-- a worker's journal may end so
pub may_end_so : (serves : Meanings) (most : ℕ) (end : WorkEnd) (journal : List Mark)
    → IsWorkers serves most end journal → MayEnd serves most end start journal
may_end_so serves most end journal h =
    by end (subst (λ e. Ending most h.worked h.run.turns e h.run.ending) h.end_is h.run.ends)
  where
    by : (e : WorkEnd) → Ending most h.worked h.run.turns e h.run.ending
        → MayEnd serves most e start journal
    by ends.End ending = end_back serves most h.pinned h.worked journal h.run ending
    by ends.RecvFailed ending =
        row_back serves most ends.RecvFailed (omega arith) (λ met. met ≡ 0)
        (failed_end serves most) h.pinned h.worked journal h.run ending
    by ends.NoMemory ending =
        row_back serves most ends.NoMemory (omega arith) (λ met. 0 < met)
        (starved_end serves most) h.pinned h.worked journal h.run ending

-- what a judgement tells
module _ (serves : Meanings) (most : ℕ) (end : WorkEnd) (journal : List Mark) where
  bad_denies : (at : ℕ) → FailsAt serves most end start journal at
      → IsWorkers serves most end journal → ⊥
  bad_denies at (inl bad) h =
      bad.never bad.rest (subst (λ l. MayEnd serves most end start l) bad.is
      (may_end_so serves most end journal h))
  bad_denies at (inr early) h = early.never (may_end_so serves most end journal h)

  pub tells_worker : (result : Result (Unit {0}) SideFault)
      → JudgesSide serves most end journal result
      → TellsWorker serves most end journal result
  tells_worker (Ok done) h = is_workers serves most end journal h
  tells_worker (Err (fault.Mark at)) (inl h) = bad_denies at h
  tells_worker (Err (fault.Mark at)) (inr none) =
      λ h. none.never journal (may_end_so serves most end journal h)
  tells_worker (Err fault.NoMemory) h = tt
