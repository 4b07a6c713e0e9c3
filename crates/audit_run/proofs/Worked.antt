-- A walk along a journal to its end is a worker's run.
use Rattle.std.proofs.Common.{◌≡◌, ◌≤◌, ◌<◌, ◌+◌, ◌-◌, ℕ, zero, suc, List, [], ◌∷◌, ◌++◌, reverse}
use Rattle.std.proofs.Common.{max}
use Rattle.std.proofs.Common.{refl, sym, ap, subst, ◌∙◌, inl, inr, arith, append_assoc}
use Rattle.std.specs.Prelude.{◌⊎◌, replicate}
use Rattle.std.specs.List.{AllByRecursion, flat_map}
use Rattle.std.proofs.lemmas.List.{replicate_more, reverse-reverse}
use Rattle.dns_data.specs.declared.limit.TheConstants as limits
use Rattle.outside.specs.declared.mark.Mark.{Mark}
use Rattle.outside.specs.declared.mark.Mark.TheVariants.{RecvEnd}
use Rattle.run_meaning.specs.declared.work_end.WorkEnd.{WorkEnd}
use Rattle.run_meaning.specs.declared.work_end.WorkEnd.TheVariants as ends
use Rattle.run_meaning.specs.Turn.{NeverFall, Turn, datagrams, failed, marks_of, replied, serials}
use Rattle.run_meaning.specs.Turn.{silenced, starved, starved_in, total, unread}
use Rattle.run_meaning.specs.Workers.{Ending, HasNoLongRow, NoneBehind}
use Rattle.run_meaning.specs.Workers.{Worked, last_row, last_unread}
use Rattle.audit_run.specs.declared.walk.Walk.{Walk}
use Rattle.audit_run.specs.Walking.{start}
use Rattle.audit_run.specs.Walks.{Finishes, IsStep, IsTurn, MayEnd, Meanings, Runs, after}
use Rattle.audit_run.specs.Walks.{row_limit}
use Rattle.audit_run.specs.WorkerRuns.{IsWorkers, lawful_by}

-- none of these is above
abbrev highest : List ℕ → ℕ
highest [] = 0
highest (x ∷ xs) = max x (highest xs)

raised : (xs : List ℕ) (low high : ℕ) → low ≤ high → AllByRecursion (λ x. x ≤ low) xs
    → AllByRecursion (λ x. x ≤ high) xs
raised [] low high h all = tt
raised (x ∷ xs) low high h all =
    (let own = all.0 in omega (arith, own, h), raised xs low high h all.1)

none_above : (xs : List ℕ) → AllByRecursion (λ x. x ≤ highest xs) xs
none_above [] = tt
none_above (x ∷ xs) =
    (omega arith, raised xs (highest xs) (max x (highest xs)) (omega arith) (none_above xs))

all_both : (P : Turn → Type 0) (xs ys : List Turn) → AllByRecursion P xs → AllByRecursion P ys
    → AllByRecursion P (xs ++ ys)
all_both P [] ys a b = b
all_both P (x ∷ xs) ys a b = (a.0, all_both P xs ys a.1 b)

-- the walk behind turns
abbrev behind_all : Walk → List Turn → Walk
behind_all w [] = w
behind_all w (turn ∷ turns) = behind_all (after w turn) turns

module _ (serves : Meanings) (most : ℕ) (end : WorkEnd) where
  -- what turns of a walk are
  record AreOf (w : Walk) (turns : List Turn) (marks : List Mark) : Type 0 where
    lawful : AllByRecursion (lawful_by serves) turns
    order : NeverFall w.last (flat_map serials turns)
    none : NoneBehind most w.taken turns
    few : (behind_all w turns).taken ≡ w.taken + total datagrams turns
    row : (behind_all w turns).row ≡ last_row w.row turns
    unmet : last_unread 0 turns ≡ 0
    ending : List Mark
    told : marks ≡ flat_map marks_of turns ++ ending
    finishes : Finishes serves most end end (behind_all w turns) ending

  joined : (turn : Turn) (turns : List Turn) (marks more ending : List Mark)
      → marks ≡ marks_of turn ++ more → more ≡ flat_map marks_of turns ++ ending
      → marks ≡ (marks_of turn ++ flat_map marks_of turns) ++ ending
  joined turn turns marks more ending is told =
      is ∙ ap (λ l. marks_of turn ++ l) told
      ∙ sym (append_assoc (marks_of turn) (flat_map marks_of turns) ending)

  more_of : (w : Walk) (turn : Turn) (turns : List Turn) (marks more : List Mark)
      → IsStep serves most end w turn → marks ≡ marks_of turn ++ more
      → AreOf (after w turn) turns more → AreOf w (turn ∷ turns) marks
  more_of w failed turns marks more step is rest = record {
    lawful = (tt, rest.lawful);
    order = rest.order;
    none = (
      step.more,
      subst (λ n. NoneBehind most n turns) (let e : w.taken ≡ w.taken + 0 = omega arith in e)
          rest.none,
    );
    few = rest.few ∙ (omega arith);
    row = rest.row;
    unmet = rest.unmet;
    ending = rest.ending;
    told = joined failed turns marks more rest.ending is rest.told;
    finishes = rest.finishes;
  }
  more_of w unread turns marks more step is rest = absurd step.is
  more_of w (replied serial d m reply out) turns marks more step is rest = record {
    lawful = (step.is.1, rest.lawful);
    order = (step.is.0, rest.order);
    none = (step.more, rest.none);
    few = rest.few ∙ (omega arith);
    row = rest.row;
    unmet = rest.unmet;
    ending = rest.ending;
    told = joined (replied serial d m reply out) turns marks more rest.ending is rest.told;
    finishes = rest.finishes;
  }
  more_of w (silenced serial d m why) turns marks more step is rest = record {
    lawful = (step.is.1, rest.lawful);
    order = (step.is.0, rest.order);
    none = (step.more, rest.none);
    few = rest.few ∙ (omega arith);
    row = rest.row;
    unmet = rest.unmet;
    ending = rest.ending;
    told = joined (silenced serial d m why) turns marks more rest.ending is rest.told;
    finishes = rest.finishes;
  }
  more_of w (starved serial d m) turns marks more step is rest = record {
    lawful = (step.is.1, rest.lawful);
    order = (step.is.0, rest.order);
    none = (step.more, rest.none);
    few = rest.few ∙ (omega arith);
    row = rest.row;
    unmet = rest.unmet;
    ending = rest.ending;
    told = joined (starved serial d m) turns marks more rest.ending is rest.told;
    finishes = rest.finishes;
  }

  are_of : (w : Walk) (turns : List Turn) (marks : List Mark) → Runs serves most end w turns marks
      → AreOf w turns marks
  are_of w [] marks f = record {
    lawful = tt;
    order = tt;
    none = tt;
    few = omega arith;
    row = refl;
    unmet = refl;
    ending = marks;
    told = refl;
    finishes = f;
  }
  are_of w (turn ∷ turns) marks (step, more, is, runs) =
      more_of w turn turns marks more step is (are_of (after w turn) turns more runs)

  -- where a row is too short to end a worker
  short_rows : row_limit end ≡ limits.FAILURES - 1 → (w : Walk) (turns : List Turn)
      (marks : List Mark) → Runs serves most end w turns marks → HasNoLongRow w.row turns
  short_rows limit w [] marks f = tt
  short_rows limit w (turn ∷ turns) marks (step, more, is, runs) =
      by turn step.is (short_rows limit (after w turn) turns more runs)
    where
      by : (turn : Turn) → IsTurn serves most end w turn → HasNoLongRow (after w turn).row turns
          → HasNoLongRow w.row (turn ∷ turns)
      by failed low rest = (let l : w.row < row_limit end = low in omega (arith, l, limit), rest)
      by unread low rest = absurd low
      by (replied serial d m reply out) low rest = rest
      by (silenced serial d m why) low rest = rest
      by (starved serial d m) low rest = rest

  -- a journal's turns make a run
  run_of : (turns : List Turn) (ending marks : List Mark) → AllByRecursion (lawful_by serves) turns
      → NeverFall 0 (flat_map serials turns) → NoneBehind most 0 turns
      → total datagrams turns ≤ most → marks ≡ flat_map marks_of turns ++ ending
      → ((worked : Worked) → worked.taken ≡ total datagrams turns
      → Ending most worked turns end ending)
      → IsWorkers serves most end marks
  run_of turns ending marks lawful order none few told ends_so =
      let all = flat_map serials turns in
      let worked : Worked = record {
        taken = total datagrams turns;
        seen = highest all;
        starved = total starved_in turns;
        end = end;
      } in
      record {
        pinned = reverse all;
        worked = worked;
        end_is = refl;
        run = record {
          turns = turns;
          ending = ending;
          told = told;
          are = record {
            lawful_are = lawful;
            in_order = order;
            datagrams_are = refl;
            starved_are = refl;
          };
          at_most = few;
          none_behind = none;
          pinned_are = sym (reverse-reverse all);
          seen_all = none_above all;
          ends = ends_so worked refl;
        };
      }

  at_most : (t : ℕ) (turns : List Turn) → t ≤ most → NoneBehind most t turns
      → t + total datagrams turns ≤ most
  at_most t [] low none = omega (arith, low)
  at_most t (failed ∷ turns) low none =
      let rest = at_most (t + 0) turns (omega (arith, low)) none.1 in omega (arith, rest)
  at_most t (unread ∷ turns) low none =
      let rest = at_most (t + 0) turns (omega (arith, low)) none.1 in omega (arith, rest)
  at_most t (replied serial d m reply out ∷ turns) low none =
      let few = none.0 in
      let rest = at_most (t + 1) turns (omega (arith, few)) none.1 in omega (arith, rest)
  at_most t (silenced serial d m why ∷ turns) low none =
      let few = none.0 in
      let rest = at_most (t + 1) turns (omega (arith, few)) none.1 in omega (arith, rest)
  at_most t (starved serial d m ∷ turns) low none =
      let few = none.0 in
      let rest = at_most (t + 1) turns (omega (arith, few)) none.1 in omega (arith, rest)

-- receives that met want of memory, behind turns
abbrev unreads : ℕ → List Turn
unreads n = replicate n unread

unread_marks : (turns : List Turn) (n : ℕ)
    → flat_map marks_of (turns ++ unreads n) ≡ flat_map marks_of turns
unread_marks [] zero = refl
unread_marks [] (suc n) = unread_marks [] n
unread_marks (turn ∷ turns) n = ap (λ l. marks_of turn ++ l) (unread_marks turns n)

unread_serials : (turns : List Turn) (n : ℕ)
    → flat_map serials (turns ++ unreads n) ≡ flat_map serials turns
unread_serials [] zero = refl
unread_serials [] (suc n) = unread_serials [] n
unread_serials (turn ∷ turns) n = ap (λ l. serials turn ++ l) (unread_serials turns n)

unread_total : (turns : List Turn) (n : ℕ)
    → total datagrams (turns ++ unreads n) ≡ total datagrams turns
unread_total [] zero = refl
unread_total [] (suc n) = let e = unread_total [] n in omega (arith, e)
unread_total (turn ∷ turns) n = ap (λ k. datagrams turn + k) (unread_total turns n)

unread_lawful : (serves : Meanings) (n : ℕ) → AllByRecursion (lawful_by serves) (unreads n)
unread_lawful serves zero = tt
unread_lawful serves (suc n) = (tt, unread_lawful serves n)

unread_none : (most t : ℕ) (turns : List Turn) (n : ℕ) → NoneBehind most t turns
    → t + total datagrams turns < most → NoneBehind most t (turns ++ unreads n)
unread_none most t [] zero none low = tt
unread_none most t [] (suc n) none low =
    (omega (arith, low), unread_none most (t + 0) [] n tt (omega (arith, low)))
unread_none most t (turn ∷ turns) n none low =
    (none.0, unread_none most (t + datagrams turn) turns n none.1 (omega (arith, low)))

unread_row : (row : ℕ) (turns : List Turn) (n : ℕ)
    → last_row row (turns ++ unreads n) ≡ last_row row turns + n
unread_row row [] zero = omega arith
unread_row row [] (suc n) = let e = unread_row (row + 1) [] n in omega (arith, e)
unread_row row (failed ∷ turns) n = unread_row (row + 1) turns n
unread_row row (unread ∷ turns) n = unread_row (row + 1) turns n
unread_row row (replied serial d m reply out ∷ turns) n = unread_row 0 turns n
unread_row row (silenced serial d m why ∷ turns) n = unread_row 0 turns n
unread_row row (starved serial d m ∷ turns) n = unread_row 0 turns n

unread_met : (met : ℕ) (turns : List Turn) (n : ℕ)
    → last_unread met (turns ++ unreads n) ≡ last_unread met turns + n
unread_met met [] zero = omega arith
unread_met met [] (suc n) = let e = unread_met (met + 1) [] n in omega (arith, e)
unread_met met (failed ∷ turns) n = unread_met met turns n
unread_met met (unread ∷ turns) n = unread_met (met + 1) turns n
unread_met met (replied serial d m reply out ∷ turns) n = unread_met 0 turns n
unread_met met (silenced serial d m why ∷ turns) n = unread_met 0 turns n
unread_met met (starved serial d m ∷ turns) n = unread_met 0 turns n

unread_short : (row : ℕ) (turns : List Turn) (n : ℕ) → HasNoLongRow row turns
    → last_row row turns + n < limits.FAILURES → HasNoLongRow row (turns ++ unreads n)
unread_short row [] zero short low = tt
unread_short row [] (suc n) short low =
    (omega (arith, low), unread_short (row + 1) [] n tt (omega (arith, low)))
unread_short row (failed ∷ turns) n short low =
    (short.0, unread_short (row + 1) turns n short.1 low)
unread_short row (unread ∷ turns) n short low =
    (short.0, unread_short (row + 1) turns n short.1 low)
unread_short row (replied serial d m reply out ∷ turns) n short low =
    unread_short 0 turns n short low
unread_short row (silenced serial d m why ∷ turns) n short low = unread_short 0 turns n short low
unread_short row (starved serial d m ∷ turns) n short low = unread_short 0 turns n short low

unread_last : (turns : List Turn) (n : ℕ)
    → turns ++ unreads (n + 1) ≡ (turns ++ unreads n) ++ unread ∷ []
unread_last turns n =
    ap (λ l. turns ++ l) (sym (replicate_more n unread))
    ∙ sym (append_assoc turns (unreads n) (unread ∷ []))

module _ (serves : Meanings) (most : ℕ) where
  -- the side's end, or the last datagram
  ended_run : (turns : List Turn) (marks : List Mark)
      → Runs serves most ends.End start turns marks → IsWorkers serves most ends.End marks
  ended_run turns marks runs =
      let a = are_of serves most ends.End start turns marks runs in
      let short = short_rows serves most ends.End refl start turns marks runs in
      run_of serves most ends.End turns a.ending marks a.lawful a.order a.none
      (let few = at_most serves most ends.End 0 turns (omega arith) a.none in omega (arith, few))
      a.told
      (λ worked taken. (
        short,
        by worked taken (behind_all start turns) a.ending a.few
            a.finishes.1,
      ))
    where
      by : (worked : Worked) → worked.taken ≡ total datagrams turns → (w : Walk) (l : List Mark)
          → w.taken ≡ 0 + total datagrams turns
          → ((l ≡ RecvEnd ∷ []) × (w.taken < most)) ⊎ ((l ≡ []) × (w.taken ≡ most))
          → ((l ≡ RecvEnd ∷ []) × (worked.taken < most)) ⊎ ((l ≡ []) × (worked.taken ≡ most))
      by worked taken w l few (inl h) = inl (h.0, (let low = h.1 in omega (arith, taken, few, low)))
      by worked taken w l few (inr h) = inr (h.0, (let all = h.1 in omega (arith, taken, few, all)))

  -- want of memory
  starved_run : (turns : List Turn) (marks : List Mark)
      → Runs serves most ends.NoMemory start turns marks
      → IsWorkers serves most ends.NoMemory marks
  starved_run turns marks runs =
      let a = are_of serves most ends.NoMemory start turns marks runs in
      let short = short_rows serves most ends.NoMemory refl start turns marks runs in
      let row = last_row 0 turns in
      let low : row < limits.FAILURES =
      (let r = a.row in let l = a.finishes.0 in omega (arith, r, l)) in
      let taken : 0 + total datagrams turns < most =
      (let f = a.few in let l = a.finishes.1 in omega (arith, f, l)) in
      let n = limits.FAILURES - 1 - row in
      let all = turns ++ unreads (n + 1) in
      let none = unread_none most 0 turns (n + 1) a.none taken in
      let met_all = unread_met 0 turns (n + 1) in
      let row_all = unread_row 0 turns (n + 1) in
      run_of serves most ends.NoMemory all a.ending marks
      (all_both (lawful_by serves) turns (unreads (n + 1)) a.lawful (unread_lawful serves (n + 1)))
      (subst (λ l. NeverFall 0 l) (sym (unread_serials turns (n + 1))) a.order)
      none
      (let few = at_most serves most ends.NoMemory 0 all (omega arith) none in omega (arith, few))
      (a.told ∙ ap (λ l. l ++ a.ending) (sym (unread_marks turns (n + 1))))
      (λ worked same. (
        record {
          before = turns ++ unreads n;
          last = unread;
          turns_are = unread_last turns n;
          first = unread_short 0 turns n short (omega (arith, low));
          row = row_all ∙ (omega (arith, low));
          met = omega (arith, met_all);
        },
        a.finishes.2,
      ))

  -- a row that ends a worker
  row_long : (w : Walk) (turns : List Turn) (marks : List Mark)
      → Runs serves most ends.RecvFailed w turns marks → w.row < limits.FAILURES
      → (before : List Turn) × (last : Turn) × (turns ≡ before ++ last ∷ [])
      × HasNoLongRow w.row before
  row_long w [] marks f few = absurd (let row = f.0 in omega (arith, row, few))
  row_long w (turn ∷ []) marks (step, more, is, runs) few = ([], turn, refl, tt)
  row_long w (turn ∷ second ∷ turns) marks (step, more, is, runs) few =
      let rest = row_long (after w turn) (second ∷ turns) more runs runs.0.few in (
        turn ∷ rest.0,
        rest.1,
        ap (λ l. turn ∷ l) rest.2,
        by turn step.is runs.0.few rest.0 rest.3,
      )
    where
      by : (t : Turn) → IsTurn serves most ends.RecvFailed w t
          → (after w t).row < limits.FAILURES → (before : List Turn)
          → HasNoLongRow (after w t).row before → HasNoLongRow w.row (t ∷ before)
      by failed low next before short = (next, short)
      by unread low next before short = absurd low
      by (replied serial d m reply out) low next before short = short
      by (silenced serial d m why) low next before short = short
      by (starved serial d m) low next before short = short

  failed_run : (turns : List Turn) (marks : List Mark)
      → Runs serves most ends.RecvFailed start turns marks
      → IsWorkers serves most ends.RecvFailed marks
  failed_run turns marks runs =
      let a = are_of serves most ends.RecvFailed start turns marks runs in
      let long = row_long start turns marks runs (omega arith) in
      run_of serves most ends.RecvFailed turns a.ending marks a.lawful a.order a.none
      (let few = at_most serves most ends.RecvFailed 0 turns (omega arith) a.none in
      omega (arith, few))
      a.told
      (λ worked taken. (
        record {
          before = long.0;
          last = long.1;
          turns_are = long.2;
          first = long.3;
          row = sym a.row ∙ a.finishes.0;
          met = a.unmet;
        },
        a.finishes.1,
      ))

  -- a journal that may end so is that of a worker
  pub is_workers : (end : WorkEnd) (marks : List Mark) → MayEnd serves most end start marks
      → IsWorkers serves most end marks
  is_workers ends.End marks (turns, runs) = ended_run turns marks runs
  is_workers ends.RecvFailed marks (turns, runs) = failed_run turns marks runs
  is_workers ends.NoMemory marks (turns, runs) = starved_run turns marks runs
