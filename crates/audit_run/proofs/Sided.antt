-- A walk along a side's journal, step by step.
use Rattle.std.proofs.Common.{◌≡◌, ◌≤◌, ◌<◌, ◌+◌, ◌-◌, ℕ, zero, suc, Bool, true, false, List, []}
use Rattle.std.proofs.Common.{◌∷◌}
use Rattle.std.specs.Prelude.{nat_lt}
use Rattle.std.proofs.Common.{◌++◌}
use Rattle.std.proofs.Common.{length, length-append, refl, sym, ap, subst, ◌∙◌, inl, inr, arith}
use Rattle.std.proofs.Common.{append_assoc}
use Rattle.std.specs.Prelude.{◌⊎◌}
use Rattle.dns_data.specs.declared.limit.TheConstants as limits
use Rattle.outside.specs.declared.datagram.Datagram.{Datagram}
use Rattle.outside.specs.declared.mark.Mark.{Mark}
use Rattle.outside.specs.declared.mark.Mark.TheVariants.{Got, RecvEnd, RecvFailed}
use Rattle.chain_meaning.specs.declared.served.Served.{Served}
use Rattle.run_meaning.specs.declared.work_end.WorkEnd.{WorkEnd}
use Rattle.run_meaning.specs.declared.work_end.WorkEnd.TheVariants as ends
use Rattle.run_meaning.specs.Turn.{Turn, failed, unread, replied, silenced, starved, marks_of}
use Rattle.audit_run.specs.declared.walk.Stepped.{Stepped}
use Rattle.audit_run.specs.declared.walk.Stepped.TheVariants as stepped
use Rattle.audit_run.specs.declared.walk.Walk.{Walk}
use Rattle.audit_run.specs.Walking.{EndsSo, IsAt, StepsSo, behind_datagram, has_ended, may_begin}
use Rattle.audit_run.specs.Walking.{may_take, start}
use Rattle.audit_run.specs.Walks.{FailsAt, Finishes, GoesOn, GoesSomehow, IsTurn, MayEnd}
use Rattle.audit_run.specs.Walks.{Meanings, after, row_limit}
use Rattle.audit_run.proofs.Tails.{first_of, nothing_more, rest_of}
use Rattle.audit_run.proofs.Walked.{failed_in, failed_out, first_out, other_out, turn_out}

-- a worker may go on, and end as it is to
failing_goes : (serves : Meanings) (most k : ℕ) (w : Walk) → w.row + k ≡ limits.FAILURES
    → w.taken < most → GoesSomehow serves most ends.RecvFailed w
failing_goes serves most zero w row many = ([], ([], (omega (arith, row), refl)))
failing_goes serves most (suc k) w row many =
    let more = failing_goes serves most k (after w failed) (omega (arith, row)) many in (
      RecvFailed ∷ more.0,
      failed_in serves most ends.RecvFailed w more.0 many (omega (arith, row)) (omega (arith, row))
          more.1,
    )

pub some_goes : (serves : Meanings) (most : ℕ) (e : WorkEnd) (w : Walk) → w.row ≤ row_limit e
    → w.taken < most → GoesSomehow serves most e w
some_goes serves most ends.End w few many =
    (RecvEnd ∷ [], ([], (omega (arith, few), inl (refl, many))))
some_goes serves most ends.RecvFailed w few many =
    failing_goes serves most (limits.FAILURES - w.row) w (omega (arith, few)) many
some_goes serves most ends.NoMemory w few many = ([], ([], (omega (arith, few), many, refl)))

-- behind a datagram that may be taken
pub taken_goes : (serves : Meanings) (most : ℕ) (e : WorkEnd) (w : Walk) (serial : ℕ)
    → may_take most e w ≡ true → GoesSomehow serves most e (behind_datagram w serial)
taken_goes serves most ends.End w serial t = by (nat_lt (w.taken + 1) most) refl
  where
    by : (b : Bool) → nat_lt (w.taken + 1) most ≡ b
        → GoesSomehow serves most ends.End (behind_datagram w serial)
    by true e =
        some_goes serves most ends.End (behind_datagram w serial) (omega arith) (grind (arith, e))
    by false e = ([], ([], (omega arith, inr (refl, (grind (arith, e, t))))))
taken_goes serves most ends.RecvFailed w serial t =
    some_goes serves most ends.RecvFailed (behind_datagram w serial) (omega arith)
    (grind (arith, t))
taken_goes serves most ends.NoMemory w serial t =
    some_goes serves most ends.NoMemory (behind_datagram w serial) (omega arith) (grind (arith, t))

-- behind one that may not be taken no worker ends so
take_never : (serves : Meanings) (most : ℕ) (e : WorkEnd) (w : Walk) (serial : ℕ)
    (other : List Mark) → w.taken < most → may_take most e w ≡ false
    → MayEnd serves most e (behind_datagram w serial) other → ⊥
take_never serves most ends.End w serial other many t h = absurd (grind (arith, many, t))
take_never serves most ends.RecvFailed w serial other many t ([], f) =
    let row = f.0 in absurd (omega (arith, row))
take_never serves most ends.RecvFailed w serial other many t (turn ∷ turns, (step, more, is, runs)) =
    let low = step.more in absurd (grind (arith, low, t))
take_never serves most ends.NoMemory w serial other many t ([], f) =
    let low = f.1 in absurd (grind (arith, low, t))
take_never serves most ends.NoMemory w serial other many t (turn ∷ turns, (step, more, is, runs)) =
    let low = step.more in absurd (grind (arith, low, t))

-- in the beginning
pub begin_goes : (serves : Meanings) (most : ℕ) (e : WorkEnd) → may_begin most e ≡ true
    → GoesSomehow serves most e start
begin_goes serves most ends.End t = by (nat_lt 0 most) refl
  where
    by : (b : Bool) → nat_lt 0 most ≡ b → GoesSomehow serves most ends.End start
    by true e = some_goes serves most ends.End start (omega arith) (grind (arith, e))
    by false e = ([], ([], (omega arith, inr (refl, (grind (arith, e))))))
begin_goes serves most ends.RecvFailed t =
    some_goes serves most ends.RecvFailed start (omega arith) (grind (arith, t))
begin_goes serves most ends.NoMemory t =
    some_goes serves most ends.NoMemory start (omega arith) (grind (arith, t))

pub none_begins : (serves : Meanings) (most : ℕ) (e : WorkEnd) → may_begin most e ≡ false
    → (other : List Mark) → MayEnd serves most e start other → ⊥
none_begins serves most ends.End t other h = cc
none_begins serves most ends.RecvFailed t other ([], f) =
    let row = f.0 in absurd (omega (arith, row))
none_begins serves most ends.RecvFailed t other (turn ∷ turns, (step, more, is, runs)) =
    let low = step.more in absurd (grind (arith, low, t))
none_begins serves most ends.NoMemory t other ([], f) =
    let low = f.1 in absurd (grind (arith, low, t))
none_begins serves most ends.NoMemory t other (turn ∷ turns, (step, more, is, runs)) =
    let low = step.more in absurd (grind (arith, low, t))

module _ (serves : Meanings) (most : ℕ) (end : WorkEnd) where
  abbrev Ends : Walk → List Mark → Type 0
  Ends w marks = MayEnd serves most end w marks

  abbrev Somehow : Walk → Type 0
  Somehow w = GoesSomehow serves most end w

  -- a first mark that may not stand there
  pub first_bad : (w : Walk) (m : Mark) (rest : List Mark) → Somehow w
      → ((other : List Mark) → Ends w (m ∷ other) → ⊥)
      → FailsAt serves most end w (m ∷ rest) 0
  first_bad w m rest goes never = inl (record {
    front = [];
    bad = m;
    rest = rest;
    is = refl;
    number = refl;
    never = never;
    other = goes.0;
    may = goes.1;
  })

  pub past_most : (w : Walk) (m : Mark) (rest : List Mark) → Somehow w → most ≤ w.taken
      → FailsAt serves most end w (m ∷ rest) 0
  past_most w m rest goes high = first_bad w m rest goes (λ other h.
      let low = (first_out serves most end w m other h).0 in absurd (omega (arith, high, low)))

  pub past_row : (w : Walk) (m : Mark) (rest : List Mark) → Somehow w → limits.FAILURES ≤ w.row
      → FailsAt serves most end w (m ∷ rest) 0
  past_row w m rest goes high = first_bad w m rest goes (λ other h.
      let low = (first_out serves most end w m other h).1 in absurd (omega (arith, high, low)))

  pub past_limit : (w : Walk) (rest : List Mark) → Somehow w → row_limit end ≤ w.row
      → FailsAt serves most end w (RecvFailed ∷ rest) 0
  past_limit w rest goes high = first_bad w RecvFailed rest goes (λ other h.
      let low = (failed_out serves most end w other h).0 in absurd (omega (arith, high, low)))

  pub other_bad : (w : Walk) (m : Mark) (rest : List Mark) → Somehow w
      → ((d : Datagram) → m ≡ Got d → ⊥)
      → (m ≡ RecvFailed → ⊥) → (m ≡ RecvEnd → ⊥) → FailsAt serves most end w (m ∷ rest) 0
  other_bad w m rest goes no_got no_failed none = first_bad w m rest goes
      (λ other h. other_out serves most end w m other no_got no_failed none h)

  -- a datagram behind which no worker ends so
  pub not_taken : (w : Walk) (d : Datagram) (rest : List Mark) → Somehow w → w.taken < most
      → may_take most end w ≡ false → FailsAt serves most end w (Got d ∷ rest) 0
  not_taken w d rest goes many none = first_bad w (Got d) rest goes (λ other h.
      let t = (turn_out serves most end w d other h).2 in
      take_never serves most end w t.serial t.more many none t.goes)

  -- a datagram where nothing is published that could be pinned
  pub none_pinned : (w : Walk) (d : Datagram) (rest : List Mark) (published : ℕ) → Somehow w
      → ((serial : ℕ) (d : Datagram) (marks : List Mark) (served : Served)
      → serves serial d marks served → serial < published)
      → published ≤ w.last → FailsAt serves most end w (Got d ∷ rest) 0
  none_pinned w d rest published goes within high = first_bad w (Got d) rest goes (λ other h.
      let t = (turn_out serves most end w d other h).2 in
      let low = t.low in
      let so = within t.serial d t.marks t.served t.serves_so in
      absurd (omega (arith, low, so, high)))

  -- a receive that failed
  pub failed_goes : (w : Walk) (rest : List Mark) → w.taken < most → w.row < limits.FAILURES
      → w.row < row_limit end
      → GoesOn serves most end w (RecvFailed ∷ rest) (after w failed) rest
  failed_goes w rest many few low = record {
    front = RecvFailed ∷ [];
    is = refl;
    some = omega arith;
    on = λ other goes. failed_in serves most end w other many few low goes;
    back = λ other h. (failed_out serves most end w other h).1;
    goes = some_goes serves most end (after w failed) (omega (arith, low)) many;
  }

  -- the mark of the side's end
  end_out : (w : Walk) (rest : List Mark) → Ends w (RecvEnd ∷ rest)
      → (end ≡ ends.End) × (rest ≡ [])
  end_out w rest (turn ∷ turns, (step, more, is, runs)) = absurd (by turn step.is is)
    where
      by : (turn : Turn) → IsTurn serves most end w turn → RecvEnd ∷ rest ≡ marks_of turn ++ more
          → ⊥
      by failed step is = let e = first_of RecvEnd RecvFailed rest more is in cc
      by unread step is = step
      by (replied serial d marks reply out) step is =
          let e = first_of RecvEnd (Got d) rest _ is in cc
      by (silenced serial d marks why) step is =
          let e = first_of RecvEnd (Got d) rest _ is in cc
      by (starved serial d marks) step is = let e = first_of RecvEnd (Got d) rest _ is in cc
  end_out w rest ([], f) = by end f
    where
      by_end : ((RecvEnd ∷ rest ≡ RecvEnd ∷ []) × (w.taken < most))
          ⊎ ((RecvEnd ∷ rest ≡ []) × (w.taken ≡ most)) → rest ≡ []
      by_end (inl e) = rest_of RecvEnd RecvEnd rest [] e.0
      by_end (inr e) = absurd (nothing_more RecvEnd rest (sym e.0))

      by : (e : WorkEnd) → Finishes serves most end e w (RecvEnd ∷ rest)
          → (e ≡ ends.End) × (rest ≡ [])
      by ends.End f = (refl, by_end f.1)
      by ends.RecvFailed f = absurd (nothing_more RecvEnd rest (sym f.1))
      by ends.NoMemory f = absurd (nothing_more RecvEnd rest (sym f.2))

  end_finishes : (w : Walk) (e : WorkEnd) → e ≡ ends.End → w.taken < most
      → w.row < limits.FAILURES → Finishes serves most end e w (RecvEnd ∷ [])
  end_finishes w ends.End is many few = (few, inl (refl, many))
  end_finishes w ends.RecvFailed is many few = cc
  end_finishes w ends.NoMemory is many few = cc

  pub end_steps : (w : Walk) (rest : List Mark) (v : Walk) → Somehow w → w.taken < most
      → w.row < limits.FAILURES → (s : Stepped) → EndsSo end rest s
      → StepsSo serves most end w (RecvEnd ∷ rest) v s
  end_steps w rest v goes many few (stepped.Goes more) h = absurd h
  end_steps w rest v goes many few stepped.Ends h = (
    [],
    subst (λ l. Finishes serves most end end w (RecvEnd ∷ l)) (sym h.1)
        (end_finishes w end h.0 many few),
  )
  end_steps w rest v goes many few (stepped.Fails at) (inl h) =
      subst (λ n. FailsAt serves most end w (RecvEnd ∷ rest) n) (sym h.0)
      (first_bad w RecvEnd rest goes (λ other x. h.1 (end_out w other x).0))
  end_steps w rest v goes many few (stepped.Fails at) (inr h) =
      subst (λ n. FailsAt serves most end w (RecvEnd ∷ rest) n) (sym h.0) (by rest h.2)
    where
      by : (l : List Mark) → (l ≡ [] → ⊥) → FailsAt serves most end w (RecvEnd ∷ l) 1
      by [] some = absurd (some refl)
      by (x ∷ l) some = inl (record {
        front = RecvEnd ∷ [];
        bad = x;
        rest = l;
        is = refl;
        number = refl;
        never = λ other e. nothing_more x other (sym (end_out w (x ∷ other) e).1);
        other = [];
        may = ([], end_finishes w end h.1 many few);
      })

  -- behind the last mark
  finished : (w : Walk) (e : WorkEnd) → has_ended most e w ≡ true
      → Finishes serves most end e w []
  finished w ends.End t = (grind (arith, t), inr (refl, (grind (arith, t))))
  finished w ends.RecvFailed t = ((grind (arith, t)), refl)
  finished w ends.NoMemory t = ((grind (arith, t)), (grind (arith, t)), refl)

  unfinished : (w : Walk) (e : WorkEnd) → has_ended most e w ≡ false
      → Finishes serves most end e w [] → ⊥
  unfinished w ends.End t (few, inl h) = nothing_more RecvEnd [] h.0
  unfinished w ends.End t (few, inr h) = let all = h.1 in absurd (grind (arith, t, few, all))
  unfinished w ends.RecvFailed t h = let row = h.0 in absurd (grind (arith, t, row))
  unfinished w ends.NoMemory t h =
      let few = h.0 in let many = h.1 in absurd (grind (arith, t, few, many))

  pub may_end : (w : Walk) → has_ended most end w ≡ true → Ends w []
  may_end w t = ([], finished w end t)

  pub ends_early : (w : Walk) → Somehow w → has_ended most end w ≡ false
      → FailsAt serves most end w [] 0
  ends_early w goes t = inr (record {
    number = refl;
    never = λ h. never h;
    more = goes.0;
    may = goes.1;
  })
    where
      never : Ends w [] → ⊥
      never ([], f) = unfinished w end t f
      never (turn ∷ turns, (step, more, is, runs)) = by turn step.is is
        where
          by : (turn : Turn) → IsTurn serves most end w turn → [] ≡ marks_of turn ++ more → ⊥
          by failed step is = nothing_more RecvFailed more is
          by unread step is = step
          by (replied serial d marks reply out) step is = nothing_more (Got d) _ is
          by (silenced serial d marks why) step is = nothing_more (Got d) _ is
          by (starved serial d marks) step is = nothing_more (Got d) _ is

  -- the walk from the beginning
  module _ (marks : List Mark) (w : Walk) (rest : List Mark)
      (at : IsAt serves most end marks w rest) where
    pub at_goes : (v : Walk) (more : List Mark) → GoesOn serves most end w rest v more
        → IsAt serves most end marks v more
    at_goes v more goes =
        let split : (other : List Mark)
        → (at.front ++ goes.front) ++ other ≡ at.front ++ (goes.front ++ other) =
        (λ other. append_assoc at.front goes.front other) in
        record {
          front = at.front ++ goes.front;
          is = at.is ∙ ap (λ l. at.front ++ l) goes.is ∙ sym (split more);
          on = λ other h. subst (λ l. Ends start l) (sym (split other))
              (at.on (goes.front ++ other) (goes.on other h));
          back = λ other h. goes.back other (at.back (goes.front ++ other)
              (subst (λ l. Ends start l) (split other) h));
          goes = goes.goes;
        }

    pub at_ends : Ends w rest → Ends start marks
    at_ends h = subst (λ l. Ends start l) (sym at.is) (at.on rest h)

    long : length marks ≡ length at.front + length rest
    long = ap length at.is ∙ length-append at.front rest

    pub at_fails : (number : ℕ) → FailsAt serves most end w rest number
        → FailsAt serves most end start marks (length marks - length rest + number)
    at_fails number (inl bad) =
        let split : (other : List Mark) → (at.front ++ bad.front) ++ bad.bad ∷ other
        ≡ at.front ++ (bad.front ++ bad.bad ∷ other) =
        (λ other. append_assoc at.front bad.front (bad.bad ∷ other)) in
        let all = long in
        let front = length-append at.front bad.front in
        let own = bad.number in
        inl (record {
          front = at.front ++ bad.front;
          bad = bad.bad;
          rest = bad.rest;
          is = at.is ∙ ap (λ l. at.front ++ l) bad.is ∙ sym (split bad.rest);
          number = omega (arith, all, front, own);
          never = λ other h. bad.never other (at.back (bad.front ++ bad.bad ∷ other)
              (subst (λ l. Ends start l) (split other) h));
          other = bad.other;
          may = subst (λ l. Ends start l) (sym (append_assoc at.front bad.front bad.other))
              (at.on (bad.front ++ bad.other) bad.may);
        })
    at_fails number (inr early) =
        let all = long in
        let own = early.number in
        inr (record {
          number = omega (arith, all, own);
          never = λ h. early.never (at.back rest (subst (λ l. Ends start l) at.is h));
          more = early.more;
          may = subst (λ l. Ends start l)
              (sym (ap (λ l. l ++ early.more) at.is ∙ append_assoc at.front rest early.more))
              (at.on (rest ++ early.more) early.may);
        })

    pub within_rest : (number : ℕ) → FailsAt serves most end w rest number
        → number ≤ length rest
    within_rest number (inl bad) =
        let split = ap length bad.is ∙ length-append bad.front (bad.bad ∷ bad.rest) in
        let own = bad.number in omega (arith, split, own)
    within_rest number (inr early) = let own = early.number in omega (arith, own)
