-- A walk along a side's journal, turn by turn.
use Rattle.std.proofs.Common.{◌≡◌, ◌≤◌, ◌<◌, ℕ, Bool, true, false, List, [], ◌∷◌}
use Rattle.std.proofs.Common.{◌++◌}
use Rattle.std.proofs.Common.{Option, Some, None, refl, sym, ap, subst, ◌∙◌, inl, inr}
use Rattle.std.proofs.Common.{append_assoc}
use Rattle.std.specs.Prelude.{◌⊎◌, if◌then◌else◌}
use Rattle.dns_data.specs.declared.limit.TheConstants as limits
use Rattle.outside.specs.declared.datagram.Datagram.{Datagram}
use Rattle.outside.specs.declared.mark.Mark.{Mark}
use Rattle.outside.specs.declared.mark.Mark.TheVariants.{Got, RecvEnd, RecvFailed, Sent, Pinned}
use Rattle.outside.specs.declared.mark.Mark.TheVariants.{Unpinned}
use Rattle.chain_meaning.specs.declared.served.Served.{Served}
use Rattle.chain_meaning.specs.declared.served.Served.TheVariants.{Reply, Silent, NoMemory}
use Rattle.run_meaning.specs.declared.work_end.WorkEnd.{WorkEnd}
use Rattle.run_meaning.specs.declared.work_end.WorkEnd.TheVariants as ends
use Rattle.run_meaning.specs.Turn.{Turn, failed, unread, replied, silenced, starved, marks_of}
use Rattle.audit_run.specs.declared.walk.Walk.{Walk}
use Rattle.audit_run.specs.Own.{AllOwn, behind_own, is_own, own_part}
use Rattle.audit_run.specs.Walking.{TurnTail}
use Rattle.audit_run.specs.Walking.{behind_datagram}
use Rattle.audit_run.specs.Walks.{Finishes, IsStep, IsTurn, Meanings, MayEnd, Runs}
use Rattle.audit_run.specs.Walks.{TurnEnds, after, row_limit}
use Rattle.audit_run.proofs.Tails.{first_of, nothing_more, rest_of}

-- the marks that serving took are those in front of the first that it doesn't make
pub own_is : (marks behind : List Mark) → AllOwn marks → own_part behind ≡ []
    → own_part (marks ++ behind) ≡ marks
own_is [] behind own none = none
own_is (m ∷ marks) behind own none =
    ap (λ b. if b then m ∷ own_part (marks ++ behind) else []) own.0
    ∙ ap (λ l. m ∷ l) (own_is marks behind own.1 none)

pub behind_is : (marks behind : List Mark) → AllOwn marks → behind_own behind ≡ behind
    → behind_own (marks ++ behind) ≡ behind
behind_is [] behind own same = same
behind_is (m ∷ marks) behind own same =
    ap (λ b. if b then behind_own (marks ++ behind) else m ∷ marks ++ behind) own.0
    ∙ behind_is marks behind own.1 same

-- behind them stands none of these, or nothing
pub none_behind : (marks : List Mark) → own_part (behind_own marks) ≡ []
none_behind [] = refl
none_behind (m ∷ marks) = by (is_own m) refl (none_behind marks)
  where
    by : (b : Bool) → is_own m ≡ b → own_part (behind_own marks) ≡ []
        → own_part (if b then behind_own marks else m ∷ marks) ≡ []
    by true e more = more
    by false e more = ap (λ b. if b then m ∷ own_part marks else []) e

pub both_parts : (marks : List Mark) → marks ≡ own_part marks ++ behind_own marks
both_parts [] = refl
both_parts (m ∷ marks) = by (is_own m) (both_parts marks)
  where
    by : (b : Bool) → marks ≡ own_part marks ++ behind_own marks
        → m ∷ marks ≡ (if b then m ∷ own_part marks else [])
        ++ (if b then behind_own marks else m ∷ marks)
    by true e = ap (λ l. m ∷ l) e
    by false e = refl

pub own_all : (marks : List Mark) → AllOwn (own_part marks)
own_all [] = tt
own_all (m ∷ marks) = by (is_own m) refl (own_all marks)
  where
    by : (b : Bool) → is_own m ≡ b → AllOwn (own_part marks)
        → AllOwn (if b then m ∷ own_part marks else [])
    by true e more = (e, more)
    by false e more = tt

-- the marks of a turn's end are none of serving's
tail_none : (served : Served) (serial : ℕ) (marks more : List Mark)
    → TurnEnds served serial marks more
    → (own_part marks ≡ []) × (behind_own marks ≡ marks)
tail_none (Reply reply) serial marks more t = (ap own_part t.1, ap behind_own t.1 ∙ sym t.1)
tail_none (Silent why) serial marks more t = (ap own_part t, ap behind_own t ∙ sym t)
tail_none NoMemory serial marks more t = (ap own_part t, ap behind_own t ∙ sym t)

module _ (serves : Meanings) (most : ℕ) (end : WorkEnd) where
  abbrev Ends : Walk → List Mark → Type 0
  Ends w marks = MayEnd serves most end w marks

  -- a turn that took a datagram, by the marks behind it
  pub record TurnOf (w : Walk) (d : Datagram) (rest : List Mark) : Type 0 where
    pub serial : ℕ
    pub marks : List Mark
    pub served : Served
    pub tail : List Mark
    pub more : List Mark
    pub low : w.last ≤ serial
    pub serves_so : serves serial d marks served
    pub is : rest ≡ Pinned serial ∷ (marks ++ tail)
    pub tail_is : TurnEnds served serial tail more
    pub goes : MayEnd serves most end (behind_datagram w serial) more

  -- such a turn may stand in front
  pub turn_in : (w : Walk) (d : Datagram) (rest : List Mark) → w.taken < most
      → w.row < limits.FAILURES → TurnOf w d rest → Ends w (Got d ∷ rest)
  turn_in w d rest more few t = by t.served t.serves_so t.tail_is
    where
      turned : (turn : Turn) → IsStep serves most end w turn
          → Got d ∷ rest ≡ marks_of turn ++ t.more
          → after w turn ≡ behind_datagram w t.serial → Ends w (Got d ∷ rest)
      turned turn step is same = (
        turn ∷ t.goes.0,
        (
          step,
          t.more,
          is,
          subst (λ v. Runs serves most end v t.goes.0 t.more) (sym same) t.goes.1,
        ),
      )

      by : (served : Served) → serves t.serial d t.marks served
          → TurnEnds served t.serial t.tail t.more → Ends w (Got d ∷ rest)
      by (Reply reply) so tail =
          turned (replied t.serial d t.marks reply tail.0)
          (record { more = more; few = few; is = (t.low, so) })
          (ap (λ l. Got d ∷ l) (t.is ∙ ap (λ l. Pinned t.serial ∷ (t.marks ++ l)) tail.1)
          ∙ ap (λ l. Got d ∷ Pinned t.serial ∷ l)
          (sym (append_assoc t.marks (Sent reply tail.0 ∷ Unpinned t.serial ∷ []) t.more)))
          refl
      by (Silent why) so tail =
          turned (silenced t.serial d t.marks why)
          (record { more = more; few = few; is = (t.low, so) })
          (ap (λ l. Got d ∷ l) (t.is ∙ ap (λ l. Pinned t.serial ∷ (t.marks ++ l)) tail)
          ∙ ap (λ l. Got d ∷ Pinned t.serial ∷ l)
          (sym (append_assoc t.marks (Unpinned t.serial ∷ []) t.more)))
          refl
      by NoMemory so tail =
          turned (starved t.serial d t.marks)
          (record { more = more; few = few; is = (t.low, so) })
          (ap (λ l. Got d ∷ l) (t.is ∙ ap (λ l. Pinned t.serial ∷ (t.marks ++ l)) tail)
          ∙ ap (λ l. Got d ∷ Pinned t.serial ∷ l)
          (sym (append_assoc t.marks (Unpinned t.serial ∷ []) t.more)))
          refl

  got_same : (d e : Datagram) → Got d ≡ Got e → d ≡ e
  got_same d e h = cc

  no_end : (w : Walk) (m : Mark) (rest : List Mark) (e : WorkEnd) → (m ≡ RecvEnd → ⊥)
      → Finishes serves most end e w (m ∷ rest) → ⊥
  no_end w m rest ends.End other f = by f.1
    where
      by : ((m ∷ rest ≡ RecvEnd ∷ []) × (w.taken < most)) ⊎ ((m ∷ rest ≡ []) × (w.taken ≡ most))
          → ⊥
      by (inl e) = other (first_of m RecvEnd rest [] e.0)
      by (inr e) = nothing_more m rest (sym e.0)
  no_end w m rest ends.RecvFailed other f = nothing_more m rest (sym f.1)
  no_end w m rest ends.NoMemory other f = nothing_more m rest (sym f.2)

  -- and what stands behind a datagram is the rest of such a turn
  pub turn_out : (w : Walk) (d : Datagram) (rest : List Mark) → Ends w (Got d ∷ rest)
      → (w.taken < most) × (w.row < limits.FAILURES) × TurnOf w d rest
  turn_out w d rest ([], f) = absurd (no_end w (Got d) rest end (λ e. cc) f)
  turn_out w d rest (turn ∷ turns, (step, more, is, runs)) =
      (step.more, step.few, by turn step.is is runs)
    where
      of : (serial : ℕ) (e : Datagram) (marks tail : List Mark) (served : Served)
          → w.last ≤ serial → serves serial e marks served
          → Got d ∷ rest ≡ Got e ∷ Pinned serial ∷ (marks ++ tail)
          → TurnEnds served serial tail more
          → Ends (behind_datagram w serial) more → TurnOf w d rest
      of serial e marks tail served low so is tail_is goes = record {
        serial = serial;
        marks = marks;
        served = served;
        tail = tail;
        more = more;
        low = low;
        serves_so = subst (λ x. serves serial x marks served)
            (sym (got_same d e
            (first_of (Got d) (Got e) rest (Pinned serial ∷ (marks ++ tail)) is)))
            so;
        is = rest_of (Got d) (Got e) rest (Pinned serial ∷ (marks ++ tail)) is;
        tail_is = tail_is;
        goes = goes;
      }

      by : (turn : Turn) → IsTurn serves most end w turn → Got d ∷ rest ≡ marks_of turn ++ more
          → Runs serves most end (after w turn) turns more → TurnOf w d rest
      by failed step is runs =
          absurd (let e = first_of (Got d) RecvFailed rest more is in cc)
      by unread step is runs = absurd step
      by (replied serial e marks reply out) step is runs =
          of serial e marks (Sent reply out ∷ Unpinned serial ∷ more) (Reply reply) step.0 step.1
          (is ∙ ap (λ l. Got e ∷ Pinned serial ∷ l)
          (append_assoc marks (Sent reply out ∷ Unpinned serial ∷ []) more))
          (out, refl) (turns, runs)
      by (silenced serial e marks why) step is runs =
          of serial e marks (Unpinned serial ∷ more) (Silent why) step.0 step.1
          (is ∙ ap (λ l. Got e ∷ Pinned serial ∷ l)
          (append_assoc marks (Unpinned serial ∷ []) more))
          refl (turns, runs)
      by (starved serial e marks) step is runs =
          of serial e marks (Unpinned serial ∷ more) NoMemory step.0 step.1
          (is ∙ ap (λ l. Got e ∷ Pinned serial ∷ l)
          (append_assoc marks (Unpinned serial ∷ []) more))
          refl (turns, runs)

  -- a receive that failed
  pub failed_in : (w : Walk) (rest : List Mark) → w.taken < most → w.row < limits.FAILURES
      → w.row < row_limit end → Ends (after w failed) rest → Ends w (RecvFailed ∷ rest)
  failed_in w rest more few low goes = (
    failed ∷ goes.0,
    (record { more = more; few = few; is = low }, rest, refl, goes.1),
  )

  pub failed_out : (w : Walk) (rest : List Mark) → Ends w (RecvFailed ∷ rest)
      → (w.row < row_limit end) × Ends (after w failed) rest
  failed_out w rest ([], f) = absurd (no_end w RecvFailed rest end (λ e. cc) f)
  failed_out w rest (turn ∷ turns, (step, more, is, runs)) = by turn step.is is runs
    where
      other : (d : Datagram) (l : List Mark) → RecvFailed ∷ rest ≡ Got d ∷ l → ⊥
      other d l e = let f = first_of RecvFailed (Got d) rest l e in cc

      by : (turn : Turn) → IsTurn serves most end w turn
          → RecvFailed ∷ rest ≡ marks_of turn ++ more
          → Runs serves most end (after w turn) turns more
          → (w.row < row_limit end) × Ends (after w failed) rest
      by failed step is runs = (
        step,
        subst (λ l. Ends (after w failed) l)
            (sym (rest_of RecvFailed RecvFailed rest more is)) (turns, runs),
      )
      by unread step is runs = absurd step
      by (replied serial d marks reply out) step is runs = absurd (other d _ is)
      by (silenced serial d marks why) step is runs = absurd (other d _ is)
      by (starved serial d marks) step is runs = absurd (other d _ is)

  -- no mark stands behind the last datagram, or behind as many failing receives as end a worker
  pub first_out : (w : Walk) (m : Mark) (rest : List Mark) → Ends w (m ∷ rest)
      → (w.taken < most) × (w.row < limits.FAILURES)
  first_out w m rest (turn ∷ turns, (step, more, is, runs)) = (step.more, step.few)
  first_out w m rest ([], f) = by end f
    where
      by : (e : WorkEnd) → Finishes serves most end e w (m ∷ rest)
          → (w.taken < most) × (w.row < limits.FAILURES)
      by ends.End f = (by_end f.1, f.0)
        where
          by_end : ((m ∷ rest ≡ RecvEnd ∷ []) × (w.taken < most))
              ⊎ ((m ∷ rest ≡ []) × (w.taken ≡ most)) → w.taken < most
          by_end (inl e) = e.1
          by_end (inr e) = absurd (nothing_more m rest (sym e.0))
      by ends.RecvFailed f = absurd (nothing_more m rest (sym f.1))
      by ends.NoMemory f = (f.1, f.0)

  -- a turn begins with a receive
  pub other_out : (w : Walk) (m : Mark) (rest : List Mark) → ((d : Datagram) → m ≡ Got d → ⊥)
      → (m ≡ RecvFailed → ⊥) → (m ≡ RecvEnd → ⊥) → Ends w (m ∷ rest) → ⊥
  other_out w m rest no_got no_failed none ([], f) = no_end w m rest end none f
  other_out w m rest no_got no_failed none (turn ∷ turns, (step, more, is, runs)) =
      by turn step.is is
    where
      by : (turn : Turn) → IsTurn serves most end w turn → m ∷ rest ≡ marks_of turn ++ more → ⊥
      by failed step is = no_failed (first_of m RecvFailed rest more is)
      by unread step is = step
      by (replied serial d marks reply out) step is = no_got d (first_of m (Got d) rest _ is)
      by (silenced serial d marks why) step is = no_got d (first_of m (Got d) rest _ is)
      by (starved serial d marks) step is = no_got d (first_of m (Got d) rest _ is)

-- an end of a turn, whatever stands behind it
pub record TailFront (reply : Option (List ℕ)) (serial : ℕ) (marks more : List Mark) : Type 0
  where
    pub front : List Mark
    pub is : marks ≡ front ++ more
    pub on : (other : List Mark) → TurnTail reply serial (front ++ other) other
    pub one : (other others : List Mark) → TurnTail reply serial (front ++ other) others
        → others ≡ other
    pub none : (other : List Mark) → own_part (front ++ other) ≡ []
    pub all : (other : List Mark) → behind_own (front ++ other) ≡ front ++ other

apart_sent : (serial : ℕ) (reply : List ℕ) (out : Bool) → Unpinned serial ≡ Sent reply out → ⊥
apart_sent serial reply out e = cc

pub tail_front : (reply : Option (List ℕ)) (serial : ℕ) (marks more : List Mark)
    → TurnTail reply serial marks more → TailFront reply serial marks more
tail_front None serial marks more t = record {
  front = Unpinned serial ∷ [];
  is = t;
  on = λ other. refl;
  one = λ other others e. sym (rest_of (Unpinned serial) (Unpinned serial) other others e);
  none = λ other. refl;
  all = λ other. refl;
}
tail_front (Some reply) serial marks more (inl t) = record {
  front = Sent reply t.0 ∷ Unpinned serial ∷ [];
  is = t.1;
  on = λ other. inl (t.0, refl);
  one = λ other others e. by other others e;
  none = λ other. refl;
  all = λ other. refl;
}
  where
    by : (other others : List Mark)
        → TurnTail (Some reply) serial (Sent reply t.0 ∷ Unpinned serial ∷ other) others
        → others ≡ other
    by other others (inl e) =
        sym (rest_of (Unpinned serial) (Unpinned serial) other others
        (rest_of (Sent reply t.0) (Sent reply e.0) (Unpinned serial ∷ other)
        (Unpinned serial ∷ others) e.1))
    by other others (inr e) = absurd (apart_sent serial reply t.0
        (sym (first_of (Sent reply t.0) (Unpinned serial) (Unpinned serial ∷ other) others e)))
tail_front (Some reply) serial marks more (inr t) = record {
  front = Unpinned serial ∷ [];
  is = t;
  on = λ other. inr refl;
  one = λ other others e. by other others e;
  none = λ other. refl;
  all = λ other. refl;
}
  where
    by : (other others : List Mark)
        → TurnTail (Some reply) serial (Unpinned serial ∷ other) others → others ≡ other
    by other others (inl e) = absurd (apart_sent serial reply e.0
        (first_of (Unpinned serial) (Sent reply e.0) other (Unpinned serial ∷ others) e.1))
    by other others (inr e) = sym (rest_of (Unpinned serial) (Unpinned serial) other others e)

-- marks that serving made, in front of others
pub own_front : (xs : List Mark) (y : Mark) (ys other : List Mark) → AllOwn (xs ++ y ∷ ys)
    → own_part (xs ++ y ∷ other) ≡ xs ++ y ∷ own_part other
own_front [] y ys other own = ap (λ b. if b then y ∷ own_part other else []) own.0
own_front (x ∷ xs) y ys other own =
    ap (λ b. if b then x ∷ own_part (xs ++ y ∷ other) else []) own.0
    ∙ ap (λ l. x ∷ l) (own_front xs y ys other own.1)

-- a first mark that serving didn't make
pub head_none : (x : Mark) (xs ys : List Mark) → own_part (x ∷ xs) ≡ []
    → (own_part (x ∷ ys) ≡ []) × (behind_own (x ∷ ys) ≡ x ∷ ys)
head_none x xs ys none = by (is_own x) refl none
  where
    by : (b : Bool) → is_own x ≡ b → (if b then x ∷ own_part xs else []) ≡ []
        → (own_part (x ∷ ys) ≡ []) × (behind_own (x ∷ ys) ≡ x ∷ ys)
    by true e none = absurd (nothing_more x (own_part xs) (sym none))
    by false e none = (
      ap (λ b. if b then x ∷ own_part ys else []) e,
      ap (λ b. if b then behind_own ys else x ∷ ys) e,
    )

module _ (serves : Meanings) (most : ℕ) (end : WorkEnd)
    (own : (serial : ℕ) (d : Datagram) (marks : List Mark) (served : Served)
    → serves serial d marks served → AllOwn marks) (w : Walk) (d : Datagram) where
  -- the rest of a turn, by the marks that serving made
  pub record TurnAt (serial : ℕ) (behind : List Mark) : Type 0 where
    pub served : Served
    pub more : List Mark
    pub serves_so : serves serial d (own_part behind) served
    pub tail_is : TurnEnds served serial (behind_own behind) more
    pub goes : MayEnd serves most end (behind_datagram w serial) more

  pin_same : (s t : ℕ) → Pinned s ≡ Pinned t → s ≡ t
  pin_same s t e = cc

  pub turn_at : (serial : ℕ) (behind : List Mark)
      → MayEnd serves most end w (Got d ∷ Pinned serial ∷ behind) → TurnAt serial behind
  turn_at serial behind h =
      let t = (turn_out serves most end w d (Pinned serial ∷ behind) h).2 in
      let pin : serial ≡ t.serial = pin_same serial t.serial
      (first_of (Pinned serial) (Pinned t.serial) behind (t.marks ++ t.tail) t.is) in
      let is : behind ≡ t.marks ++ t.tail =
      rest_of (Pinned serial) (Pinned t.serial) behind (t.marks ++ t.tail) t.is in
      let all = own t.serial d t.marks t.served t.serves_so in
      let ends = tail_none t.served t.serial t.tail t.more t.tail_is in
      let marks : own_part behind ≡ t.marks = ap own_part is ∙ own_is t.marks t.tail all ends.0 in
      let tail : behind_own behind ≡ t.tail =
      ap behind_own is ∙ behind_is t.marks t.tail all ends.1 in
      record {
        served = t.served;
        more = t.more;
        serves_so = subst (λ s. serves s d (own_part behind) t.served) (sym pin)
            (subst (λ l. serves t.serial d l t.served) (sym marks) t.serves_so);
        tail_is = subst (λ s. TurnEnds t.served s (behind_own behind) t.more) (sym pin)
            (subst (λ l. TurnEnds t.served t.serial l t.more) (sym tail) t.tail_is);
        goes = subst (λ s. MayEnd serves most end (behind_datagram w s) t.more) (sym pin) t.goes;
      }
