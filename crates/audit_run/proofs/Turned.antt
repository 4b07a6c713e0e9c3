-- What a turn of a side's journal comes to.
use Rattle.std.proofs.Common.{◌≡◌, ◌≤◌, ◌+◌, ℕ, true, List, [], ◌∷◌, ◌++◌, length, length-append}
use Rattle.std.proofs.Common.{Option, Some, None, refl, sym, ap, subst, ◌∙◌, inl, inr, arith}
use Rattle.std.proofs.Common.{append_assoc}
use Rattle.std.specs.Prelude.{◌⊎◌}
use Rattle.outside.specs.declared.datagram.Datagram.{Datagram}
use Rattle.outside.specs.declared.mark.Mark.{Mark}
use Rattle.outside.specs.declared.mark.Mark.TheVariants.{Got, Pinned, Sent, Unpinned}
use Rattle.chain_meaning.specs.declared.served.Served.{Served}
use Rattle.chain_meaning.specs.declared.served.Served.TheVariants.{NoMemory, Reply, Silent}
use Rattle.run_meaning.specs.declared.work_end.WorkEnd.{WorkEnd}
use Rattle.audit_run.specs.declared.walk.Walk.{Walk}
use Rattle.audit_run.specs.Own.{AllOwn, behind_own, own_part}
use Rattle.audit_run.specs.declared.turn_meaning.TurnMeans.{TurnMeans}
use Rattle.audit_run.specs.declared.turn_meaning.TurnMeans.TheVariants as means
use Rattle.audit_run.specs.declared.walk.Step.{Step}
use Rattle.audit_run.specs.declared.walk.Step.TheVariants as step
use Rattle.audit_run.specs.Walking.{HasReply, HasReplyOr, MayTake, PinsSo, TailEndsEarly, TailIsBad}
use Rattle.audit_run.specs.Walking.{TurnTail, TurnsSo, behind_datagram, reply_in}
use Rattle.audit_run.specs.Walks.{EndsEarly, FailsAt, GoesOn, GoesSomehow, IsBad, IsOffAt, MayEnd}
use Rattle.audit_run.specs.Walks.{Meanings, MeansSo, TurnEnds}
use Rattle.audit_run.proofs.Sided.{taken_goes}
use Rattle.audit_run.proofs.Tails.{first_of, nothing_more}
use Rattle.audit_run.proofs.Walked.{both_parts, head_none, none_behind, own_all}
use Rattle.audit_run.proofs.Walked.{own_front, own_is, behind_is, tail_front, turn_at, turn_in}
use Rattle.audit_run.proofs.Walked.{turn_out}

-- some marks of a turn's end
some_end : (served : Served) (serial : ℕ) (more : List Mark)
    → (tail : List Mark) × TurnEnds served serial tail more
some_end (Reply reply) serial more = (Sent reply true ∷ Unpinned serial ∷ more, (true, refl))
some_end (Silent why) serial more = (Unpinned serial ∷ more, refl)
some_end NoMemory serial more = (Unpinned serial ∷ more, refl)

pub pin_same : (s t : ℕ) → Pinned s ≡ Pinned t → s ≡ t
pin_same s t e = cc

module _ (serves : Meanings) (most : ℕ) (end : WorkEnd)
    (own : (serial : ℕ) (d : Datagram) (marks : List Mark) (served : Served)
    → serves serial d marks served → AllOwn marks) (w : Walk) (d : Datagram) where
  abbrev Ends : Walk → List Mark → Type 0
  Ends v marks = MayEnd serves most end v marks

  -- a turn that met want of memory at once
  starved_turn : (serial : ℕ) → MayTake most end w serial → serves serial d [] NoMemory
      → (other : List Mark) → Ends (behind_datagram w serial) other
      → Ends w (Got d ∷ Pinned serial ∷ Unpinned serial ∷ other)
  starved_turn serial take so other goes =
      turn_in serves most end w d (Pinned serial ∷ Unpinned serial ∷ other) take.more take.few
      (record {
        serial = serial;
        marks = [];
        served = NoMemory;
        tail = Unpinned serial ∷ other;
        more = other;
        low = take.low;
        serves_so = so;
        is = refl;
        tail_is = refl;
        goes = goes;
      })

  module _ (serial : ℕ) (take : MayTake most end w serial) (behind : List Mark)
      (reply : Option (List ℕ))
      (has : HasReply (λ marks served. serves serial d marks served) (own_part behind) serial reply)
    where
      -- what may follow this turn
      follows : GoesSomehow serves most end (behind_datagram w serial)
      follows = taken_goes serves most end w serial take.behind

      -- a turn with the marks that serving made, and this tail
      tailed : (tail : List Mark) → TurnTail reply serial tail follows.0
          → Ends w (Got d ∷ Pinned serial ∷ (own_part behind ++ tail))
      tailed tail is =
          let one = has.one tail follows.0 is in
          turn_in serves most end w d (Pinned serial ∷ (own_part behind ++ tail)) take.more take.few
          (record {
            serial = serial;
            marks = own_part behind;
            served = one.0;
            tail = tail;
            more = follows.0;
            low = take.low;
            serves_so = one.1;
            is = refl;
            tail_is = one.2;
            goes = follows.1;
          })

      -- with other marks behind those that serving made
      other_at : (tail : List Mark) → own_part tail ≡ [] → behind_own tail ≡ tail
          → Ends w (Got d ∷ Pinned serial ∷ (own_part behind ++ tail))
          → (more : List Mark) × TurnTail reply serial tail more
          × Ends (behind_datagram w serial) more
      other_at tail none all h =
          let t = turn_at serves most end own w d serial (own_part behind ++ tail) h in
          let marks : own_part (own_part behind ++ tail) ≡ own_part behind =
          own_is (own_part behind) tail (own_all behind) none in
          let rest : behind_own (own_part behind ++ tail) ≡ tail =
          behind_is (own_part behind) tail (own_all behind) all in (
            t.more,
            has.all t.served tail t.more
                (subst (λ l. serves serial d l t.served) marks t.serves_so)
                (subst (λ l. TurnEnds t.served serial l t.more) rest t.tail_is),
            t.goes,
          )

      pub goes_on : (more : List Mark) → TurnTail reply serial (behind_own behind) more
          → GoesOn serves most end w (Got d ∷ Pinned serial ∷ behind)
          (behind_datagram w serial) more
      goes_on more tail =
          let t = tail_front reply serial (behind_own behind) more tail in
          let m = own_part behind in
          let split : (other : List Mark) → (m ++ t.front) ++ other ≡ m ++ (t.front ++ other) =
          (λ other. append_assoc m t.front other) in
          record {
            front = Got d ∷ Pinned serial ∷ (m ++ t.front);
            is = ap (λ l. Got d ∷ Pinned serial ∷ l)
                (both_parts behind ∙ ap (λ l. m ++ l) t.is ∙ sym (split more));
            some = omega arith;
            on = λ other goes.
                let one = has.one (t.front ++ other) other (t.on other) in
                turn_in serves most end w d (Pinned serial ∷ ((m ++ t.front) ++ other)) take.more
                take.few (record {
                  serial = serial;
                  marks = m;
                  served = one.0;
                  tail = t.front ++ other;
                  more = other;
                  low = take.low;
                  serves_so = one.1;
                  is = ap (λ l. Pinned serial ∷ l) (split other);
                  tail_is = one.2;
                  goes = goes;
                });
            back = λ other h.
                let o = other_at (t.front ++ other) (t.none other) (t.all other)
                (subst (λ l. Ends w (Got d ∷ Pinned serial ∷ l)) (split other) h) in
                subst (λ l. Ends (behind_datagram w serial) l) (t.one other o.0 o.1) o.2;
            goes = follows;
          }

      -- a mark of the turn's end may not stand there
      pub tail_bad : (at : ℕ) → TailIsBad reply serial (behind_own behind) at
          → IsBad serves most end w (Got d ∷ Pinned serial ∷ behind)
          (2 + length (own_part behind) + at)
      tail_bad at t =
          let m = own_part behind in
          let joined : (other : List Mark)
          → (m ++ t.front) ++ t.bad ∷ other ≡ m ++ (t.front ++ t.bad ∷ other) =
          (λ other. append_assoc m t.front (t.bad ∷ other)) in
          let long = length-append m t.front in
          let number = t.number in
          record {
            front = Got d ∷ Pinned serial ∷ (m ++ t.front);
            bad = t.bad;
            rest = t.rest;
            is = ap (λ l. Got d ∷ Pinned serial ∷ l)
                (both_parts behind ∙ ap (λ l. m ++ l) t.is ∙ sym (joined t.rest));
            number = omega (arith, long, number);
            never = λ other h.
                let none = no_own t.front t.bad t.rest other
                (sym (ap own_part t.is) ∙ none_behind behind) in
                let o = other_at (t.front ++ t.bad ∷ other) none.0 none.1
                (subst (λ l. Ends w (Got d ∷ Pinned serial ∷ l)) (joined other) h) in
                t.never other o.0 o.1;
            other = t.other ++ follows.0;
            may = subst (λ l. Ends w (Got d ∷ Pinned serial ∷ l))
                (sym (append_assoc m t.front (t.other ++ follows.0)))
                (tailed (t.front ++ (t.other ++ follows.0)) (t.may follows.0));
          }
        where
          no_own : (front : List Mark) (bad : Mark) (rest other : List Mark)
              → own_part (front ++ bad ∷ rest) ≡ []
              → (own_part (front ++ bad ∷ other) ≡ [])
              × (behind_own (front ++ bad ∷ other) ≡ front ++ bad ∷ other)
          no_own [] bad rest other none = head_none bad rest other none
          no_own (x ∷ front) bad rest other none =
              head_none x (front ++ bad ∷ rest) (front ++ bad ∷ other) none

      -- or it ends too early
      pub tail_early : (at : ℕ) → TailEndsEarly reply serial (behind_own behind) at
          → EndsEarly serves most end w (Got d ∷ Pinned serial ∷ behind)
          (2 + length (own_part behind) + at)
      tail_early at t =
          let m = own_part behind in
          let long : length behind ≡ length m + length (behind_own behind) =
          ap length (both_parts behind) ∙ length-append m (behind_own behind) in
          let number = t.number in
          record {
            number = omega (arith, long, number);
            never = λ h.
                let u = turn_at serves most end own w d serial behind h in
                t.never u.more (has.all u.served (behind_own behind) u.more u.serves_so u.tail_is);
            more = t.other ++ follows.0;
            may = subst (λ l. Ends w (Got d ∷ Pinned serial ∷ l))
                (sym (ap (λ l. l ++ (t.other ++ follows.0)) (both_parts behind)
                ∙ append_assoc m (behind_own behind) (t.other ++ follows.0)))
                (tailed (behind_own behind ++ (t.other ++ follows.0)) (t.may follows.0));
          }

      pub tail_fails : (at : ℕ)
          → TailIsBad reply serial (behind_own behind) at
          ⊎ TailEndsEarly reply serial (behind_own behind) at
          → FailsAt serves most end w (Got d ∷ Pinned serial ∷ behind)
          (2 + length (own_part behind) + at)
      tail_fails at (inl t) = inl (tail_bad at t)
      tail_fails at (inr t) = inr (tail_early at t)

  -- a mark that serving may not have made
  pub off_bad : (serial : ℕ) → MayTake most end w serial → (behind : List Mark) (at : ℕ)
      → IsOffAt (λ marks served. serves serial d marks served) (own_part behind) at
      → IsBad serves most end w (Got d ∷ Pinned serial ∷ behind) (2 + at)
  off_bad serial take behind at off =
      let tail = behind_own behind in
      let follows = taken_goes serves most end w serial take.behind in
      let ends = some_end off.served serial follows.0 in
      let number = off.number in
      record {
        front = Got d ∷ Pinned serial ∷ off.front;
        bad = off.bad;
        rest = off.rest ++ tail;
        is = ap (λ l. Got d ∷ Pinned serial ∷ l)
            (both_parts behind ∙ ap (λ l. l ++ tail) off.is
            ∙ append_assoc off.front (off.bad ∷ off.rest) tail);
        number = omega (arith, number);
        never = λ other h.
            let u = turn_at serves most end own w d serial (off.front ++ off.bad ∷ other) h in
            let marks : own_part (off.front ++ off.bad ∷ other)
            ≡ off.front ++ off.bad ∷ own_part other =
            own_front off.front off.bad off.rest other (subst AllOwn off.is (own_all behind)) in
            off.never (own_part other) u.served
            (subst (λ l. serves serial d l u.served) marks u.serves_so);
        other = off.other ++ ends.0;
        may = turn_in serves most end w d (Pinned serial ∷ (off.front ++ (off.other ++ ends.0)))
            take.more take.few (record {
              serial = serial;
              marks = off.front ++ off.other;
              served = off.served;
              tail = ends.0;
              more = follows.0;
              low = take.low;
              serves_so = off.may;
              is = ap (λ l. Pinned serial ∷ l) (sym (append_assoc off.front off.other ends.0));
              tail_is = ends.1;
              goes = follows.1;
            });
      }

  -- a pin that may not stand there
  pub pin_bad : MayTake most end w w.last → serves w.last d [] NoMemory → (first : Mark)
      (rest : List Mark)
      → ((serial : ℕ) (marks : List Mark) (served : Served) → first ≡ Pinned serial
      → w.last ≤ serial → serves serial d marks served → ⊥)
      → IsBad serves most end w (Got d ∷ first ∷ rest) 1
  pin_bad take so first rest never = record {
    front = Got d ∷ [];
    bad = first;
    rest = rest;
    is = refl;
    number = refl;
    never = λ other h.
        let t = (turn_out serves most end w d (first ∷ other) h).2 in
        never t.serial t.marks t.served
        (first_of first (Pinned t.serial) other (t.marks ++ t.tail) t.is) t.low t.serves_so;
    other = Pinned w.last ∷ Unpinned w.last ∷ (taken_goes serves most end w w.last take.behind).0;
    may = starved_turn w.last take so (taken_goes serves most end w w.last take.behind).0
        (taken_goes serves most end w w.last take.behind).1;
  }

  pub no_pin : MayTake most end w w.last → serves w.last d [] NoMemory
      → EndsEarly serves most end w (Got d ∷ []) 1
  no_pin take so = record {
    number = refl;
    never = λ h.
        let t = (turn_out serves most end w d [] h).2 in
        nothing_more (Pinned t.serial) (t.marks ++ t.tail) t.is;
    more = Pinned w.last ∷ Unpinned w.last ∷ (taken_goes serves most end w w.last take.behind).0;
    may = starved_turn w.last take so (taken_goes serves most end w w.last take.behind).0
        (taken_goes serves most end w w.last take.behind).1;
  }

  -- a turn behind its pin
  pub pins_turn : (serial : ℕ) (behind : List Mark) (step : Step) → w.last ≤ serial
      → PinsSo serves serial d behind step → MayTake most end w w.last
      → TurnsSo serves most end w d (Pinned serial ∷ behind) step
  pins_turn serial behind (step.Goes other more) low so take =
      subst (λ s. GoesOn serves most end w (Got d ∷ Pinned serial ∷ behind) (behind_datagram w s)
      more.now) (sym so.0) (so.1 most end w (record {
        more = take.more;
        few = take.few;
        low = low;
        behind = take.behind;
      }))
  pins_turn serial behind (step.Fails at) low so take = so most end w (record {
    more = take.more;
    few = take.few;
    low = low;
    behind = take.behind;
  })

-- what a turn may reply
module _ (serves : List Mark → Served → Type 0) (marks : List Mark) (serial : ℕ) where
  pub has_reply : (m : TurnMeans) → MeansSo serves marks m
      → HasReplyOr serves marks serial (reply_in m)
  has_reply (means.Replies reply) h = record {
    all = λ served tail more so is. all served tail more so is;
    one = λ tail more t. one tail more t;
  }
    where
      all : (served : Served) (tail more : List Mark) → serves marks served
          → TurnEnds served serial tail more → TurnTail (Some reply) serial tail more
      all (Reply other) tail more so is =
          inl (subst (λ r. TurnEnds (Reply r) serial tail more) (h.3 other so) is)
      all (Silent why) tail more so is = absurd (h.2 why so)
      all NoMemory tail more so is = inr is

      one : (tail more : List Mark) → TurnTail (Some reply) serial tail more
          → (served : Served) × serves marks served × TurnEnds served serial tail more
      one tail more (inl t) = (Reply reply, h.0, t)
      one tail more (inr t) = (NoMemory, h.1, t)
  has_reply means.Silence h = record {
    all = λ served tail more so is. all served tail more so is;
    one = λ tail more t. (Silent h.0, h.1, t);
  }
    where
      all : (served : Served) (tail more : List Mark) → serves marks served
          → TurnEnds served serial tail more → TurnTail None serial tail more
      all (Reply other) tail more so is = absurd (h.2 other so)
      all (Silent why) tail more so is = is
      all NoMemory tail more so is = is
  has_reply means.Short h = record {
    all = λ served tail more so is. all served tail more so is;
    one = λ tail more t. (NoMemory, h.0, t);
  }
    where
      all : (served : Served) (tail more : List Mark) → serves marks served
          → TurnEnds served serial tail more → TurnTail None serial tail more
      all (Reply other) tail more so is = absurd (h.2 other so)
      all (Silent why) tail more so is = is
      all NoMemory tail more so is = is
  has_reply (means.Off at) h = h
