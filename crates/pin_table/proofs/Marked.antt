-- The marks of the steps so far are those of the passes, and stay so.
use Rattle.std.proofs.Common.{◌≡◌, ◌≢◌, ◌<◌, ◌≤◌, ℕ, zero, suc, Bool, cond, eqb, List, [], ◌∷◌, ◌++◌, length, map, reverse, get_or, Option, Some, None, refl, sym, ap, ◌∙◌, arith, append-nil, append_assoc, eq-eqb, ne_eqb}
use Rattle.std.specs.List.{slice_get}
use Rattle.std.proofs.lemmas.List.{reverse-append}
use Rattle.std.proofs.lemmas.Option.{none-some, same_Some}
use Rattle.pin_core.specs.declared.steps.PinStep.{PinStep}
use Rattle.pin_core.specs.declared.steps.PinStep.TheVariants.{Fill, Publish, Pin, Unpin, Sweep, Drain}
use Rattle.pin_core.specs.declared.steps.PinReply.{PinReply}
use Rattle.pin_core.specs.declared.steps.PinReply.TheVariants.{Done, Pinned, Ready, Unlawful}
use Rattle.pin_core.specs.Machine.{After, Machine, after, run, start}
use Rattle.pin_core.specs.OneRun.{PinMark, last_by, last_of, pin_marks, pinned, told_by, told_step, unpinned}
use Rattle.pin_core.specs.OneRunLaws.Further.{last-snoc, lawful-snoc, marks-append, told-snoc}
use Rattle.pin_table.specs.declared.views.Turn.{Turn}
use Rattle.pin_table.specs.declared.views.Taken.{Taken}
use Rattle.pin_table.specs.declared.views.PassView.{PassView}
use Rattle.pin_table.specs.Known.{fresh, serial_at, serials_of, turn_serials}
use Rattle.pin_table.specs.Shown.{IsReached, IsTold, last_in, open_marks, pass_marks}
use Rattle.pin_table.specs.Steps.{held_pass, idle_pass, taken_pass}
use Rattle.pin_table.proofs.Basics.{put, put_each}

-- a step that is no pin and no unpin tells nothing
abbrev pub IsQuiet : PinStep → Type 0
IsQuiet (Fill s w) = Unit {0}
IsQuiet (Publish s) = Unit {0}
IsQuiet (Pin w) = ⊥
IsQuiet (Unpin w) = ⊥
IsQuiet (Sweep s) = Unit {0}
IsQuiet (Drain s w) = Unit {0}

quiet_step : (w last : ℕ) (x : PinStep) (r : PinReply) → IsQuiet x → told_step w x r last ≡ []
quiet_step w last (Fill s v) r q = refl
quiet_step w last (Publish s) r q = refl
quiet_step w last (Pin v) r q = absurd q
quiet_step w last (Unpin v) r q = absurd q
quiet_step w last (Sweep s) r q = refl
quiet_step w last (Drain s v) r q = refl

quiet_last : (w last : ℕ) (x : PinStep) (r : PinReply) → IsQuiet x → last_by w x r last ≡ last
quiet_last w last (Fill s v) r q = refl
quiet_last w last (Publish s) r q = refl
quiet_last w last (Pin v) r q = absurd q
quiet_last w last (Unpin v) r q = absurd q
quiet_last w last (Sweep s) r q = refl
quiet_last w last (Drain s v) r q = refl

pub done_is : Done ≢ Unlawful
done_is e = absurd cc

pub ready_is : Ready ≢ Unlawful
ready_is e = absurd cc

pinned_is : (s serial : ℕ) → Pinned s serial ≢ Unlawful
pinned_is s serial e = absurd cc

-- the reply of a step behind those so far
reply_of : (n : ℕ) (m : Machine) (h : IsReached n m) (x : PinStep) (a : After) → after m x ≡ a → (after (run (start n) h.steps) x).1 ≡ a.1
reply_of n m h x a is = ap (λ (k : Machine). (after k x).1) (sym h.is) ∙ ap (λ (z : After). z.1) is

module _ (C : Type 0) where
  abbrev Q : Type 0
  Q = PassView C

  -- what is told of one pass is told of the other
  pub record IsSameTold (serials : List ℕ) (q : Q) (serials' : List ℕ) (q' : Q) : Type 0 where
    pub marks : pass_marks serials' q' ≡ pass_marks serials q
    pub last : last_in (serials_of serials' q') ≡ last_in (serials_of serials q)

  -- of all passes
  pub told_same : (n : ℕ) (steps : List PinStep) (serials serials' : List ℕ) (of of' : ℕ → Q) → ((w : ℕ) → w < n → IsSameTold serials (of w) serials' (of' w)) → IsTold n steps serials of → IsTold n steps serials' of'
  told_same n steps serials serials' of of' same h = record {
    lawful = h.lawful;
    marks = λ w l. h.marks w l ∙ sym (same w l).marks;
    last = λ w l. h.last w l ∙ sym (same w l).last;
  }

  -- where the pass of one worker is another
  pub told_put : (n : ℕ) (steps : List PinStep) (serials : List ℕ) (of : ℕ → Q) (w : ℕ) (q : Q) → IsSameTold serials (of w) serials q → IsTold n steps serials of → IsTold n steps serials (put of w q)
  told_put n steps serials of w q same h = told_same n steps serials serials of (put of w q)
      (λ u l. put_each (λ u r. IsSameTold serials (of u) serials r) of w q u same (λ _. record { marks = refl; last = refl })) h

  -- behind a step that tells nothing
  pub told_quiet : (n : ℕ) (m m' : Machine) (x : PinStep) (r : PinReply) (h : IsReached n m) (serials : List ℕ) (of : ℕ → Q) → IsQuiet x → after m x ≡ (m', r) → r ≢ Unlawful
      → IsTold n h.steps serials of → IsTold n (h.steps ++ x ∷ []) serials of
  told_quiet n m m' x r h serials of quiet is ne t =
      let reply = reply_of n m h x (m', r) is in
      record {
        lawful = lawful-snoc (start n) h.steps x t.lawful (λ e. ne (sym reply ∙ e));
        marks = λ w l. told-snoc w 0 (start n) h.steps x
            ∙ (ap (λ (y : List PinMark). told_by w 0 (start n) h.steps ++ y) (quiet_step w (last_of w 0 (start n) h.steps) x (after (run (start n) h.steps) x).1 quiet)
            ∙ (append-nil (told_by w 0 (start n) h.steps) ∙ t.marks w l));
        last = λ w l. last-snoc w 0 (start n) h.steps x ∙ (quiet_last w (last_of w 0 (start n) h.steps) x (after (run (start n) h.steps) x).1 quiet ∙ t.last w l);
      }

  -- behind a pin of a worker
  pub told_pin : (n : ℕ) (m m' : Machine) (w s serial : ℕ) (h : IsReached n m) (serials : List ℕ) (of : ℕ → Q) (q : Q) → after m (Pin w) ≡ (m', Pinned s serial)
      → pass_marks serials q ≡ pass_marks serials (of w) ++ pinned serial ∷ [] → last_in (serials_of serials q) ≡ serial
      → IsTold n h.steps serials of → IsTold n (h.steps ++ Pin w ∷ []) serials (put of w q)
  told_pin n m m' w s serial h serials of q is marks last t =
      let reply = reply_of n m h (Pin w) (m', Pinned s serial) is in
      let told : (u : ℕ) → told_by u 0 (start n) (h.steps ++ Pin w ∷ []) ≡ told_by u 0 (start n) h.steps ++ cond (eqb w u) (pinned serial ∷ []) [] =
      λ u. told-snoc u 0 (start n) h.steps (Pin w) ∙ ap (λ (r : PinReply). told_by u 0 (start n) h.steps ++ told_step u (Pin w) r (last_of u 0 (start n) h.steps)) reply in
      let later : (u : ℕ) → last_of u 0 (start n) (h.steps ++ Pin w ∷ []) ≡ cond (eqb w u) serial (last_of u 0 (start n) h.steps) =
      λ u. last-snoc u 0 (start n) h.steps (Pin w) ∙ ap (λ (r : PinReply). last_by u (Pin w) r (last_of u 0 (start n) h.steps)) reply in
      record {
        lawful = lawful-snoc (start n) h.steps (Pin w) t.lawful (λ e. pinned_is s serial (sym reply ∙ e));
        marks = λ u l. told u
            ∙ put_each (λ u r. u < n → told_by u 0 (start n) h.steps ++ cond (eqb w u) (pinned serial ∷ []) [] ≡ pass_marks serials r) of w q u
            (λ lw. ap (λ (b : Bool). told_by w 0 (start n) h.steps ++ cond b (pinned serial ∷ []) []) (eq-eqb w w refl) ∙ (ap (λ (y : List PinMark). y ++ pinned serial ∷ []) (t.marks w lw) ∙ sym marks))
            (λ ne lu. ap (λ (b : Bool). told_by u 0 (start n) h.steps ++ cond b (pinned serial ∷ []) []) (ne_eqb w u (λ e. ne (sym e))) ∙ (append-nil (told_by u 0 (start n) h.steps) ∙ t.marks u lu)) l;
        last = λ u l. later u
            ∙ put_each (λ u r. u < n → cond (eqb w u) serial (last_of u 0 (start n) h.steps) ≡ last_in (serials_of serials r)) of w q u
            (λ lw. ap (λ (b : Bool). cond b serial (last_of w 0 (start n) h.steps)) (eq-eqb w w refl) ∙ sym last)
            (λ ne lu. ap (λ (b : Bool). cond b serial (last_of u 0 (start n) h.steps)) (ne_eqb w u (λ e. ne (sym e))) ∙ t.last u lu) l;
      }

  -- behind the end of its pin
  pub told_unpin : (n : ℕ) (m m' : Machine) (w : ℕ) (h : IsReached n m) (serials : List ℕ) (of : ℕ → Q) (q : Q) → w < n → after m (Unpin w) ≡ (m', Done)
      → pass_marks serials q ≡ pass_marks serials (of w) ++ unpinned (last_in (serials_of serials (of w))) ∷ [] → last_in (serials_of serials q) ≡ last_in (serials_of serials (of w))
      → IsTold n h.steps serials of → IsTold n (h.steps ++ Unpin w ∷ []) serials (put of w q)
  told_unpin n m m' w h serials of q low is marks last t =
      let reply = reply_of n m h (Unpin w) (m', Done) is in
      let serial = last_in (serials_of serials (of w)) in
      let told : (u : ℕ) → told_by u 0 (start n) (h.steps ++ Unpin w ∷ []) ≡ told_by u 0 (start n) h.steps ++ cond (eqb w u) (unpinned (last_of u 0 (start n) h.steps) ∷ []) [] =
      λ u. told-snoc u 0 (start n) h.steps (Unpin w) in
      let later : (u : ℕ) → last_of u 0 (start n) (h.steps ++ Unpin w ∷ []) ≡ last_of u 0 (start n) h.steps =
      λ u. last-snoc u 0 (start n) h.steps (Unpin w) in
      record {
        lawful = lawful-snoc (start n) h.steps (Unpin w) t.lawful (λ e. done_is (sym reply ∙ e));
        marks = λ u l. told u
            ∙ put_each (λ u r. u < n → told_by u 0 (start n) h.steps ++ cond (eqb w u) (unpinned (last_of u 0 (start n) h.steps) ∷ []) [] ≡ pass_marks serials r) of w q u
            (λ lw. ap (λ (b : Bool). told_by w 0 (start n) h.steps ++ cond b (unpinned (last_of w 0 (start n) h.steps) ∷ []) []) (eq-eqb w w refl)
            ∙ ((λ i. t.marks w lw i ++ unpinned (t.last w lw i) ∷ []) ∙ sym marks))
            (λ ne lu. ap (λ (b : Bool). told_by u 0 (start n) h.steps ++ cond b (unpinned (last_of u 0 (start n) h.steps) ∷ []) []) (ne_eqb w u (λ e. ne (sym e))) ∙ (append-nil (told_by u 0 (start n) h.steps) ∙ t.marks u lu)) l;
        last = λ u l. later u
            ∙ put_each (λ u r. u < n → last_of u 0 (start n) h.steps ≡ last_in (serials_of serials r)) of w q u
            (λ lw. t.last w lw ∙ sym last) (λ ne lu. t.last u lu) l;
      }

  -- the passes of each step: a pin, what it learns, and its end
  pub marks_pinned : (serials : List ℕ) (w seen slot serial : ℕ) (ts : List (Turn C)) → serial_at serials slot ≡ serial
      → pass_marks serials (held_pass w ts slot seen) ≡ pass_marks serials (idle_pass w ts seen) ++ pinned serial ∷ []
  marks_pinned serials w seen slot serial ts is =
      let marks = pin_marks (reverse (turn_serials ts)) in
      ap (λ (s : ℕ). marks ++ pinned s ∷ []) is ∙ ap (λ (l : List PinMark). l ++ pinned serial ∷ []) (sym (append-nil marks))

  pub told_learnt : (serials : List ℕ) (w seen seen' slot serial : ℕ) (c : C) (ts : List (Turn C)) → serial ≡ serial_at serials slot
      → IsSameTold serials (held_pass w ts slot seen) serials (taken_pass w ts slot serial c seen')
  told_learnt serials w seen seen' slot serial c ts is = record {
    marks = ap (λ (s : ℕ). pin_marks (reverse (turn_serials ts)) ++ pinned s ∷ []) is;
    last = is;
  }

  pub marks_unpinned : (serials : List ℕ) (w seen slot : ℕ) (c : C) (t : Turn C) (ts : List (Turn C))
      → pass_marks serials (idle_pass w (t ∷ ts) seen) ≡ pass_marks serials (taken_pass w ts slot t.serial c seen) ++ unpinned t.serial ∷ []
  marks_unpinned serials w seen slot c t ts =
      let marks = pin_marks (reverse (turn_serials ts)) in
      append-nil (pin_marks (reverse (turn_serials (t ∷ ts))))
      ∙ (ap pin_marks (reverse-append (t.serial ∷ []) (turn_serials ts))
      ∙ (marks-append (reverse (turn_serials ts)) (t.serial ∷ []) ∙ sym (append_assoc marks (pinned t.serial ∷ []) (unpinned t.serial ∷ []))))

  -- stored serials that are the same for the open pin
  open_same : (serials serials' : List ℕ) (held : Option ℕ) (taken : Option (Taken C)) → ((s : ℕ) → held ≡ Some s → serial_at serials' s ≡ serial_at serials s) → open_marks serials' held taken ≡ open_marks serials held taken
  open_same serials serials' None taken same = refl
  open_same serials serials' (Some s) None same = ap (λ (n : ℕ). pinned n ∷ []) (same s refl)
  open_same serials serials' (Some s) (Some t) same = refl

  pub told_stored : (serials serials' : List ℕ) (q : Q) → ((s : ℕ) → q.held ≡ Some s → serial_at serials' s ≡ serial_at serials s) → serials_of serials' q ≡ serials_of serials q → IsSameTold serials q serials' q
  told_stored serials serials' q same list = record {
    marks = ap (λ (l : List PinMark). pin_marks (reverse (turn_serials q.turns)) ++ l) (open_same serials serials' q.held q.taken same);
    last = ap last_in list;
  }

  -- nothing is told yet
  pub told_first : (n : ℕ) (serials : List ℕ) → IsTold n [] serials (λ w. fresh {C = C} w)
  told_first n serials = record { lawful = tt; marks = λ w l. refl; last = λ w l. refl }

  -- what the passes that came back tell
  pub rested : (serials : List ℕ) (q : Q) → q.held ≡ None → pass_marks serials q ≡ pin_marks (reverse (turn_serials q.turns))
  rested serials q none =
      let marks = pin_marks (reverse (turn_serials q.turns)) in
      ap (λ (o : Option ℕ). marks ++ open_marks serials o q.taken) none ∙ append-nil marks

  pub side_at : (qs : List Q) (w : ℕ) (q : Q) → slice_get qs w ≡ Some q → get_or (map (λ (r : Q). pin_marks (reverse (turn_serials r.turns))) qs) w [] ≡ pin_marks (reverse (turn_serials q.turns))
  side_at [] w q at = absurd (none-some q at)
  side_at (r ∷ qs) zero q at = ap (λ (x : Q). pin_marks (reverse (turn_serials x.turns))) (same_Some r q at)
  side_at (r ∷ qs) (suc w) q at = side_at qs w q at

  pub side_past : (qs : List Q) (w : ℕ) → length qs ≤ w → get_or (map (λ (r : Q). pin_marks (reverse (turn_serials r.turns))) qs) w [] ≡ []
  side_past [] w past = refl
  side_past (r ∷ qs) zero past = absurd (omega (arith, past))
  side_past (r ∷ qs) (suc w) past = side_past qs w (omega (arith, past))
