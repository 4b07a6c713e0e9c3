-- How the turns of a worker go on.
use Rattle.std.proofs.Common.{◌≡◌, ◌≤◌, ◌<◌, ℕ, ◌+◌, Bool, true, false, List, [], ◌∷◌, ◌++◌, length, map, reverse, Some, None, refl, sym, ap, subst, ◌∙◌, arith, inl, inr, add-zero}
use Rattle.std.specs.List.{flat_map, AllByRecursion}
use Rattle.std.proofs.lemmas.List.{append-nil, reverse-append}
use Rattle.std.proofs.lemmas.List.Concat.{flat_map-append, flat_map-cons}
use Rattle.outside.specs.declared.mark.Mark.{Mark}
use Rattle.outside.specs.declared.mark.Mark.TheVariants.{RecvEnd, RecvFailed}
use Rattle.outside.specs.Marks.{Adds, Grows}
use Rattle.outside.specs.Journals.{adds-nothing, adds-then}
use Rattle.outside.specs.States.{SideState}
use Rattle.pin_table.specs.declared.views.PassView.{PassView}
use Rattle.chain_build.specs.declared.chain.Chain.{Chain}
use Rattle.plugin_api.specs.declared.extra.Extra as extra
use Rattle.plugin_api.specs.declared.rulebook.Rulebook as rulebook
use Rattle.query_worker.specs.declared.turn.Turned.{Turned}
use Rattle.query_worker.specs.declared.turn.Turned.TheVariants as turned
use Rattle.query_worker.specs.declared.worker.Tally.{Tally}
use Rattle.run_meaning.specs.declared.work_end.WorkEnd.{WorkEnd}
use Rattle.run_meaning.specs.declared.work_end.WorkEnd.TheVariants as ends
use Rattle.query_worker.specs.Laws.{all_as}
use Rattle.query_worker.specs.Pins.{PastPin, IsByPin, IsOfPass, TakeUnder, CountsPins}
use Rattle.query_worker.specs.Pins.{last_seen, pinned_by}
use Rattle.query_worker.specs.States.{worked_of}
use Rattle.query_worker.specs.Tally.{TurnEnds, IsIdle, tallied, with_miss, starved_in_row}
use Rattle.run_meaning.specs.Turn.{Turn, failed, unread, replied, silenced, starved, marks_of}
use Rattle.run_meaning.specs.Turn.{datagrams, starved_in, serials, NeverFall, total}
use Rattle.query_worker.specs.Worker.{TakesOne, AddsTurn, RunsUnder, pin_of}
use Rattle.run_meaning.specs.Workers.{Ending, last_row, last_unread, HasNoLongRow, NoneBehind}
use Rattle.run_meaning.specs.Workers.{AreTurns}

total-push : (count : Turn → ℕ) (turns : List Turn) (turn : Turn) → total count (turns ++ turn ∷ []) ≡ total count turns + count turn
total-push count [] turn = omega arith
total-push count (t ∷ turns) turn = omega (arith, total-push count turns turn)

all-push : {A : Type 0} (P : A → Type 0) (items : List A) (item : A) → AllByRecursion P items → P item → AllByRecursion P (items ++ item ∷ [])
all-push P [] item each here = (here, tt)
all-push P (i ∷ items) item each here = (each.0, all-push P items item each.1 here)

marks-push : (turns : List Turn) (turn : Turn) → flat_map marks_of (turns ++ turn ∷ []) ≡ flat_map marks_of turns ++ marks_of turn
marks-push turns turn =
    flat_map-append marks_of turns (turn ∷ []) ∙ ap (λ (l : List Mark). flat_map marks_of turns ++ l) (flat_map-cons marks_of turn [] ∙ append-nil (marks_of turn))

serials-push : (turns : List Turn) (turn : Turn) → flat_map serials (turns ++ turn ∷ []) ≡ flat_map serials turns ++ serials turn
serials-push turns turn =
    flat_map-append serials turns (turn ∷ []) ∙ ap (λ (l : List ℕ). flat_map serials turns ++ l) (flat_map-cons serials turn [] ∙ append-nil (serials turn))

never_fall-push : (from number : ℕ) (numbers : List ℕ) → NeverFall from numbers → AllByRecursion (λ n. n ≤ number) numbers → from ≤ number → NeverFall from (numbers ++ number ∷ [])
never_fall-push from number [] rise below le = (le, tt)
never_fall-push from number (n ∷ numbers) rise below le = (rise.0, never_fall-push n number numbers rise.1 below.1 below.0)

-- a receive that gave no datagram
abbrev IsMiss : Turn → Type 0
IsMiss failed = Unit {0}
IsMiss unread = Unit {0}
IsMiss (replied s d m r o) = ⊥
IsMiss (silenced s d m w) = ⊥
IsMiss (starved s d m) = ⊥

serials_missed : (turn : Turn) → IsMiss turn → serials turn ≡ []
serials_missed failed is = refl
serials_missed unread is = refl
serials_missed (replied s d m r o) is = absurd is
serials_missed (silenced s d m w) is = absurd is
serials_missed (starved s d m) is = absurd is

datagrams_missed : (turn : Turn) → IsMiss turn → datagrams turn ≡ 0
datagrams_missed failed is = refl
datagrams_missed unread is = refl
datagrams_missed (replied s d m r o) is = absurd is
datagrams_missed (silenced s d m w) is = absurd is
datagrams_missed (starved s d m) is = absurd is

-- a receive that gave no datagram makes the row longer by one
row_missed : (row : ℕ) (turns : List Turn) (turn : Turn) → IsMiss turn → last_row row (turns ++ turn ∷ []) ≡ last_row row turns + 1
row_missed row [] failed is = refl
row_missed row [] unread is = refl
row_missed row [] (replied s d m r o) is = absurd is
row_missed row [] (silenced s d m w) is = absurd is
row_missed row [] (starved s d m) is = absurd is
row_missed row (failed ∷ turns) turn is = row_missed (row + 1) turns turn is
row_missed row (unread ∷ turns) turn is = row_missed (row + 1) turns turn is
row_missed row (replied s d m r o ∷ turns) turn is = row_missed 0 turns turn is
row_missed row (silenced s d m w ∷ turns) turn is = row_missed 0 turns turn is
row_missed row (starved s d m ∷ turns) turn is = row_missed 0 turns turn is

no_row_missed : (row : ℕ) (turns : List Turn) (turn : Turn) → IsMiss turn → HasNoLongRow row turns → last_row row turns + 1 < 64 → HasNoLongRow row (turns ++ turn ∷ [])
no_row_missed row [] failed is short few = (few, tt)
no_row_missed row [] unread is short few = (few, tt)
no_row_missed row [] (replied s d m r o) is short few = absurd is
no_row_missed row [] (silenced s d m w) is short few = absurd is
no_row_missed row [] (starved s d m) is short few = absurd is
no_row_missed row (failed ∷ turns) turn is short few = (short.0, no_row_missed (row + 1) turns turn is short.1 few)
no_row_missed row (unread ∷ turns) turn is short few = (short.0, no_row_missed (row + 1) turns turn is short.1 few)
no_row_missed row (replied s d m r o ∷ turns) turn is short few = no_row_missed 0 turns turn is short few
no_row_missed row (silenced s d m w ∷ turns) turn is short few = no_row_missed 0 turns turn is short few
no_row_missed row (starved s d m ∷ turns) turn is short few = no_row_missed 0 turns turn is short few

-- how much of the row met want of memory, behind one that failed and behind one that met it
unread_failed : (met : ℕ) (turns : List Turn) → last_unread met (turns ++ failed ∷ []) ≡ last_unread met turns
unread_failed met [] = refl
unread_failed met (failed ∷ turns) = unread_failed met turns
unread_failed met (unread ∷ turns) = unread_failed (met + 1) turns
unread_failed met (replied s d m r o ∷ turns) = unread_failed 0 turns
unread_failed met (silenced s d m w ∷ turns) = unread_failed 0 turns
unread_failed met (starved s d m ∷ turns) = unread_failed 0 turns

unread_more : (met : ℕ) (turns : List Turn) → last_unread met (turns ++ unread ∷ []) ≡ last_unread met turns + 1
unread_more met [] = refl
unread_more met (failed ∷ turns) = unread_more met turns
unread_more met (unread ∷ turns) = unread_more (met + 1) turns
unread_more met (replied s d m r o ∷ turns) = unread_more 0 turns
unread_more met (silenced s d m w ∷ turns) = unread_more 0 turns
unread_more met (starved s d m ∷ turns) = unread_more 0 turns

-- where fewer than `most` datagrams were taken, no receive came behind the last one, nor does a further one
none_behind : (most taken : ℕ) (turns : List Turn) → taken + total datagrams turns < most → NoneBehind most taken turns
none_behind most taken [] few = tt
none_behind most taken (turn ∷ turns) few = (omega (arith, few), none_behind most (taken + datagrams turn) turns (omega (arith, few)))

none_behind-push : (most taken : ℕ) (turns : List Turn) (turn : Turn) → taken + total datagrams turns < most → NoneBehind most taken (turns ++ turn ∷ [])
none_behind-push most taken [] turn few = (omega (arith, few), tt)
none_behind-push most taken (t ∷ turns) turn few = (omega (arith, few), none_behind-push most (taken + datagrams t) turns turn (omega (arith, few)))

-- what is at most one number is at most a greater one
all_below : (a b : ℕ) (numbers : List ℕ) → a ≤ b → AllByRecursion (λ n. n ≤ a) numbers → AllByRecursion (λ n. n ≤ b) numbers
all_below a b [] le below = tt
all_below a b (n ∷ numbers) le below = (omega (arith, le, below.0), all_below a b numbers le below.1)

-- no serial was pinned
missed_serials : (turns : List Turn) (turn : Turn) → IsMiss turn → flat_map serials (turns ++ turn ∷ []) ≡ flat_map serials turns
missed_serials turns turn is = serials-push turns turn ∙ ap (λ (l : List ℕ). flat_map serials turns ++ l) (serials_missed turn is) ∙ append-nil (flat_map serials turns)

-- what is counted behind such a receive
abbrev missed_tally : Tally → ℕ → Bool → Tally
missed_tally t starving flag = record { pins = t.pins; seen = t.seen; starved = starving; failures = t.failures + 1; has_starved = flag }

module _ {B E : Type 0} {bk : rulebook.Ghosts B} {ex : extra.Ghosts E} where
  -- a turn under a pin takes one datagram, under its serial
  serials_by : (pin : PastPin (Chain B E bk ex)) (turn : Turn) → IsByPin pin turn → serials turn ≡ pin.serial ∷ []
  serials_by pin failed is = absurd is
  serials_by pin unread is = absurd is
  serials_by pin (replied s d m r o) is = ap (λ (n : ℕ). n ∷ []) (sym is.serial_is)
  serials_by pin (silenced s d m w) is = ap (λ (n : ℕ). n ∷ []) (sym is.serial_is)
  serials_by pin (starved s d m) is = ap (λ (n : ℕ). n ∷ []) (sym is.serial_is)

  datagrams_by : (pin : PastPin (Chain B E bk ex)) (turn : Turn) → IsByPin pin turn → datagrams turn ≡ 1
  datagrams_by pin failed is = absurd is
  datagrams_by pin unread is = absurd is
  datagrams_by pin (replied s d m r o) is = refl
  datagrams_by pin (silenced s d m w) is = refl
  datagrams_by pin (starved s d m) is = refl

  -- it is one of the pass's pins
  of_pass_by : (pin : PastPin (Chain B E bk ex)) (pins : List (PastPin (Chain B E bk ex))) (turn : Turn) → IsByPin pin turn → IsOfPass (pin ∷ pins) turn
  of_pass_by pin pins failed is = tt
  of_pass_by pin pins unread is = tt
  of_pass_by pin pins (replied s d m r o) is = inl is
  of_pass_by pin pins (silenced s d m w) is = inl is
  of_pass_by pin pins (starved s d m) is = inl is

  -- with one pin more
  of_pass_more : (pin : PastPin (Chain B E bk ex)) (pins : List (PastPin (Chain B E bk ex))) (turn : Turn) → IsOfPass pins turn → IsOfPass (pin ∷ pins) turn
  of_pass_more pin pins failed is = tt
  of_pass_more pin pins unread is = tt
  of_pass_more pin pins (replied s d m r o) is = inr is
  of_pass_more pin pins (silenced s d m w) is = inr is
  of_pass_more pin pins (starved s d m) is = inr is

  -- a further turn, under a further pin
  under-took : (pins : List (PastPin (Chain B E bk ex))) (turns : List Turn) (pin : PastPin (Chain B E bk ex)) (turn : Turn) → TakeUnder pins turns → IsByPin pin turn → TakeUnder (pins ++ pin ∷ []) (turns ++ turn ∷ [])
  under-took [] [] pin failed under is = absurd is
  under-took [] [] pin unread under is = absurd is
  under-took [] [] pin (replied s d m r o) under is = (is, tt)
  under-took [] [] pin (silenced s d m w) under is = (is, tt)
  under-took [] [] pin (starved s d m) under is = (is, tt)
  under-took (p ∷ pins) [] pin turn under is = absurd under
  under-took [] (failed ∷ turns) pin turn under is = under-took [] turns pin turn under is
  under-took [] (unread ∷ turns) pin turn under is = under-took [] turns pin turn under is
  under-took [] (replied s d m r o ∷ turns) pin turn under is = absurd under
  under-took [] (silenced s d m w ∷ turns) pin turn under is = absurd under
  under-took [] (starved s d m ∷ turns) pin turn under is = absurd under
  under-took (p ∷ pins) (failed ∷ turns) pin turn under is = under-took (p ∷ pins) turns pin turn under is
  under-took (p ∷ pins) (unread ∷ turns) pin turn under is = under-took (p ∷ pins) turns pin turn under is
  under-took (p ∷ pins) (replied s d m r o ∷ turns) pin turn under is = (under.0, under-took pins turns pin turn under.1 is)
  under-took (p ∷ pins) (silenced s d m w ∷ turns) pin turn under is = (under.0, under-took pins turns pin turn under.1 is)
  under-took (p ∷ pins) (starved s d m ∷ turns) pin turn under is = (under.0, under-took pins turns pin turn under.1 is)

  of_pass_missed : (pins : List (PastPin (Chain B E bk ex))) (turn : Turn) → IsMiss turn → IsOfPass pins turn
  of_pass_missed pins failed is = tt
  of_pass_missed pins unread is = tt
  of_pass_missed pins (replied s d m r o) is = absurd is
  of_pass_missed pins (silenced s d m w) is = absurd is
  of_pass_missed pins (starved s d m) is = absurd is

  under-missed : (pins : List (PastPin (Chain B E bk ex))) (turns : List Turn) (turn : Turn) → IsMiss turn → TakeUnder pins turns → TakeUnder pins (turns ++ turn ∷ [])
  under-missed [] [] failed is under = tt
  under-missed [] [] unread is under = tt
  under-missed [] [] (replied s d m r o) is under = absurd is
  under-missed [] [] (silenced s d m w) is under = absurd is
  under-missed [] [] (starved s d m) is under = absurd is
  under-missed (p ∷ pins) [] turn is under = absurd under
  under-missed [] (failed ∷ turns) turn is under = under-missed [] turns turn is under
  under-missed [] (unread ∷ turns) turn is under = under-missed [] turns turn is under
  under-missed [] (replied s d m r o ∷ turns) turn is under = absurd under
  under-missed [] (silenced s d m w ∷ turns) turn is under = absurd under
  under-missed [] (starved s d m ∷ turns) turn is under = absurd under
  under-missed (p ∷ pins) (failed ∷ turns) turn is under = under-missed (p ∷ pins) turns turn is under
  under-missed (p ∷ pins) (unread ∷ turns) turn is under = under-missed (p ∷ pins) turns turn is under
  under-missed (p ∷ pins) (replied s d m r o ∷ turns) turn is under = (under.0, under-missed pins turns turn is under.1)
  under-missed (p ∷ pins) (silenced s d m w ∷ turns) turn is under = (under.0, under-missed pins turns turn is under.1)
  under-missed (p ∷ pins) (starved s d m ∷ turns) turn is under = (under.0, under-missed pins turns turn is under.1)

  -- behind a turn that took a datagram no row is left
  row_by : (row : ℕ) (turns : List Turn) (pin : PastPin (Chain B E bk ex)) (turn : Turn) → IsByPin pin turn → last_row row (turns ++ turn ∷ []) ≡ 0
  row_by row [] pin failed is = absurd is
  row_by row [] pin unread is = absurd is
  row_by row [] pin (replied s d m r o) is = refl
  row_by row [] pin (silenced s d m w) is = refl
  row_by row [] pin (starved s d m) is = refl
  row_by row (failed ∷ turns) pin turn is = row_by (row + 1) turns pin turn is
  row_by row (unread ∷ turns) pin turn is = row_by (row + 1) turns pin turn is
  row_by row (replied s d m r o ∷ turns) pin turn is = row_by 0 turns pin turn is
  row_by row (silenced s d m w ∷ turns) pin turn is = row_by 0 turns pin turn is
  row_by row (starved s d m ∷ turns) pin turn is = row_by 0 turns pin turn is

  unread_by : (met : ℕ) (turns : List Turn) (pin : PastPin (Chain B E bk ex)) (turn : Turn) → IsByPin pin turn → last_unread met (turns ++ turn ∷ []) ≡ 0
  unread_by met [] pin failed is = absurd is
  unread_by met [] pin unread is = absurd is
  unread_by met [] pin (replied s d m r o) is = refl
  unread_by met [] pin (silenced s d m w) is = refl
  unread_by met [] pin (starved s d m) is = refl
  unread_by met (failed ∷ turns) pin turn is = unread_by met turns pin turn is
  unread_by met (unread ∷ turns) pin turn is = unread_by (met + 1) turns pin turn is
  unread_by met (replied s d m r o ∷ turns) pin turn is = unread_by 0 turns pin turn is
  unread_by met (silenced s d m w ∷ turns) pin turn is = unread_by 0 turns pin turn is
  unread_by met (starved s d m ∷ turns) pin turn is = unread_by 0 turns pin turn is

  no_row_by : (row : ℕ) (turns : List Turn) (pin : PastPin (Chain B E bk ex)) (turn : Turn) → HasNoLongRow row turns → IsByPin pin turn → HasNoLongRow row (turns ++ turn ∷ [])
  no_row_by row [] pin failed short is = absurd is
  no_row_by row [] pin unread short is = absurd is
  no_row_by row [] pin (replied s d m r o) short is = tt
  no_row_by row [] pin (silenced s d m w) short is = tt
  no_row_by row [] pin (starved s d m) short is = tt
  no_row_by row (failed ∷ turns) pin turn short is = (short.0, no_row_by (row + 1) turns pin turn short.1 is)
  no_row_by row (unread ∷ turns) pin turn short is = (short.0, no_row_by (row + 1) turns pin turn short.1 is)
  no_row_by row (replied s d m r o ∷ turns) pin turn short is = no_row_by 0 turns pin turn short is
  no_row_by row (silenced s d m w ∷ turns) pin turn short is = no_row_by 0 turns pin turn short is
  no_row_by row (starved s d m ∷ turns) pin turn short is = no_row_by 0 turns pin turn short is

  -- marks that are known are those that were added
  adds_just : {a b : SideState} {q r : PassView (Chain B E bk ex)} {known : List Mark} → Grows a b (λ marks. (marks ≡ known) × (r ≡ q)) → Adds a b known
  adds_just {a} {b} grows = subst (Adds a b) grows.are.0 grows.told

  -- what a worker did since its side's journal stood at old, by what its pass knows and what it counted
  pub record HasWorked (old new : SideState) (q : PassView (Chain B E bk ex)) (t : Tally) : Type 0 where
    pub turns : List Turn
    pub told : Adds old new (flat_map marks_of turns)
    pub are : AreTurns (IsOfPass q.turns) t.pins t.starved turns
    pub under : TakeUnder (reverse q.turns) turns
    pub seen : AllByRecursion (λ n. n ≤ t.seen) (flat_map serials turns)
    pub counts : CountsPins t q
    pub pinned : flat_map serials turns ≡ reverse (pinned_by q)
    pub settled : q.taken ≡ None
    pub no_row : HasNoLongRow 0 turns
    pub before_last : (most : ℕ) → t.pins ≤ most → t.failures ≡ 0 → NoneBehind most 0 turns
    pub row : last_row 0 turns ≡ t.failures
    pub met : t.has_starved ≡ true → 0 < last_unread 0 turns
    pub unmet : t.has_starved ≡ false → last_unread 0 turns ≡ 0

  -- nothing yet
  pub starts : (a : SideState) (q : PassView (Chain B E bk ex)) (t : Tally) → IsIdle t → q.turns ≡ [] → q.taken ≡ None → 0 < q.seen → HasWorked a a q t
  starts a q t idle unused settled some = subst (HasWorked a a q) (sym idle) (record {
    turns = [];
    told = adds-nothing a;
    are = record { lawful_are = tt; in_order = tt; datagrams_are = refl; starved_are = refl };
    under = subst (λ (l : List (PastPin (Chain B E bk ex))). TakeUnder (reverse l) []) (sym unused) tt;
    seen = tt;
    counts = record { pins = ap length unused; seen = ap (λ (l : List (PastPin (Chain B E bk ex))). last_seen (map (λ (p : PastPin (Chain B E bk ex)). p.serial) l)) (sym unused); last = λ e. absurd (omega (arith, e)); none = λ e. refl; within = omega (arith, some) };
    pinned = ap (λ (l : List (PastPin (Chain B E bk ex))). reverse (map (λ (p : PastPin (Chain B E bk ex)). p.serial) l)) (sym unused);
    settled = settled;
    no_row = tt;
    before_last = λ most le none. tt;
    row = refl;
    met = λ e. absurd cc;
    unmet = λ e. refl;
  })

  -- a turn that took a datagram
  takes : {a b c : SideState} {q r : PassView (Chain B E bk ex)} {t : Tally} (s want : ℕ) → HasWorked a b q t → Grows b c (TakesOne q r s want)
      → HasWorked a c r (record { pins = t.pins + 1; seen = s; starved = t.starved + want; failures = 0; has_starved = false })
  takes {a} {b} {c} {q} {r} {t} s want w grows =
      let one = grows.are in
      let turn = one.turn in
      let pin : PastPin (Chain B E bk ex) = pin_of s one.chain one.home in
      let later : t.seen ≤ s = let within = w.counts.within in let newest = one.newest in omega (arith, within, newest) in
      let below = all_below t.seen s (flat_map serials w.turns) later w.seen in
      let same : flat_map marks_of w.turns ++ grows.marks ≡ flat_map marks_of (w.turns ++ turn ∷ []) =
      ap (λ (l : List Mark). flat_map marks_of w.turns ++ l) one.told ∙ sym (marks-push w.turns turn) in
      let serials_are : flat_map serials (w.turns ++ turn ∷ []) ≡ flat_map serials w.turns ++ s ∷ [] =
      serials-push w.turns turn ∙ ap (λ (l : List ℕ). flat_map serials w.turns ++ l) (serials_by pin turn one.by_pin) in
      let counted = w.counts.pins in
      subst (λ (x : PassView (Chain B E bk ex)). HasWorked a c x (record { pins = t.pins + 1; seen = s; starved = t.starved + want; failures = 0; has_starved = false })) (sym one.pass) (record {
        turns = w.turns ++ turn ∷ [];
        told = subst (Adds a c) same (adds-then w.told grows.told);
        are = record {
          lawful_are = all-push (IsOfPass (pin ∷ q.turns)) w.turns turn (all_as (IsOfPass q.turns) (IsOfPass (pin ∷ q.turns)) (of_pass_more pin q.turns) w.turns w.are.lawful_are)
              (of_pass_by pin q.turns turn one.by_pin);
          in_order = rw serials_are (never_fall-push 0 s (flat_map serials w.turns) w.are.in_order below (omega arith));
          datagrams_are = omega (arith, total-push datagrams w.turns turn, w.are.datagrams_are, datagrams_by pin turn one.by_pin);
          starved_are = omega (arith, total-push starved_in w.turns turn, w.are.starved_are, one.starved_are);
        };
        under = subst (λ (l : List (PastPin (Chain B E bk ex))). TakeUnder l (w.turns ++ turn ∷ [])) (sym (reverse-append (pin ∷ []) q.turns)) (under-took (reverse q.turns) w.turns pin turn w.under one.by_pin);
        seen = rw serials_are (all-push (λ n. n ≤ s) (flat_map serials w.turns) s below (omega arith));
        counts = record { pins = omega (arith, counted); seen = refl; last = λ e. refl; none = λ e. absurd (omega (arith, e)); within = omega arith };
        pinned = serials_are ∙ ap (λ (l : List ℕ). l ++ s ∷ []) w.pinned ∙ sym (reverse-append (s ∷ []) (pinned_by q));
        settled = refl;
        no_row = no_row_by 0 w.turns pin turn w.no_row one.by_pin;
        before_last = λ most le none. none_behind-push most 0 w.turns turn (omega (arith, le, w.are.datagrams_are));
        row = row_by 0 w.turns pin turn one.by_pin;
        met = λ e. absurd cc;
        unmet = λ e. unread_by 0 w.turns pin turn one.by_pin;
      })

  missed_are : (pins : List (PastPin (Chain B E bk ex))) {taken starving after : ℕ} (turns : List Turn) (turn : Turn) → IsMiss turn → starving + starved_in turn ≡ after → AreTurns (IsOfPass pins) taken starving turns
      → AreTurns (IsOfPass pins) taken after (turns ++ turn ∷ [])
  missed_are pins turns turn is same are =
      let serials_are : flat_map serials (turns ++ turn ∷ []) ≡ flat_map serials turns = missed_serials turns turn is in
      record {
        lawful_are = all-push (IsOfPass pins) turns turn are.lawful_are (of_pass_missed pins turn is);
        in_order = rw serials_are are.in_order;
        datagrams_are = omega (arith, total-push datagrams turns turn, are.datagrams_are, datagrams_missed turn is);
        starved_are = omega (arith, total-push starved_in turns turn, are.starved_are, same);
      }

  -- what a worker did, whose last receive gave no datagram
  record HasMissed (old new : SideState) (q : PassView (Chain B E bk ex)) (t : Tally) : Type 0 where
    pub before : List Turn
    pub last : Turn
    pub told : Adds old new (flat_map marks_of (before ++ last ∷ []))
    pub are : AreTurns (IsOfPass q.turns) t.pins t.starved (before ++ last ∷ [])
    pub under : TakeUnder (reverse q.turns) (before ++ last ∷ [])
    pub seen : AllByRecursion (λ n. n ≤ t.seen) (flat_map serials (before ++ last ∷ []))
    pub counts : CountsPins t q
    pub pinned : flat_map serials (before ++ last ∷ []) ≡ reverse (pinned_by q)
    pub settled : q.taken ≡ None
    pub first : HasNoLongRow 0 before
    pub missed : 0 < t.failures
    pub short : t.failures < 64 → HasNoLongRow 0 (before ++ last ∷ [])
    pub row : last_row 0 (before ++ last ∷ []) ≡ t.failures
    pub met : t.has_starved ≡ true → 0 < last_unread 0 (before ++ last ∷ [])
    pub unmet : t.has_starved ≡ false → last_unread 0 (before ++ last ∷ []) ≡ 0

  misses : {a b c : SideState} {q : PassView (Chain B E bk ex)} {t : Tally} (turn : Turn) (starving : ℕ) (flag : Bool) → IsMiss turn → (w : HasWorked a b q t) → Adds b c (marks_of turn) → t.starved + starved_in turn ≡ starving
      → (flag ≡ true → 0 < last_unread 0 (w.turns ++ turn ∷ [])) → (flag ≡ false → last_unread 0 (w.turns ++ turn ∷ []) ≡ 0)
      → HasMissed a c q (missed_tally t starving flag)
  misses {a} {b} {c} {q} {t} turn starving flag is w adds want met unmet = record {
    before = w.turns;
    last = turn;
    told = subst (Adds a c) (sym (marks-push w.turns turn)) (adds-then w.told adds);
    are = missed_are q.turns w.turns turn is want w.are;
    under = under-missed (reverse q.turns) w.turns turn is w.under;
    seen = rw (missed_serials w.turns turn is) w.seen;
    counts = record { pins = w.counts.pins; seen = w.counts.seen; last = w.counts.last; none = w.counts.none; within = w.counts.within };
    pinned = missed_serials w.turns turn is ∙ w.pinned;
    settled = w.settled;
    first = w.no_row;
    missed = omega arith;
    short = λ few. no_row_missed 0 w.turns turn is w.no_row (omega (arith, w.row, few));
    row = omega (arith, w.row, row_missed 0 w.turns turn is);
    met = met;
    unmet = unmet;
  }

  -- a receive that failed, and one that met want of memory
  fails : {a b c : SideState} {q : PassView (Chain B E bk ex)} {t : Tally} → HasWorked a b q t → Adds b c (RecvFailed ∷ []) → HasMissed a c q (with_miss t)
  fails {t = t} w adds =
      misses failed t.starved t.has_starved tt w adds (omega arith) (λ e. let met = w.met e in omega (arith, met, unread_failed 0 w.turns)) (λ e. let none = w.unmet e in omega (arith, none, unread_failed 0 w.turns))

  meets_want : {a b c : SideState} {q : PassView (Chain B E bk ex)} {t : Tally} → HasWorked a b q t → Adds b c [] → HasMissed a c q (with_miss (starved_in_row t))
  meets_want {t = t} w adds = misses unread (t.starved + 1) true tt w adds refl (λ e. omega (arith, unread_more 0 w.turns)) (λ e. absurd cc)

  -- the row is not long yet
  still : {a c : SideState} {q : PassView (Chain B E bk ex)} {t : Tally} → HasMissed a c q t → t.failures < 64 → HasWorked a c q t
  still m few = record {
    turns = m.before ++ m.last ∷ [];
    told = m.told;
    are = m.are;
    under = m.under;
    seen = m.seen;
    counts = m.counts;
    pinned = m.pinned;
    settled = m.settled;
    no_row = m.short few;
    before_last = λ most le none. absurd (omega (arith, none, m.missed));
    row = m.row;
    met = m.met;
    unmet = m.unmet;
  }

  -- a worker's run that has ended
  pub record Stopped (most : ℕ) (a c : SideState) (q : PassView (Chain B E bk ex)) (t : Tally) (end : WorkEnd) : Type 0 where
    pub run : Grows a c (RunsUnder q.turns most (worked_of t end))
    pub counts : CountsPins t q
    pub settled : q.taken ≡ None

  -- the turns, and what the journal has behind them
  closes : {most : ℕ} {a c : SideState} {q : PassView (Chain B E bk ex)} {t : Tally} {end : WorkEnd} {marks : List Mark} (turns : List Turn) (ending : List Mark) → Adds a c marks
      → marks ≡ flat_map marks_of turns ++ ending → AreTurns (IsOfPass q.turns) t.pins t.starved turns → TakeUnder (reverse q.turns) turns → AllByRecursion (λ n. n ≤ t.seen) (flat_map serials turns)
      → CountsPins t q → flat_map serials turns ≡ reverse (pinned_by q) → q.taken ≡ None → NoneBehind most 0 turns → t.pins ≤ most → Ending most (worked_of t end) turns end ending → Stopped most a c q t end
  closes {marks = marks} turns ending adds told are under seen counts pinned settled behind le ends = record {
    run = record {
      marks = marks;
      told = adds;
      are = record { run = record { turns = turns; ending = ending; told = told; are = are; at_most = le; none_behind = behind; pinned_are = pinned; seen_all = seen; ends = ends }; under = under };
    };
    counts = counts;
    settled = settled;
  }

  -- the side's end
  ends_with : {most : ℕ} {a b c : SideState} {q : PassView (Chain B E bk ex)} {t : Tally} → HasWorked a b q t → Adds b c (RecvEnd ∷ []) → t.pins < most → Stopped most a c q t ends.End
  ends_with {most} w adds more =
      closes w.turns (RecvEnd ∷ []) (adds-then w.told adds) refl w.are w.under w.seen w.counts w.pinned w.settled (none_behind most 0 w.turns (omega (arith, more, w.are.datagrams_are))) (omega (arith, more)) (w.no_row, inl (refl, more))

  -- the last datagram was taken
  takes_last : {most : ℕ} {a b : SideState} {q : PassView (Chain B E bk ex)} {t : Tally} → HasWorked a b q t → t.failures ≡ 0 → t.pins ≡ most → Stopped most a b q t ends.End
  takes_last {most} w none last =
      closes w.turns [] w.told (sym (append-nil (flat_map marks_of w.turns))) w.are w.under w.seen w.counts w.pinned w.settled (w.before_last most (omega (arith, last)) none) (omega (arith, last)) (w.no_row, inr (refl, last))

  -- the 64th receive in a row gave no datagram, and none of these met want of memory
  fails_last : {most : ℕ} {a c : SideState} {q : PassView (Chain B E bk ex)} {t : Tally} → HasMissed a c q t → t.failures ≡ 64 → t.has_starved ≡ false → t.pins < most → Stopped most a c q t ends.RecvFailed
  fails_last {most} {t = t} m last none_starved more =
      closes {t = t} (m.before ++ m.last ∷ []) [] m.told (sym (append-nil (flat_map marks_of (m.before ++ m.last ∷ [])))) m.are m.under m.seen m.counts m.pinned m.settled
      (none_behind most 0 (m.before ++ m.last ∷ []) (omega (arith, more, m.are.datagrams_are))) (omega (arith, more))
      (record { before = m.before; last = m.last; turns_are = refl; first = m.first; row = m.row ∙ last; met = m.unmet none_starved }, refl)

  -- the 64th receive in a row gave no datagram, and one of these met want of memory
  starves_last : {most : ℕ} {a c : SideState} {q : PassView (Chain B E bk ex)} {t : Tally} → HasMissed a c q t → t.failures ≡ 64 → t.has_starved ≡ true → t.pins < most → Stopped most a c q t ends.NoMemory
  starves_last {most} {t = t} m last has_starved more =
      closes {t = t} (m.before ++ m.last ∷ []) [] m.told (sym (append-nil (flat_map marks_of (m.before ++ m.last ∷ [])))) m.are m.under m.seen m.counts m.pinned m.settled
      (none_behind most 0 (m.before ++ m.last ∷ []) (omega (arith, more, m.are.datagrams_are))) (omega (arith, more))
      (record { before = m.before; last = m.last; turns_are = refl; first = m.first; row = m.row ∙ last; met = m.met has_starved }, refl)

  -- a turn that starved at no query
  takes_one : {a b c : SideState} {q r : PassView (Chain B E bk ex)} {t : Tally} (s : ℕ) → HasWorked a b q t → Grows b c (TakesOne q r s 0)
      → HasWorked a c r (record { pins = t.pins + 1; seen = s; starved = t.starved; failures = 0; has_starved = false })
  takes_one {a} {b} {c} {q} {r} {t} s w grows =
      subst (λ (n : ℕ). HasWorked a c r (record { pins = t.pins + 1; seen = s; starved = n; failures = 0; has_starved = false })) (add-zero t.starved) (takes s 0 w grows)

  -- a turn that made no pin
  no_pin : (P : PassView (Chain B E bk ex) → Type 0) {a b : SideState} {q r : PassView (Chain B E bk ex)} {known : List Mark} → Grows a b (λ marks. (marks ≡ known) × (r ≡ q)) → P q → P r
  no_pin P grows is = subst P (sym grows.are.1) is

  -- a turn that isn't the last
  pub goes_on : {a b c : SideState} {q r : PassView (Chain B E bk ex)} {t : Tally} (most : ℕ) (what : Turned) → HasWorked a b q t → Grows b c (AddsTurn q r what) → TurnEnds most what (tallied what t) None
      → HasWorked a c r (tallied what t)
  goes_on most (turned.Answered s) w grows ends = takes_one s w grows
  goes_on most (turned.Starved s) w grows ends = takes s 1 w grows
  goes_on {a} {b} {c} {q} {r} {t} most turned.RecvFailed w grows ends = no_pin (λ x. HasWorked a c x (with_miss t)) grows (still (fails w (adds_just grows)) ends)
  goes_on {a} {b} {c} {q} {r} {t} most turned.RecvStarved w grows ends = no_pin (λ x. HasWorked a c x (with_miss (starved_in_row t))) grows (still (meets_want w (adds_just grows)) ends)
  goes_on most turned.RecvEnd w grows ends = absurd cc

  -- the last turn
  pub stops : {a b c : SideState} {q r : PassView (Chain B E bk ex)} {t : Tally} (most : ℕ) (what : Turned) (end : WorkEnd) → t.pins < most → HasWorked a b q t → Grows b c (AddsTurn q r what)
      → TurnEnds most what (tallied what t) (Some end) → Stopped most a c r (tallied what t) end
  stops most (turned.Answered s) ends.End more w grows last = takes_last (takes_one s w grows) refl last
  stops most (turned.Answered s) ends.RecvFailed more w grows last = absurd last
  stops most (turned.Answered s) ends.NoMemory more w grows last = absurd last
  stops most (turned.Starved s) ends.End more w grows last = takes_last (takes s 1 w grows) refl last
  stops most (turned.Starved s) ends.RecvFailed more w grows last = absurd last
  stops most (turned.Starved s) ends.NoMemory more w grows last = absurd last
  stops most turned.RecvFailed ends.End more w grows last = absurd last
  stops {a} {b} {c} {q} {r} {t} most turned.RecvFailed ends.RecvFailed more w grows last =
      no_pin (λ x. Stopped most a c x (with_miss t) ends.RecvFailed) grows (fails_last (fails w (adds_just grows)) last.0 last.1 (omega (arith, more)))
  stops {a} {b} {c} {q} {r} {t} most turned.RecvFailed ends.NoMemory more w grows last =
      no_pin (λ x. Stopped most a c x (with_miss t) ends.NoMemory) grows (starves_last (fails w (adds_just grows)) last.0 last.1 (omega (arith, more)))
  stops most turned.RecvStarved ends.End more w grows last = absurd last
  stops most turned.RecvStarved ends.RecvFailed more w grows last = absurd (let none_starved = last.1 in cc)
  stops {a} {b} {c} {q} {r} {t} most turned.RecvStarved ends.NoMemory more w grows last =
      no_pin (λ x. Stopped most a c x (with_miss (starved_in_row t)) ends.NoMemory) grows (starves_last (meets_want w (adds_just grows)) last.0 last.1 (omega (arith, more)))
  stops {a} {b} {c} {q} {r} {t} most turned.RecvEnd ends.End more w grows last = no_pin (λ x. Stopped most a c x t ends.End) grows (ends_with w (adds_just grows) (omega (arith, more)))
  stops most turned.RecvEnd ends.RecvFailed more w grows last = absurd cc
  stops most turned.RecvEnd ends.NoMemory more w grows last = absurd cc
