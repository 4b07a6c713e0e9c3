-- The slots and the events that led to them, behind each step.
use Rattle.std.specs.Prelude.{◌≡◌, ◌≢◌, ℕ, ◌+◌, ◌<◌, ◌≤◌, Bool, true, false, not, ◌&&◌, ◌==◌, List, ◌∷◌, length, map, take, refl, slice_set, count_by}
use Rattle.std.proofs.Common.{cond, ltb, sym, ap, ◌∙◌, subst, arith, length-set, eq-eqb}
use Rattle.std.proofs.Math.Logic.{dite}
use Rattle.std.proofs.Math.Decide.{ℕ_discrete}
use Rattle.std.proofs.lemmas.List.{get_or-set_same, get_or-set_other, get_or-map, get_or-replicate, get_or-take, get_or_past, length-map, length-replicate, length-take-le}
use Rattle.std.proofs.lemmas.List.Sums.{sum_by-cons, AllPass-from_list_all}
use Rattle.std.proofs.lemmas.Bool.{false≢true, ne_eqb, ltb-true, ltb-false}
use Rattle.pin_core.specs.declared.slots.Slot.{Slot}
use Rattle.pin_core.specs.declared.slots.Phase.{Phase}
use Rattle.pin_core.specs.declared.slots.Phase.TheVariants.{Free, Filling, Current, Replaced}
use Rattle.pin_core.specs.declared.slots.PinWorker.{PinWorker}
use Rattle.pin_core.specs.Slots.{no_marks, is_all, is_marked, with_mark, lacks, filled_phase, is_replaced, is_drainable, replaced_slot, replaced_phase, published_slot, pinned_phase, is_filled, ready_phase, drained_by}
use Rattle.pin_core.specs.Machine.{Machine, slot_at, count, with_slot, published_at, unused}
use Rattle.pin_core.specs.Laws.SoundLemmas.{one_if, at_slot}
use Rattle.pin_core.specs.Log.{Event, was_published, was_pinned, was_unpinned, was_drained, serial_in, is_drain_of, is_drain_in, is_publication_of, is_publication_in, drains, drains_in, publications, publications_in, is_undrained}

-- whether the slot has a published generation
abbrev pub is_kept : Phase → Bool
is_kept Free = false
is_kept (Filling marks) = false
is_kept (Current made) = true
is_kept (Replaced total ready drained) = true

-- the serial of a current generation is the last, that of a replaced one an earlier
abbrev pub IsNumbered : ℕ → ℕ → Phase → Type 0
IsNumbered published serial Free = Unit {0}
IsNumbered published serial (Filling marks) = Unit {0}
IsNumbered published serial (Current made) = serial + 1 ≡ published
IsNumbered published serial (Replaced total ready drained) = serial + 1 < published

-- there is a mark for each of 32 workers
abbrev pub IsWide : Phase → Type 0
IsWide Free = Unit {0}
IsWide (Filling marks) = Unit {0}
IsWide (Current made) = Unit {0}
IsWide (Replaced total ready drained) = length drained ≡ 32

-- the slots and the events that led to them
pub record IsPlaced (m : Machine) (events : List Event) : Type 0 where
  pub four : length m.slots ≡ 4
  pub numbered : (s : ℕ) → s < 4 → IsNumbered m.published (serial_in s events) (slot_at m s).phase
  pub distinct : (s t : ℕ) → s < 4 → t < 4 → is_kept (slot_at m s).phase ≡ true → is_kept (slot_at m t).phase ≡ true → serial_in s events ≡ serial_in t events → s ≡ t
  pub wide : (s : ℕ) → s < 4 → IsWide (slot_at m s).phase
  pub fresh : (s w : ℕ) → s < 4 → is_undrained w (slot_at m s).phase ≡ true → drains (serial_in s events) w events ≡ 0
  pub each : (s w : ℕ) → s < 4 → w < count m → drains_in s w events + one_if (is_undrained w (slot_at m s).phase) ≡ publications_in s events

pub counted : (p : Event → Bool) (e : Event) (es : List Event) → count_by p (e ∷ es) ≡ one_if (p e) + count_by p es
counted p e es = sum_by-cons (λ (z : Event). cond (p z) 1 0) e es

pub passed : (p : Event → Bool) (e : Event) (es : List Event) → p e ≡ false → count_by p (e ∷ es) ≡ count_by p es
passed p e es is = omega (arith, counted p e es, ap one_if is)

-- events that neither publish nor drain
pub record Alike (es fs : List Event) : Type 0 where
  pub serial : (t : ℕ) → serial_in t fs ≡ serial_in t es
  pub drains : (j w : ℕ) → drains j w fs ≡ drains j w es
  pub drains_in : (t w : ℕ) → drains_in t w fs ≡ drains_in t w es
  pub publications : (j : ℕ) → publications j fs ≡ publications j es
  pub publications_in : (t : ℕ) → publications_in t fs ≡ publications_in t es

pub alike_same : (es : List Event) → Alike es es
alike_same es = record { serial = λ t. refl; drains = λ j w. refl; drains_in = λ t w. refl; publications = λ j. refl; publications_in = λ t. refl }

pub alike_pin : (k : ℕ) (es : List Event) → Alike es (was_pinned k ∷ es)
alike_pin k es = record {
  serial = λ t. refl;
  drains = λ j w. passed (is_drain_of j w) (was_pinned k) es refl;
  drains_in = λ t w. passed (is_drain_in t w) (was_pinned k) es refl;
  publications = λ j. passed (is_publication_of j) (was_pinned k) es refl;
  publications_in = λ t. passed (is_publication_in t) (was_pinned k) es refl;
}

pub alike_unpin : (k : ℕ) (es : List Event) → Alike es (was_unpinned k ∷ es)
alike_unpin k es = record {
  serial = λ t. refl;
  drains = λ j w. passed (is_drain_of j w) (was_unpinned k) es refl;
  drains_in = λ t w. passed (is_drain_in t w) (was_unpinned k) es refl;
  publications = λ j. passed (is_publication_of j) (was_unpinned k) es refl;
  publications_in = λ t. passed (is_publication_in t) (was_unpinned k) es refl;
}

-- a phase that keeps its generation, and its drained workers
pub record Same (p q : Phase) : Type 0 where
  pub kept : is_kept q ≡ is_kept p
  pub undrained : (w : ℕ) → is_undrained w q ≡ is_undrained w p
  pub numbered : (n k : ℕ) → IsNumbered n k p → IsNumbered n k q
  pub wide : IsWide p → IsWide q

pub placed_same : (m : Machine) (s : ℕ) (y : Slot) (ws : List PinWorker) (es fs : List Event) → IsPlaced m es → s < 4 → length ws ≡ count m → Same (slot_at m s).phase y.phase → Alike es fs
    → IsPlaced (record { published = m.published; slots = slice_set m.slots s y; workers = ws }) fs
placed_same m s y ws es fs h in' long same alike =
    let here : s < length m.slots = omega (arith, h.four) in
    let new : Machine = record { published = m.published; slots = slice_set m.slots s y; workers = ws } in
    let kept = λ (t : ℕ). at_slot (λ i z. is_kept z.phase ≡ is_kept (slot_at m i).phase) m.slots s t y here same.kept (λ _. refl) in
    let undrained = λ (t w : ℕ). at_slot (λ i z. is_undrained w z.phase ≡ is_undrained w (slot_at m i).phase) m.slots s t y here (same.undrained w) (λ _. refl) in record {
      four = length-set m.slots s y ∙ h.four;
      numbered = λ t l. subst (λ (k : ℕ). IsNumbered m.published k (slot_at new t).phase) (sym (alike.serial t))
          (at_slot (λ i z. IsNumbered m.published (serial_in i es) z.phase) m.slots s t y here (same.numbered m.published (serial_in s es) (h.numbered s in')) (λ _. h.numbered t l));
      distinct = λ t u lt lu kt ku e. h.distinct t u lt lu (sym (kept t) ∙ kt) (sym (kept u) ∙ ku) (sym (alike.serial t) ∙ e ∙ alike.serial u);
      wide = λ t l. at_slot (λ _ z. IsWide z.phase) m.slots s t y here (same.wide (h.wide s in')) (λ _. h.wide t l);
      fresh = λ t w l un. ap (λ (k : ℕ). drains k w fs) (alike.serial t) ∙ alike.drains (serial_in t es) w ∙ h.fresh t w l (sym (undrained t w) ∙ un);
      each = λ t w l lw. omega (arith, alike.drains_in t w, ap one_if (undrained t w), alike.publications_in t, h.each t w l (omega arith));
    }

pub same_fill : (w : ℕ) (p : Phase) → lacks w p ≡ true → Same p (filled_phase w p)
same_fill w Free is = record { kept = refl; undrained = λ _. refl; numbered = λ _ _ _. tt; wide = λ _. tt }
same_fill w (Filling marks) is = record { kept = refl; undrained = λ _. refl; numbered = λ _ _ _. tt; wide = λ _. tt }
same_fill w (Current made) is = absurd (false≢true is)
same_fill w (Replaced total ready drained) is = absurd (false≢true is)

pub same_ready : (p : Phase) → is_replaced p ≡ true → Same p (ready_phase p)
same_ready Free is = absurd (false≢true is)
same_ready (Filling marks) is = absurd (false≢true is)
same_ready (Current made) is = absurd (false≢true is)
same_ready (Replaced total ready drained) is = record { kept = refl; undrained = λ _. refl; numbered = λ _ _ h. h; wide = λ h. h }

pub same_pin : (p : Phase) → Same p (pinned_phase p)
same_pin Free = record { kept = refl; undrained = λ _. refl; numbered = λ _ _ _. tt; wide = λ _. tt }
same_pin (Filling marks) = record { kept = refl; undrained = λ _. refl; numbered = λ _ _ _. tt; wide = λ _. tt }
same_pin (Current made) = record { kept = refl; undrained = λ _. refl; numbered = λ _ _ h. h; wide = λ _. tt }
same_pin (Replaced total ready drained) = record { kept = refl; undrained = λ _. refl; numbered = λ _ _ h. h; wide = λ h. h }

pub same_phase : (p : Phase) → Same p p
same_phase p = record { kept = refl; undrained = λ _. refl; numbered = λ _ _ h. h; wide = λ h. h }

-- the phase behind a lawful drain for the worker w, of n workers
pub record Drained (n w : ℕ) (p q : Phase) : Type 0 where
  pub kept : is_kept p ≡ true
  pub undrained : is_undrained w p ≡ true
  pub replaced : (published k : ℕ) → IsNumbered published k p → k + 1 < published
  pub numbered : (published k : ℕ) → IsNumbered published k p → IsNumbered published k q
  pub wide : IsWide p → IsWide q
  pub drained : is_undrained w q ≡ false
  pub less : (v : ℕ) → is_undrained v q ≡ true → is_undrained v p ≡ true
  pub others : (v : ℕ) → v < n → v ≢ w → is_undrained v q ≡ is_undrained v p

pub marked_same : (w : ℕ) (marks : List Bool) → w < length marks → is_marked w (with_mark w marks) ≡ true
marked_same w marks l = get_or-set_same marks w true false l

pub marked_other : (v w : ℕ) (marks : List Bool) → v ≢ w → is_marked v (with_mark w marks) ≡ is_marked v marks
marked_other v w marks ne = get_or-set_other marks w v true false ne

-- where each of n workers is marked, so is each one
pub all_marked : (n v : ℕ) (marks : List Bool) → n ≤ length marks → is_all n marks ≡ true → v < n → is_marked v marks ≡ true
all_marked n v marks long is l =
    sym (get_or-take n marks v false l) ∙ AllPass-from_list_all (λ (mark : Bool). mark) (take n marks) is v false (omega (arith, length-take-le n marks long))

pub drained_phase : (n w b e : ℕ) (p : Phase) → is_drainable w p ≡ true → w < n → n ≤ 32 → IsWide p → Drained n w p (drained_by n w (record { base = b; ended = e; phase = p }) p).phase
drained_phase n w b e Free is at few wide = absurd (false≢true is)
drained_phase n w b e (Filling marks) is at few wide = absurd (false≢true is)
drained_phase n w b e (Current made) is at few wide = absurd (false≢true is)
drained_phase n w b e (Replaced total false drained) is at few wide = absurd (false≢true is)
drained_phase n w b e (Replaced total true drained) is at few wide = by_all (is_all n (with_mark w drained)) refl
  where
    long : length (with_mark w drained) ≡ 32
    long = length-set drained w true ∙ wide

    mine : is_marked w (with_mark w drained) ≡ true
    mine = marked_same w drained (omega (arith, wide))

    fewer : (v : ℕ) → not (is_marked v (with_mark w drained)) ≡ true → not (is_marked v drained) ≡ true
    fewer v un = dite (ℕ_discrete v w)
        (λ e'. absurd (false≢true (ap not (sym mine) ∙ ap (λ (i : ℕ). not (is_marked i (with_mark w drained))) (sym e') ∙ un)))
        (λ ne. ap not (sym (marked_other v w drained ne)) ∙ un)

    by_all : (all : Bool) → is_all n (with_mark w drained) ≡ all
        → Drained n w (Replaced total true drained) (cond {A = Slot} all (record { base = e; ended = e; phase = Free }) (record { base = b; ended = e; phase = Replaced total true (with_mark w drained) })).phase
    by_all true e' = record {
      kept = refl;
      undrained = is;
      replaced = λ _ _ h. h;
      numbered = λ _ _ _. tt;
      wide = λ _. tt;
      drained = refl;
      less = λ v un. absurd (false≢true un);
      others = λ v l ne. sym (ap not (sym (marked_other v w drained ne) ∙ all_marked n v (with_mark w drained) (omega (arith, long)) e' l));
    }
    by_all false e' = record {
      kept = refl;
      undrained = is;
      replaced = λ _ _ h. h;
      numbered = λ _ _ h. h;
      wide = λ _. long;
      drained = ap not mine;
      less = fewer;
      others = λ v l ne. ap not (marked_other v w drained ne);
    }

pub and_false : (a : Bool) → (a && false) ≡ false
and_false true = refl
and_false false = refl

-- a drain of another serial, or for another worker, doesn't count
pub other_serial : (j k v w s : ℕ) → k ≢ j → is_drain_of j v (was_drained s k w) ≡ false
other_serial j k v w s ne = ap (λ b. b && (w == v)) (ne_eqb k j ne)

pub other_worker : (j k v w s : ℕ) → w ≢ v → is_drain_of j v (was_drained s k w) ≡ false
other_worker j k v w s ne = ap (λ b. (k == j) && b) (ne_eqb w v ne) ∙ and_false (k == j)

pub kept_undrained : (w : ℕ) (p : Phase) → is_undrained w p ≡ true → is_kept p ≡ true
kept_undrained w Free un = absurd (false≢true un)
kept_undrained w (Filling marks) un = absurd (false≢true un)
kept_undrained w (Current made) un = refl
kept_undrained w (Replaced total ready drained) un = refl

pub placed_drain : (m : Machine) (s w : ℕ) (y : Slot) (es : List Event) → IsPlaced m es → s < 4 → w < count m → Drained (count m) w (slot_at m s).phase y.phase
    → IsPlaced (with_slot m s y) (was_drained s (serial_in s es) w ∷ es)
placed_drain m s w y es h in' at d =
    let k = serial_in s es in
    let e = was_drained s k w in
    let fs = e ∷ es in
    let here : s < length m.slots = omega (arith, h.four) in
    let new = with_slot m s y in
    let kept = λ (t : ℕ). at_slot (λ i z. is_kept z.phase ≡ true → is_kept (slot_at m i).phase ≡ true) m.slots s t y here (λ _. d.kept) (λ _ x. x) in
    record {
      four = length-set m.slots s y ∙ h.four;
      numbered = λ t l. at_slot (λ i z. IsNumbered m.published (serial_in i es) z.phase) m.slots s t y here (d.numbered m.published k (h.numbered s in')) (λ _. h.numbered t l);
      distinct = λ t u lt lu kt ku same. h.distinct t u lt lu (kept t kt) (kept u ku) same;
      wide = λ t l. at_slot (λ _ z. IsWide z.phase) m.slots s t y here (d.wide (h.wide s in')) (λ _. h.wide t l);
      fresh = λ t v l. at_slot (λ i z. is_undrained v z.phase ≡ true → drains (serial_in i es) v fs ≡ 0) m.slots s t y here
          (λ un. let ne : w ≢ v = λ (same : w ≡ v). false≢true (sym d.drained ∙ ap (λ i. is_undrained i y.phase) same ∙ un) in
          passed (is_drain_of k v) e es (other_worker k k v w s ne) ∙ h.fresh s v in' (d.less v un))
          (λ away un. let ne : k ≢ serial_in t es = λ (same : k ≡ serial_in t es). away (h.distinct t s l in' (kept_undrained v (slot_at m t).phase un) d.kept (sym same)) in
          passed (is_drain_of (serial_in t es) v) e es (other_serial (serial_in t es) k v w s ne) ∙ h.fresh t v l un);
      each = λ t v l lv. at_slot (λ i z. drains_in i v fs + one_if (is_undrained v z.phase) ≡ publications_in i fs) m.slots s t y here
          (dite (ℕ_discrete v w)
          (λ same. let yes : is_drain_in s v e ≡ true = ap (λ b. b && (w == v)) (eq-eqb s s refl) ∙ eq-eqb w v (sym same) in
          let was : is_undrained v (slot_at m s).phase ≡ true = ap (λ i. is_undrained i (slot_at m s).phase) same ∙ d.undrained in
          let is : is_undrained v y.phase ≡ false = ap (λ i. is_undrained i y.phase) same ∙ d.drained in
          omega (arith, counted (is_drain_in s v) e es, ap one_if yes, ap one_if was, ap one_if is, passed (is_publication_in s) e es refl, h.each s v in' lv))
          (λ ne. let no' : is_drain_in s v e ≡ false = ap (λ b. (s == s) && b) (ne_eqb w v (λ same. ne (sym same))) ∙ and_false (s == s) in
          omega (arith, passed (is_drain_in s v) e es no', ap one_if (d.others v lv ne), passed (is_publication_in s) e es refl, h.each s v in' lv)))
          (λ away. let no' : is_drain_in t v e ≡ false = ap (λ b. b && (w == v)) (ne_eqb s t (λ same. away (sym same))) in
          omega (arith, passed (is_drain_in t v) e es no', passed (is_publication_in t) e es refl, h.each t v l lv));
    }

-- P of each slot behind a publication
pub at_published : (P : ℕ → Slot → Type 0) (m : Machine) (s t : ℕ) → length m.slots ≡ 4 → s < 4 → t < 4 → P s (published_slot (slot_at m s)) → (t ≢ s → P t (replaced_slot (slot_at m t))) → P t (slot_at (published_at m s) t)
at_published P m s t four in' l same other =
    at_slot P (map replaced_slot m.slots) s t (published_slot (slot_at m s)) (omega (arith, four, length-map m.slots replaced_slot)) same
    (λ ne. subst (P t) (sym (get_or-map replaced_slot m.slots t unused unused (omega (arith, four)))) (other ne))

pub numbered_replaced : (n k b : ℕ) (p : Phase) → IsNumbered n k p → IsNumbered (n + 1) k (replaced_phase b p)
numbered_replaced n k b Free h = tt
numbered_replaced n k b (Filling marks) h = tt
numbered_replaced n k b (Current made) h = omega arith
numbered_replaced n k b (Replaced total ready drained) h = omega arith

pub numbered_small : (n k : ℕ) (p : Phase) → is_kept p ≡ true → IsNumbered n k p → k < n
numbered_small n k Free is h = absurd (false≢true is)
numbered_small n k (Filling marks) is h = absurd (false≢true is)
numbered_small n k (Current made) is h = omega arith
numbered_small n k (Replaced total ready drained) is h = omega arith

pub kept_replaced : (b : ℕ) (p : Phase) → is_kept (replaced_phase b p) ≡ is_kept p
kept_replaced b Free = refl
kept_replaced b (Filling marks) = refl
kept_replaced b (Current made) = refl
kept_replaced b (Replaced total ready drained) = refl

pub wide_replaced : (b : ℕ) (p : Phase) → IsWide p → IsWide (replaced_phase b p)
wide_replaced b Free h = tt
wide_replaced b (Filling marks) h = tt
wide_replaced b (Current made) h = length-replicate 32 false
wide_replaced b (Replaced total ready drained) h = h

pub unmarked : (w : ℕ) → is_marked w no_marks ≡ false
unmarked w = by_place (ltb w 32) refl
  where
    by_place : (b : Bool) → ltb w 32 ≡ b → is_marked w no_marks ≡ false
    by_place true e = get_or-replicate 32 w false false (ltb-true w 32 e)
    by_place false e = get_or_past no_marks w false (omega (arith, ltb-false w 32 e, length-replicate 32 false))

pub undrained_replaced : (w b : ℕ) (p : Phase) → is_undrained w (replaced_phase b p) ≡ is_undrained w p
undrained_replaced w b Free = refl
undrained_replaced w b (Filling marks) = refl
undrained_replaced w b (Current made) = ap not (unmarked w)
undrained_replaced w b (Replaced total ready drained) = refl

pub undrained_filled : (n w : ℕ) (p : Phase) → is_filled n p ≡ true → is_undrained w p ≡ false
undrained_filled n w Free is = refl
undrained_filled n w (Filling marks) is = refl
undrained_filled n w (Current made) is = absurd (false≢true is)
undrained_filled n w (Replaced total ready drained) is = absurd (false≢true is)

pub serial_same : (s n : ℕ) (es : List Event) → serial_in s (was_published s n ∷ es) ≡ n
serial_same s n es = ap (λ b. cond b n (serial_in s es)) (eq-eqb s s refl)

pub serial_other : (t s n : ℕ) (es : List Event) → t ≢ s → serial_in t (was_published s n ∷ es) ≡ serial_in t es
serial_other t s n es ne = ap (λ b. cond b n (serial_in t es)) (ne_eqb s t (λ same. ne (sym same)))

pub placed_publish : (m : Machine) (s : ℕ) (es : List Event) → IsPlaced m es → s < 4 → is_filled (count m) (slot_at m s).phase ≡ true → ((w : ℕ) → drains m.published w es ≡ 0)
    → IsPlaced (published_at m s) (was_published s m.published ∷ es)
placed_publish m s es h in' is none =
    let n = m.published in
    let e = was_published s n in
    let fs = e ∷ es in
    let new = published_at m s in
    let drained = λ (j w : ℕ). passed (is_drain_of j w) e es refl in
    let kept = λ (t : ℕ) (l : t < 4). at_published (λ i z. i ≢ s → is_kept z.phase ≡ is_kept (slot_at m i).phase) m s t h.four in' l (λ ne. absurd (ne refl)) (λ _ _. let z = slot_at m t in kept_replaced z.base z.phase) in
    let earlier = λ (t : ℕ) (l : t < 4) (ne : t ≢ s) (k : is_kept (slot_at new t).phase ≡ true). numbered_small n (serial_in t es) (slot_at m t).phase (sym (kept t l ne) ∙ k) (h.numbered t l) in
    record {
      four = length-set (map replaced_slot m.slots) s (published_slot (slot_at m s)) ∙ length-map m.slots replaced_slot ∙ h.four;
      numbered = λ t l. at_published (λ i z. IsNumbered (n + 1) (serial_in i fs) z.phase) m s t h.four in' l (ap (λ (k : ℕ). k + 1) (serial_same s n es))
          (λ ne. let z = slot_at m t in subst (λ (k : ℕ). IsNumbered (n + 1) k (replaced_phase z.base z.phase)) (sym (serial_other t s n es ne)) (numbered_replaced n (serial_in t es) z.base z.phase (h.numbered t l)));
      distinct = λ t u lt lu kt ku same. dite (ℕ_discrete t s)
          (λ ts. dite (ℕ_discrete u s) (λ us. ts ∙ sym us)
          (λ nu. absurd (let small = earlier u lu nu ku in omega (arith, small, serial_other u s n es nu, serial_same s n es, ap (λ (i : ℕ). serial_in i fs) ts, same))))
          (λ nt. dite (ℕ_discrete u s)
          (λ us. absurd (let small = earlier t lt nt kt in omega (arith, small, serial_other t s n es nt, serial_same s n es, ap (λ (i : ℕ). serial_in i fs) us, same)))
          (λ nu. h.distinct t u lt lu (sym (kept t lt nt) ∙ kt) (sym (kept u lu nu) ∙ ku) (sym (serial_other t s n es nt) ∙ same ∙ serial_other u s n es nu)));
      wide = λ t l. at_published (λ _ z. IsWide z.phase) m s t h.four in' l tt (λ _. let z = slot_at m t in wide_replaced z.base z.phase (h.wide t l));
      fresh = λ t w l. at_published (λ i z. is_undrained w z.phase ≡ true → drains (serial_in i fs) w fs ≡ 0) m s t h.four in' l
          (λ _. ap (λ (k : ℕ). drains k w fs) (serial_same s n es) ∙ drained n w ∙ none w)
          (λ ne un. let z = slot_at m t in ap (λ (k : ℕ). drains k w fs) (serial_other t s n es ne) ∙ drained (serial_in t es) w ∙ h.fresh t w l (sym (undrained_replaced w z.base z.phase) ∙ un));
      each = λ t w l lw. at_published (λ i z. drains_in i w fs + one_if (is_undrained w z.phase) ≡ publications_in i fs) m s t h.four in' l
          (omega (arith, passed (is_drain_in s w) e es refl, counted (is_publication_in s) e es, ap one_if (eq-eqb s s refl), ap one_if (undrained_filled (count m) w (slot_at m s).phase is), h.each s w in' lw))
          (λ ne. let z = slot_at m t in omega (arith, passed (is_drain_in t w) e es refl, passed (is_publication_in t) e es (ne_eqb s t (λ same. ne (sym same))), ap one_if (undrained_replaced w z.base z.phase), h.each t w l lw));
    }
