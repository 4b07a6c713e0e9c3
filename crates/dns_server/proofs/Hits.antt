-- What was put into a shard of a cache is just, so what its gets find is just: by the one history
-- of
-- the shard.
use Rattle.std.proofs.Common.{◌≡◌, ℕ, ◌<◌, Bool, true, false, List, [], ◌∷◌, ◌++◌, map, Option, Some, None, refl, sym, subst, if◌then◌else◌}
use Rattle.std.proofs.lemmas.Bool.{eq-eqb}
use Rattle.std.specs.Prelude.{◌==◌, ◌&&◌}
use Rattle.std.specs.List.{AllByRecursion}
use Rattle.std.specs.Option.{option_or}
use Rattle.outside.specs.{EntryData, same_key}
use Rattle.outside.specs.SameLaws.{exact_key}
use Rattle.outside.specs.declared.entry.Key.{Key}
use Rattle.outside.specs.declared.entry.Class.{Class}
use Rattle.outside.specs.declared.mark.Mark.{Mark}
use Rattle.outside.specs.declared.mark.Mark.TheVariants as mark
use Rattle.last_used.specs.Uses.{is_kept}
use Rattle.cache_shards.specs.Answers.{AreAnswered, Capacities, IsAnswered, IsLegal, answer_at, found, is_denial, is_live, is_success, last_put, live_at, put_of, uses}
use Rattle.one_history.specs.Calls.{Call, Told, calls_by, is_at, is_by, marks_at, told_by}
use Rattle.one_history.specs.Runs.{CacheRun, IsRun, OneHistory, SHARDS, block_at, marks_in, run_marks}

and_right : (a b : Bool) → (a && b) ≡ true → b ≡ true
and_right true b e = e
and_right false b e = absurd cc

both : (a b : Bool) → a ≡ true → b ≡ true → (a && b) ≡ true
both true b p q = q
both false b p q = absurd cc

all_push : {A : Type 0} (P : A → Type 0) (items : List A) (item : A) → AllByRecursion P items → P item → AllByRecursion P (items ++ item ∷ [])
all_push P [] item each here = (here, tt)
all_push P (i ∷ items) item each here = (each.0, all_push P items item each.1 here)

module _ (just : Key → EntryData → Type 0) where
  -- what was put is just, and what was found
  abbrev pub IsJustPut : Mark → Type 0
  IsJustPut (mark.Put key entry kept) = just key entry
  IsJustPut other = Unit {0}

  abbrev pub IsJustHit : Mark → Type 0
  IsJustHit (mark.Looked key now (Some entry)) = just key entry
  IsJustHit other = Unit {0}

  put_just : (stands_in : Class → Bool) (key : Key) (m : Mark) (e : EntryData) → IsJustPut m → put_of stands_in key m ≡ Some e → just key e
  put_just s key (mark.Put other entry true) e j is = by (s entry.class && same_key key other) refl is
    where
      by : (t : Bool) → (s entry.class && same_key key other) ≡ t → (if t then Some entry else None) ≡ Some e → just key e
      by true t is =
          let k : key ≡ other = (exact_key key other).0 (and_right (s entry.class) (same_key key other) t) in
          let same : entry ≡ e = cc in
          subst (λ (x : Key × EntryData). just x.0 x.1) (λ i. (sym k i, same i)) j
      by false t is = absurd cc
  put_just s key (mark.Put other entry false) e j is = absurd cc
  put_just s key (mark.Looked other now answer) e j is = absurd cc
  put_just s key (mark.Got d) e j is = absurd cc
  put_just s key mark.RecvEnd e j is = absurd cc
  put_just s key mark.RecvFailed e j is = absurd cc
  put_just s key (mark.Now t) e j is = absurd cc
  put_just s key (mark.Inner m) e j is = absurd cc
  put_just s key (mark.Sent b out) e j is = absurd cc
  put_just s key (mark.Noted b out) e j is = absurd cc
  put_just s key (mark.Pinned n) e j is = absurd cc
  put_just s key (mark.Unpinned n) e j is = absurd cc

  or_just : (key : Key) (e : EntryData) (a b : Option EntryData) → ((x : EntryData) → a ≡ Some x → just key x) → ((x : EntryData) → b ≡ Some x → just key x) → option_or a b ≡ Some e → just key e
  or_just key e (Some x) b p q is = p e is
  or_just key e None b p q is = q e is

  last_just : (s : Class → Bool) (key : Key) (marks : List Mark) → AllByRecursion IsJustPut marks → (e : EntryData) → last_put s key marks ≡ Some e → just key e
  last_just s key [] all e is = absurd cc
  last_just s key (m ∷ marks) all e is =
      or_just key e (last_put s key marks) (put_of s key m) (λ x i. last_just s key marks all.1 x i) (λ x i. put_just s key m x all.0 i) is

  live_just : (key : Key) (now : ℕ) (o : Option EntryData) → ((x : EntryData) → o ≡ Some x → just key x) → (e : EntryData) → live_at now o ≡ Some e → just key e
  live_just key now None p e is = absurd cc
  live_just key now (Some x) p e is = by (is_live x now) is
    where
      by : (t : Bool) → (if t then Some x else None) ≡ Some e → just key e
      by true is = p e is
      by false is = absurd cc

  found_just : (s : Class → Bool) (capacity : ℕ) (key : Key) (now : ℕ) (marks : List Mark) → AllByRecursion IsJustPut marks → (e : EntryData) → found s capacity key now marks ≡ Some e → just key e
  found_just s capacity key now marks all e is = by (is_kept same_key capacity key (uses s marks)) is
    where
      by : (t : Bool) → (if t then live_at now (last_put s key marks) else None) ≡ Some e → just key e
      by true is = live_just key now (last_put s key marks) (last_just s key marks all) e is
      by false is = absurd cc

  answer_just : (c : Capacities) (key : Key) (now : ℕ) (marks : List Mark) → AllByRecursion IsJustPut marks → (e : EntryData) → answer_at c key now marks ≡ Some e → just key e
  answer_just c key now marks all e is =
      or_just key e (found is_denial c.denial key now marks) (found is_success c.success key now marks) (found_just is_denial c.denial key now marks all) (found_just is_success c.success key now marks all) is

  answered_just : (c : Capacities) (before : List Mark) (m : Mark) → AllByRecursion IsJustPut before → IsAnswered c before m → IsJustHit m
  answered_just c before (mark.Looked key now (Some e)) all is = answer_just c key now before all e (sym is)
  answered_just c before (mark.Looked key now None) all is = tt
  answered_just c before (mark.Put key entry kept) all is = tt
  answered_just c before (mark.Got d) all is = tt
  answered_just c before mark.RecvEnd all is = tt
  answered_just c before mark.RecvFailed all is = tt
  answered_just c before (mark.Now t) all is = tt
  answered_just c before (mark.Inner m) all is = tt
  answered_just c before (mark.Sent b out) all is = tt
  answered_just c before (mark.Noted b out) all is = tt
  answered_just c before (mark.Pinned n) all is = tt
  answered_just c before (mark.Unpinned n) all is = tt

  -- in a history from the empty shard
  legal_just : (c : Capacities) (before marks : List Mark) → AllByRecursion IsJustPut before → AllByRecursion IsJustPut marks → AreAnswered c before marks → AllByRecursion IsJustHit marks
  legal_just c before [] b all is = tt
  legal_just c before (m ∷ marks) b all is =
      (answered_just c before m b is.0, legal_just c (before ++ m ∷ []) marks (all_push IsJustPut before m b all.0) all.1 is.1)

-- what holds of each mark of each worker and serial holds of each mark of a history, and the
-- reverse
module _ (P : Mark → Type 0) where
  first_of : (t : Bool) (m : Mark) (rest : List Mark) → t ≡ true → AllByRecursion P (if t then m ∷ rest else rest) → P m
  first_of true m rest e all = all.0
  first_of false m rest e all = absurd cc

  rest_of : (t : Bool) (m : Mark) (rest : List Mark) → AllByRecursion P (if t then m ∷ rest else rest) → AllByRecursion P rest
  rest_of true m rest all = all.1
  rest_of false m rest all = all

  put_in : (t : Bool) (m : Mark) (rest : List Mark) → P m → AllByRecursion P rest → AllByRecursion P (if t then m ∷ rest else rest)
  put_in true m rest p all = (p, all)
  put_in false m rest p all = all

  told_all : (all : List (Told Mark)) → ((worker serial : ℕ) → AllByRecursion P (told_by worker serial all)) → AllByRecursion P (map (λ t. t.mark) all)
  told_all [] each = tt
  told_all (t ∷ ts) each = (
    first_of (is_by t.worker t.serial t) t.mark (told_by t.worker t.serial ts)
        (both (t.worker == t.worker) (t.serial == t.serial) (eq-eqb t.worker t.worker refl) (eq-eqb t.serial t.serial refl)) (each t.worker t.serial),
    told_all ts (λ worker serial. rest_of (is_by worker serial t) t.mark (told_by worker serial ts) (each worker serial)),
  )

  told_each : (all : List (Told Mark)) (worker serial : ℕ) → AllByRecursion P (map (λ t. t.mark) all) → AllByRecursion P (told_by worker serial all)
  told_each [] worker serial holds = tt
  told_each (t ∷ ts) worker serial holds = put_in (is_by worker serial t) t.mark (told_by worker serial ts) holds.0 (told_each ts worker serial holds.1)

  at_all : (serial block part : ℕ) (calls : List (Call Mark)) → AllByRecursion (λ (c : Call Mark). P c.mark) calls → AllByRecursion P (marks_at serial block part calls)
  at_all serial block part [] all = tt
  at_all serial block part (c ∷ calls) all = put_in (is_at serial block part c) c.mark (marks_at serial block part calls) all.0 (at_all serial block part calls all.1)

  at_each : (serial block part : ℕ) (calls : List (Call Mark)) → AllByRecursion P (marks_at serial block part calls) → AllByRecursion (λ (c : Call Mark). is_at serial block part c ≡ true → P c.mark) calls
  at_each serial block part [] all = tt
  at_each serial block part (c ∷ calls) all = (
    λ e. first_of (is_at serial block part c) c.mark (marks_at serial block part calls) e all,
    at_each serial block part calls (rest_of (is_at serial block part c) c.mark (marks_at serial block part calls) all),
  )

  in_all : (block : Option ℕ) (part serial : ℕ) (calls : List (Call Mark)) → AllByRecursion (λ (c : Call Mark). P c.mark) calls → AllByRecursion P (marks_in block part serial calls)
  in_all None part serial calls all = tt
  in_all (Some block) part serial calls all = at_all serial block part calls all

-- where all that was put by the calls of all sides is just, so is what a call of a run's block
-- found
pub hits_just : {R : Type 0} (just : Key → EntryData → Type 0) (cached : R → Bool) (legal : R → List Mark → Type 0) (generations : List (List R)) (sides : List (List (Call Mark))) → OneHistory cached legal generations sides
    → (run : CacheRun R) → IsRun cached generations run → (c : Capacities) → ((marks : List Mark) → legal run.reads marks → IsLegal c marks)
    → ((worker : ℕ) → AllByRecursion (λ (c : Call Mark). IsJustPut just c.mark) (calls_by sides worker))
    → (shard : ℕ) → shard < SHARDS → (worker serial block : ℕ) → block_at run serial ≡ Some block
    → AllByRecursion (λ (c : Call Mark). is_at serial block shard c ≡ true → IsJustHit just c.mark) (calls_by sides worker)
hits_just just cached legal generations sides one run is c lawful puts shard low worker serial block at =
    let h = one run is shard low in
    let told : AllByRecursion (IsJustPut just) (map (λ t. t.mark) h.all) =
    told_all (IsJustPut just) h.all (λ w s. subst (AllByRecursion (IsJustPut just)) (sym (h.each w s)) (in_all (IsJustPut just) (block_at run s) shard s (calls_by sides w) (puts w))) in
    let found : AllByRecursion (IsJustHit just) (map (λ t. t.mark) h.all) = legal_just just c [] (map (λ t. t.mark) h.all) tt told (lawful (map (λ t. t.mark) h.all) h.is) in
    let mine : AllByRecursion (IsJustHit just) (run_marks run shard sides worker serial) = subst (AllByRecursion (IsJustHit just)) (h.each worker serial) (told_each (IsJustHit just) h.all worker serial found) in
    at_each (IsJustHit just) serial block shard (calls_by sides worker) (subst (λ (o : Option ℕ). AllByRecursion (IsJustHit just) (marks_in o shard serial (calls_by sides worker))) at mine)
