-- The entry of a hit was put before, and is just.
use Rattle.std.proofs.Common.{◌≡◌, ℕ, Bool, true, false, cond, ◌&&◌, List, [], ◌∷◌, ◌++◌, Option, Some, None, refl}
use Rattle.std.proofs.Common.{sym, ap, ◌∙◌, subst, append_assoc, IsTrue}
use Rattle.std.specs.Option.{option_or}
use Rattle.std.proofs.lemmas.Bool.{and_parts}
use Rattle.outside.specs.{EntryData, same_key}
use Rattle.outside.specs.declared.entry.Key.{Key}
use Rattle.outside.specs.declared.entry.Class.{Class}
use Rattle.outside.specs.declared.mark.Mark.{Mark}
use Rattle.outside.specs.declared.mark.Mark.TheVariants as mark
use Rattle.last_used.specs.Uses.{is_kept}
use Rattle.ruled_lock.specs.Histories.{Leads}
use Rattle.cache_shards.specs.declared.calls.ShardCall.{ShardCall}
use Rattle.cache_shards.specs.declared.calls.ShardCall.TheVariants.{Get, Put}
use Rattle.cache_shards.specs.declared.calls.ShardReply.{ShardReply}
use Rattle.cache_shards.specs.declared.calls.ShardReply.TheVariants as reply
use Rattle.cache_shards.specs.declared.shard.Shard.{Shard}
use Rattle.cache_shards.specs.Answers.{is_denial, is_success, is_live, live_at, uses, put_of, last_put, found}
use Rattle.cache_shards.specs.Answers.{Capacities, IsAnswered}
use Rattle.cache_shards.specs.Steps.{Steps, IsAllowed, same_judge}
use Rattle.cache_shards.specs.Marks.{marks_of, all_marks}
use Rattle.cache_shards.specs.Hits.{WasPut, PutsAreJust}
use Rattle.cache_shards.proofs.StoreLaws.{exact}

live_some : (now : ℕ) (o : Option EntryData) (e : EntryData) → live_at now o ≡ Some e → o ≡ Some e
live_some now None e h = h
live_some now (Some d) e h = by_test (is_live d now) h
  where
    by_test : (b : Bool) → cond b (Some d) None ≡ Some e → Some d ≡ Some e
    by_test true g = g
    by_test false g = cc

live_lives : (now : ℕ) (o : Option EntryData) (e : EntryData) → live_at now o ≡ Some e → IsTrue (is_live e now)
live_lives now None e h = cc
live_lives now (Some d) e h = by_test (is_live d now) refl h
  where
    by_test : (b : Bool) → is_live d now ≡ b → cond b (Some d) None ≡ Some e → IsTrue (is_live e now)
    by_test true p g = let one : d ≡ e = cc in subst (λ (z : EntryData). IsTrue (is_live z now)) one (rw p refl)
    by_test false p g = cc

-- a put stands among more marks too
pub put_further : (key : Key) (e : EntryData) (before more : List Mark) → WasPut key e before
    → WasPut key e (before ++ more)
put_further key e before more was = (
  was.0,
  was.1 ++ more,
  ap (λ (l : List Mark). l ++ more) was.2 ∙ append_assoc was.0 (mark.Put key e true ∷ was.1) more,
)

module _ (stands_in : Class → Bool) where
  put_here : (key : Key) (m : Mark) (e : EntryData) → put_of stands_in key m ≡ Some e → m ≡ mark.Put key e true
  put_here key (mark.Put other entry true) e h = by_test (stands_in entry.class && same_key key other) refl h
    where
      by_test : (b : Bool) → (stands_in entry.class && same_key key other) ≡ b → cond b (Some entry) None ≡ Some e
          → mark.Put other entry true ≡ mark.Put key e true
      by_test true p g =
          let one : entry ≡ e = cc in
          let key_one : key ≡ other = exact.one key other (and_parts (stands_in entry.class)
          (same_key key other) p).1 in
          cc
      by_test false p g = cc
  put_here key m e h = cc

  put_stands : (key : Key) (marks : List Mark) (e : EntryData) → last_put stands_in key marks ≡ Some e
      → WasPut key e marks
  put_stands key [] e h = cc
  put_stands key (m ∷ marks) e h = by_cases (last_put stands_in key marks) refl (λ g. put_stands key marks e g)
    where
      by_cases : (o : Option EntryData) → last_put stands_in key marks ≡ o → (last_put stands_in key marks ≡ Some e
          → WasPut key e marks) → WasPut key e (m ∷ marks)
      by_cases (Some d) g more =
          let t = more (g ∙ (rw g at h)) in
          (m ∷ t.0, t.1, ap (λ (l : List Mark). m ∷ l) t.2)
      by_cases None g more = ([], marks, ap (λ (z : Mark). z ∷ marks) (put_here key m e (rw g at h)))

  found_stands : (capacity : ℕ) (key : Key) (now : ℕ) (marks : List Mark) (e : EntryData)
      → found stands_in capacity key now marks ≡ Some e → WasPut key e marks
  found_stands capacity key now marks e h = by_test (is_kept same_key capacity key (uses stands_in marks)) h
    where
      by_test : (b : Bool) → cond b (live_at now (last_put stands_in key marks)) None ≡ Some e → WasPut key e marks
      by_test true g = put_stands key marks e (live_some now (last_put stands_in key marks) e g)
      by_test false g = cc

  found_lives : (capacity : ℕ) (key : Key) (now : ℕ) (marks : List Mark) (e : EntryData)
      → found stands_in capacity key now marks ≡ Some e → IsTrue (is_live e now)
  found_lives capacity key now marks e h = by_test (is_kept same_key capacity key (uses stands_in marks)) h
    where
      by_test : (b : Bool) → cond b (live_at now (last_put stands_in key marks)) None ≡ Some e → IsTrue (is_live e now)
      by_test true g = live_lives now (last_put stands_in key marks) e g
      by_test false g = cc

-- the entry of a hit is live
pub hit_lives : (caps : Capacities) (before : List Mark) (key : Key) (now : ℕ) (e : EntryData)
    → IsAnswered caps before (mark.Looked key now (Some e)) → IsTrue (is_live e now)
hit_lives caps before key now e h = by_cases (found is_denial caps.denial key now before) refl (sym h)
  where
    by_cases : (o : Option EntryData) → found is_denial caps.denial key now before ≡ o
        → option_or o (found is_success caps.success key now before) ≡ Some e → IsTrue (is_live e now)
    by_cases (Some d) g k = found_lives is_denial caps.denial key now before e (g ∙ k)
    by_cases None g k = found_lives is_success caps.success key now before e k

-- the entry of a hit was put before
pub hit_stands : (caps : Capacities) (before : List Mark) (key : Key) (now : ℕ) (e : EntryData)
    → IsAnswered caps before (mark.Looked key now (Some e)) → WasPut key e before
hit_stands caps before key now e h = by_cases (found is_denial caps.denial key now before) refl (sym h)
  where
    by_cases : (o : Option EntryData) → found is_denial caps.denial key now before ≡ o
        → option_or o (found is_success caps.success key now before) ≡ Some e → WasPut key e before
    by_cases (Some d) g k = found_stands is_denial caps.denial key now before e (g ∙ k)
    by_cases None g k = found_stands is_success caps.success key now before e k

module _ (just : EntryData → Type 0) where
  pub both_just : (xs ys : List Mark) → PutsAreJust just xs → PutsAreJust just ys → PutsAreJust just (xs ++ ys)
  both_just [] ys h g = g
  both_just (x ∷ xs) ys h g = (h.0, both_just xs ys h.1 g)

  pub just_first : (xs ys : List Mark) → PutsAreJust just (xs ++ ys) → PutsAreJust just xs
  just_first [] ys h = tt
  just_first (x ∷ xs) ys h = (h.0, just_first xs ys h.1)

  just_among : (front : List Mark) (key : Key) (e : EntryData) (behind : List Mark)
      → PutsAreJust just (front ++ mark.Put key e true ∷ behind) → just e
  just_among [] key e behind h = h.0
  just_among (x ∷ front) key e behind h = just_among front key e behind h.1

  pub put_just : (marks : List Mark) (key : Key) (e : EntryData) → PutsAreJust just marks → WasPut key e marks
      → just e
  put_just marks key e h was = just_among was.0 key e was.1 (subst (λ (l : List Mark). PutsAreJust just l) was.2 h)

module _ {J : Type 0} (just : J → EntryData → Type 0) where
  one_just : (x : Shard J) (c : ShardCall) (r : ShardReply) → IsAllowed just x c
      → PutsAreJust (just x.judge.value) (marks_of (c, r))
  one_just x (Get key now) (reply.Hit a) h = (tt, tt)
  one_just x (Get key now) reply.Miss h = (tt, tt)
  one_just x (Get key now) reply.Kept h = tt
  one_just x (Get key now) reply.NoMemory h = tt
  one_just x (Put key a) reply.Kept h = (h, tt)
  one_just x (Put key a) reply.NoMemory h = (h, tt)
  one_just x (Put key a) (reply.Hit b) h = (h, tt)
  one_just x (Put key a) reply.Miss h = (h, tt)

  -- what is put along a history is just
  pub just_along : (x : Shard J) (log : List (ShardCall × ShardReply)) (y : Shard J)
      → Leads Steps (IsAllowed just) x log y → PutsAreJust (just x.judge.value) (all_marks log)
  just_along x [] y h = tt
  just_along x (e ∷ log) y h =
      both_just (just x.judge.value) (marks_of e) (all_marks log) (one_just x e.0 e.1 h.0)
      (subst (λ (j : J). PutsAreJust (just j) (all_marks log)) (same_judge x e.0 e.1 h.1 h.2)
      (just_along h.1 log y h.3))

  -- no call changes the judge
  pub judge_along : (x : Shard J) (log : List (ShardCall × ShardReply)) (y : Shard J)
      → Leads Steps (IsAllowed just) x log y → y.judge.value ≡ x.judge.value
  judge_along x [] y h = ap (λ (z : Shard J). z.judge.value) (sym h)
  judge_along x (e ∷ log) y h = judge_along h.1 log y h.3 ∙ same_judge x e.0 e.1 h.1 h.2
