-- What the parts of a cache know that is held, and of which uses are lent.
use Rattle.std.proofs.Common.{◌≡◌, ◌∙◌, inl, inr, ℕ, zero, suc, ◌+◌, ◌-◌, ◌<◌, ◌≤◌, List, [], ◌∷◌, ◌++◌, map, length, Some, None, refl, sym, ap, subst, arith}
use Rattle.std.specs.Prelude.{slice_get, slice_index_or}
use Rattle.std.specs.List.{AllByRecursion}
use Rattle.std.proofs.lemmas.Bool.{cases_lt}
use Rattle.std.proofs.lemmas.List.{length-map}
use Rattle.std.proofs.lemmas.Option.{same_Some}
use Rattle.cache_plugin.specs.{UseData}
use Rattle.cache_shards.specs.Marks.{all_marks}
use Rattle.cache_shards.specs.Merges.{Merges}
use Rattle.cache_shards.specs.Seats.{AreNew, HaveAll, MeetAll, ShardView, WholeAt, logs, met_marks, own_marks}
use Rattle.one_history.specs.Runs.{SHARDS}
use Rattle.outside.specs.declared.mark.Mark.{Mark}
use Rattle.ruled_lock.specs.Shuffles.{MergesTo, filled}
use Rattle.ruled_lock.specs.Steps.{left_view, right_view}
use Rattle.lent_caches.specs.declared.judge.BlockJudge.{BlockJudge}
use Rattle.lent_caches.specs.declared.uses.TheConstants.{PARTS}
use Rattle.lent_caches.specs.Held.{AllLogs, CacheOf, IsWhole, log_in, met_in, no_log, one_log, with_logs}
use Rattle.lent_caches.specs.ListLaws.{filled-append}
use Rattle.lent_caches.specs.Uses.{EachAt, IsHeldAt, IsLent, IsLentAt, IsRest}
use Rattle.lent_caches.proofs.Merging.{merges_to}

abbrev View : Type 0
View = ShardView BlockJudge

abbrev Views : Type 0
Views = List View

-- ---- lending
left_met : (views : Views) → map met_marks (map left_view views) ≡ map met_marks views
left_met [] = refl
left_met (v ∷ views) = ap (λ (l : List (List (List Mark))). met_marks v ∷ l) (left_met views)

pub lent_logs : (views news : Views) → news ≡ map left_view views → ◌≡◌ {A = AllLogs} (λ shard. filled (met_in news shard)) (λ shard. filled (met_in views shard))
lent_logs views news is = λ i shard. filled (slice_index_or ((ap (map met_marks) is ∙ left_met views) i) shard [])

right_log : (views : Views) (shard : ℕ) → slice_index_or (logs (map right_view views)) shard [] ≡ []
right_log [] shard = refl
right_log (v ∷ views) zero = refl
right_log (v ∷ views) (suc shard) = right_log views shard

pub new_log : (views news : Views) → news ≡ map right_view views → log_in news ≡ no_log
new_log views news is = λ i shard. (ap (λ (l : Views). slice_index_or (logs l) shard []) is ∙ right_log views shard) i

map_at : (f : View → View) (views : Views) (at : ℕ) (w : View) → slice_get (map f views) at ≡ Some w → (v : View) × (slice_get views at ≡ Some v) × (w ≡ f v)
map_at f [] at w is = absurd cc
map_at f (v ∷ views) zero w is = (v, refl, sym (same_Some (f v) w is))
map_at f (v ∷ views) (suc at) w is = map_at f views at w is

pub is_lent : (old one : UseData BlockJudge) → one.views ≡ map right_view old.views → length old.views ≡ SHARDS → IsLent one
is_lent old one is eight = (
  ap (λ (l : Views). length l) is ∙ (length-map old.views right_view ∙ eight),
  subst (EachAt IsLentAt) (sym is) (λ at w here.
      let t = map_at right_view old.views at w here in
      subst IsLentAt (sym t.2) (refl, refl)),
)

pub has_more : (out : ℕ) (views : Views) → out + 1 < PARTS → EachAt (IsHeldAt out) views → AllByRecursion (λ (v : View). 2 ≤ v.parts) views
has_more out [] few each = tt
has_more out (v ∷ views) few each = let e = (each 0 v refl).0 in (omega (arith, e, few), has_more out views few (λ at w is. each (suc at) w is))

pub rest_lent : (out : ℕ) (old new : UseData BlockJudge) → new.views ≡ map left_view old.views → out + 1 < PARTS → IsRest out old → IsRest (out + 1) new
rest_lent out old new is few rest = (
  ap (λ (l : Views). length l) is ∙ (length-map old.views left_view ∙ rest.0),
  subst (EachAt (IsHeldAt (out + 1))) (sym is) (λ at w here.
      let t = map_at left_view old.views at w here in
      let h = rest.1 at t.0 t.1 in
      let e = h.0 in
      subst (IsHeldAt (out + 1)) (sym t.2) (omega (arith, e, few), h.1)),
)

-- ---- by place
there : (views : Views) (at : ℕ) → at < length views → (v : View) × (slice_get views at ≡ Some v)
there [] at low = absurd (omega (arith, low))
there (v ∷ views) zero low = (v, refl)
there (v ∷ views) (suc at) low = there views at (omega (arith, low))

past : (views : Views) (at : ℕ) → length views ≤ at → slice_get views at ≡ None
past [] at high = refl
past (v ∷ views) zero high = absurd (omega (arith, high))
past (v ∷ views) (suc at) high = past views at (omega (arith, high))

read_at : {B : Type 0} (f : View → List B) (views : Views) (at : ℕ) (v : View) → slice_get views at ≡ Some v → slice_index_or (map f views) at [] ≡ f v
read_at f [] at v is = absurd cc
read_at f (w ∷ views) zero v is = ap f cc
read_at f (w ∷ views) (suc at) v is = read_at f views at v is

read_past : {B : Type 0} (f : View → List B) (views : Views) (at : ℕ) → length views ≤ at → slice_index_or (map f views) at [] ≡ []
read_past f [] at high = refl
read_past f (v ∷ views) zero high = absurd (omega (arith, high))
read_past f (v ∷ views) (suc at) high = read_past f views at (omega (arith, high))

-- ---- coming back
module _ (olds others news : Views) (meets : MeetAll olds others news) where
  met_here : (at : ℕ) (v w u : View) → slice_get olds at ≡ Some v → slice_get others at ≡ Some w → slice_get news at ≡ Some u → met_marks w ≡ []
      → filled (met_in news at) ≡ filled (met_in olds at) ++ filled (log_in others at ∷ [])
  met_here at v w u old other new none =
      let m = meets at v w u old other new in
      ap (λ (l : List (List Mark)). filled l) (read_at met_marks news at u new ∙ (m.met ∙ ap (λ (l : List (List Mark)). met_marks v ++ own_marks w ∷ l) none))
      ∙ (filled-append (met_marks v) (own_marks w ∷ [])
      ∙ (λ i. filled (sym (read_at met_marks olds at v old) i) ++ filled (sym (read_at own_marks others at w other) i ∷ [])))

  met_past : (at : ℕ) → length olds ≤ at → length others ≤ at → length news ≤ at → filled (met_in news at) ≡ filled (met_in olds at) ++ filled (log_in others at ∷ [])
  met_past at old other new =
      ap (λ (l : List (List Mark)). filled l) (read_past met_marks news at new)
      ∙ (λ i. filled (sym (read_past met_marks olds at old) i) ++ filled (sym (read_past own_marks others at other) i ∷ []))

  met_at : length olds ≡ SHARDS → length others ≡ SHARDS → length news ≡ SHARDS → EachAt IsLentAt others → (at : ℕ)
      → filled (met_in news at) ≡ filled (met_in olds at) ++ filled (log_in others at ∷ [])
  met_at old other new lent at = elim (cases_lt at SHARDS) [
    | inl low ↦
        let v = there olds at (omega (arith, low, old)) in
        let w = there others at (omega (arith, low, other)) in
        let u = there news at (omega (arith, low, new)) in
        met_here at v.0 w.0 u.0 v.1 w.1 u.1 (lent at w.0 w.1).1
    | inr high ↦ met_past at (omega (arith, high, old)) (omega (arith, high, other)) (omega (arith, high, new))
  ]

  pub met_logs : length olds ≡ SHARDS → length others ≡ SHARDS → length news ≡ SHARDS → EachAt IsLentAt others
      → ◌≡◌ {A = AllLogs} (λ shard. filled (met_in news shard)) (with_logs (λ shard. filled (met_in olds shard)) (one_log (log_in others)))
  met_logs old other new lent = λ i at. met_at old other new lent at i

  held_here : (out at : ℕ) (v w u : View) → slice_get olds at ≡ Some v → slice_get others at ≡ Some w → slice_get news at ≡ Some u → IsHeldAt out v → IsLentAt w → IsHeldAt (out - 1) u
  held_here out at v w u old other new held lent =
      let m = meets at v w u old other new in
      let a = held.0 in
      let b = lent.0 in
      let c = m.parts.0 in
      let d : u.all ≡ PARTS = m.parts.1 ∙ held.1.0 in
      let e = m.apart.1 in
      (omega (arith, a, b, c, d, e), (d, m.own ∙ held.1.1))

  below : (views : Views) (at : ℕ) (v : View) → slice_get views at ≡ Some v → at < length views
  below [] at v is = absurd cc
  below (w ∷ views) zero v is = omega arith
  below (w ∷ views) (suc at) v is = let low = below views at v is in omega (arith, low)

  pub rest_met : (out : ℕ) → length olds ≡ SHARDS → length others ≡ SHARDS → length news ≡ SHARDS → EachAt (IsHeldAt out) olds → EachAt IsLentAt others → EachAt (IsHeldAt (out - 1)) news
  rest_met out old other new held lent = λ at u is.
      let low : at < length news = below news at u is in
      let v = there olds at (omega (arith, low, new, old)) in
      let w = there others at (omega (arith, low, new, other)) in
      held_here out at v.0 w.0 u v.1 w.1 is (held at v.0 v.1) (lent at w.0 w.1)

  -- where a use comes back one was out
  pub some_out : (out : ℕ) → length olds ≡ SHARDS → length others ≡ SHARDS → length news ≡ SHARDS → EachAt (IsHeldAt out) olds → EachAt IsLentAt others → 1 ≤ out
  some_out out old other new held lent =
      let v = there olds 0 (omega (arith, old)) in
      let w = there others 0 (omega (arith, other)) in
      let u = there news 0 (omega (arith, new)) in
      let m = meets 0 v.0 w.0 u.0 v.1 w.1 u.1 in
      let a = (held 0 v.0 v.1).0 in
      let b = (lent 0 w.0 w.1).0 in
      let c = m.parts.0 in
      let d : u.0.all ≡ PARTS = m.parts.1 ∙ (held 0 v.0 v.1).1.0 in
      let e = m.apart.1 in
      omega (arith, a, b, c, d, e)

-- ---- the whole
pub have_all : (views : Views) → EachAt (IsHeldAt 0) views → HaveAll views
have_all views each = λ at v is. let h = each at v is in let a = h.0 in let b = h.1.0 in omega (arith, a, b)

pub all_whole : (cache : CacheOf) (just : Rattle.outside.specs.EntryData → Type 0) (views : Views) → length views ≡ SHARDS → EachAt (IsHeldAt 0) views
    → ((at : ℕ) → at < 8 → WholeAt at cache.capacities just views) → IsWhole cache (λ shard. filled (met_in views shard))
all_whole cache just views eight each whole = λ shard low.
    let t = there views shard (omega (arith, low, eight)) in
    let w = whole shard low t.0 t.1 in
    let none = (each shard t.0 t.1).1.1 in
    record {
      all = all_marks t.0.seen;
      merges = subst (λ (l : List (List Mark)). MergesTo (filled l) (all_marks t.0.seen)) (sym (read_at met_marks views shard t.0 t.1))
          (merges_to ([] ∷ met_marks t.0) (all_marks t.0.seen) (subst (λ (l : List Mark). Merges (l ∷ met_marks t.0) (all_marks t.0.seen)) none w.merges));
      legal = w.legal;
    }

-- ---- a new cache
new_each : (views : Views) → AreNew PARTS views → EachAt (IsHeldAt 0) views
new_each [] new at v is = absurd cc
new_each (w ∷ views) new zero v is = let a = new.0.parts.0 in subst (IsHeldAt 0) (same_Some w v is) (omega (arith, a), (new.0.parts.1, new.0.own))
new_each (w ∷ views) new (suc at) v is = new_each views new.1 at v is

pub new_rest : (one : UseData BlockJudge) → AreNew PARTS one.views → length one.views ≡ SHARDS → IsRest 0 one
new_rest one new eight = (eight, new_each one.views new)

pub none_met : (views : Views) (shard : ℕ) → AreNew PARTS views → filled (met_in views shard) ≡ []
none_met [] shard new = refl
none_met (v ∷ views) zero new = ap (λ (l : List (List Mark)). filled l) new.0.met
none_met (v ∷ views) (suc shard) new = none_met views shard new.1
