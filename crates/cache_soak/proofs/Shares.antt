-- How many parts seats have that are cut off a new one, used, and joined.
use Rattle.std.proofs.Common.{◌≡◌, ◌≤◌, ◌+◌, ℕ, zero, suc, List, [], ◌∷◌, map, length, slice_get, Some}
use Rattle.std.proofs.Common.{arith, refl, sym, ap, ◌∙◌, subst}
use Rattle.std.proofs.lemmas.Option.{same_Some}
use Rattle.ruled_lock.specs.Steps.{left_view, right_view}
use Rattle.cache_shards.specs.Seats.{ShardView, ShardSeat, CacheData, IsSeatOf, AreNew, HaveParts, HaveAll, MeetAll}
use Rattle.cache_shards.specs.Seats.{views_of}
use Rattle.cache_shards.proofs.SeatLists.{same_length}
use Rattle.cache_soak.specs.Shares.{AreShares, KeepsParts}

module _ {J : Type 0} where
  -- a new seat has all parts
  pub new_shares : (all : ℕ) (views : List (ShardView J)) → AreNew all views → AreShares all all views
  new_shares all [] h = tt
  new_shares all (v ∷ views) h = (h.0.parts, new_shares all views h.1)

  -- a cut takes one
  pub left_shares : (all many : ℕ) (views news : List (ShardView J)) → news ≡ map left_view views
      → AreShares all (many + 1) views → AreShares all many news
  left_shares all many views news e h = subst (λ (l : List (ShardView J)). AreShares all many l) (sym e) (left views h)
    where
      left : (views : List (ShardView J)) → AreShares all (many + 1) views → AreShares all many (map left_view views)
      left [] h = tt
      left (v ∷ views) h = ((let k = h.0.0 in omega (arith, k), h.0.1), left views h.1)

  pub right_shares : (all many : ℕ) (views news : List (ShardView J)) → news ≡ map right_view views
      → AreShares all many views → AreShares all 1 news
  right_shares all many views news e h = subst (λ (l : List (ShardView J)). AreShares all 1 l) (sym e) (right views h)
    where
      right : (views : List (ShardView J)) → AreShares all many views → AreShares all 1 (map right_view views)
      right [] h = tt
      right (v ∷ views) h = ((refl, h.0.1), right views h.1)

  -- a call leaves them
  pub kept_shares : (all many : ℕ) (views news : List (ShardView J)) → KeepsParts views news
      → AreShares all many views → AreShares all many news
  kept_shares all many views [] k h = tt
  kept_shares all many [] (w ∷ news) k h = let e = k.parts in absurd cc
  kept_shares all many (v ∷ views) (w ∷ news) k h =
      let e = k.parts in let f = k.totals in let p : w.parts ≡ v.parts = cc in let q : w.all ≡ v.all = cc in (
        (p ∙ h.0.0, q ∙ h.0.1),
        kept_shares all many views news (record { parts = cc; totals = cc }) h.1,
      )

  pub same_parts : (views : List (ShardView J)) → KeepsParts views views
  same_parts views = record { parts = refl; totals = refl }

  -- seats that meet have the parts of both
  pub met_shares : (all many more : ℕ) (views others news : List (ShardView J)) → length news ≡ length views
      → length others ≡ length views → MeetAll views others news → AreShares all many views
      → AreShares all more others → AreShares all (many + more) news
  met_shares all many more views others [] a b m h k = tt
  met_shares all many more [] others (u ∷ news) a b m h k = absurd (omega (arith, a))
  met_shares all many more (v ∷ views) [] (u ∷ news) a b m h k = absurd (omega (arith, b))
  met_shares all many more (v ∷ views) (w ∷ others) (u ∷ news) a b m h k =
      let q = (m 0 v w u refl refl refl).parts in let x = q.0 in let y = h.0.0 in let z = k.0.0 in (
        (omega (arith, x, y, z), q.1 ∙ h.0.1),
        met_shares all many more views others news (omega (arith, a)) (omega (arith, b)) (λ at. m (suc at)) h.1 k.1,
      )

  pub enough : (least all many : ℕ) (views : List (ShardView J)) → least ≤ many → AreShares all many views
      → HaveParts least views
  enough least all many [] l h = tt
  enough least all many (v ∷ views) l h = (let k = h.0.0 in omega (arith, l, k), enough least all many views l h.1)

  -- a seat with all parts has all
  pub all_shares : (all : ℕ) (views : List (ShardView J)) → AreShares all all views → HaveAll views
  all_shares all [] h at v is = cc
  all_shares all (x ∷ views) h zero v is =
      subst (λ (z : ShardView J). z.parts ≡ z.all) (same_Some x v is) (h.0.0 ∙ sym h.0.1)
  all_shares all (x ∷ views) h (suc at) v is = all_shares all views h.1 at v is

  views_long : (seats : List (ShardSeat J)) → length (views_of seats) ≡ length seats
  views_long [] = refl
  views_long (s ∷ seats) = ap suc (views_long seats)

  -- a view for each shard
  pub eight_views : (cache : CacheData J) (seats : List (ShardSeat J)) → IsSeatOf cache seats
      → length (views_of seats) ≡ 8
  eight_views cache seats h =
      views_long seats ∙ same_length cache.capacities cache.judge cache.ids seats h.each ∙ h.eight
