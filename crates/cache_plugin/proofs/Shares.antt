-- Uses of a new cache, and of one that was split.
use Rattle.std.proofs.Common.{◌≡◌, ◌-◌, ◌∙◌, ℕ, List, [], ◌∷◌, map, length, refl, sym, ap, subst}
use Rattle.std.specs.List.{All, AllByRecursion}
use Rattle.std.proofs.lemmas.List.{length-map}
use Rattle.std.proofs.lemmas.List.Elements.{All-nil, All-cons}
use Rattle.cache_shards.specs.Seats.{AreNew, CacheData, IsSeatOf, ShardSeat, ShardView, logs, own_marks, view_of, views_of}
use Rattle.cache_shards.proofs.SeatLists.{same_length}
use Rattle.outside.specs.declared.mark.Mark.{Mark}
use Rattle.ruled_lock.specs.Steps.{left_view, right_view}

module _ {J : Type 0} where
  pub eight_views : (cache : CacheData J) (seats : List (ShardSeat J)) → IsSeatOf cache seats → length (views_of seats) ≡ 8
  eight_views cache seats own = length-map seats view_of ∙ same_length cache.capacities cache.judge cache.ids seats own.each ∙ own.eight

  pub new_parts : (parts : ℕ) (views : List (ShardView J)) → AreNew parts views → AllByRecursion (λ (v : ShardView J). v.parts ≡ parts) views
  new_parts parts [] new = tt
  new_parts parts (v ∷ views) new = (new.0.parts.0, new_parts parts views new.1)

  pub new_logs : (parts : ℕ) (views : List (ShardView J)) → AreNew parts views → All (λ (part : List Mark). part ≡ []) (logs views)
  new_logs parts [] new = All-nil (λ (part : List Mark). part ≡ [])
  new_logs parts (v ∷ views) new = All-cons (λ (part : List Mark). part ≡ []) (own_marks v) (logs views) new.0.own (new_logs parts views new.1)

  right_logs : (views : List (ShardView J)) → All (λ (part : List Mark). part ≡ []) (logs (map right_view views))
  right_logs [] = All-nil (λ (part : List Mark). part ≡ [])
  right_logs (v ∷ views) = All-cons (λ (part : List Mark). part ≡ []) (own_marks (right_view v)) (logs (map right_view views)) refl (right_logs views)

  pub split_logs : (views news : List (ShardView J)) → news ≡ map right_view views → All (λ (part : List Mark). part ≡ []) (logs news)
  split_logs views news is = subst (λ (l : List (ShardView J)). All (λ (part : List Mark). part ≡ []) (logs l)) (sym is) (right_logs views)

  left_parts : (parts : ℕ) (views : List (ShardView J)) → AllByRecursion (λ (v : ShardView J). v.parts ≡ parts) views → AllByRecursion (λ (v : ShardView J). v.parts ≡ parts - 1) (map left_view views)
  left_parts parts [] all = tt
  left_parts parts (v ∷ views) all = (ap (λ (n : ℕ). n - 1) all.0, left_parts parts views all.1)

  pub split_parts : (parts : ℕ) (views news : List (ShardView J)) → news ≡ map left_view views → AllByRecursion (λ (v : ShardView J). v.parts ≡ parts) views → AllByRecursion (λ (v : ShardView J). v.parts ≡ parts - 1) news
  split_parts parts views news is all = subst (λ (l : List (ShardView J)). AllByRecursion (λ (v : ShardView J). v.parts ≡ parts - 1) l) (sym is) (left_parts parts views all)
