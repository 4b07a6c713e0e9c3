-- Behind `close` each cache whose uses were published has gone.
use Rattle.std.proofs.Common.{◌≡◌, ◌<◌, ℕ, zero, suc, List, [], ◌∷◌, ◌++◌, map, length, Some, refl, arith}
use Rattle.std.specs.Prelude.{slice_get, slice_index_or}
use Rattle.std.specs.List.{All, sum_by}
use Rattle.std.proofs.lemmas.List.Elements.{All-cons, All-head, All-nil, All-tail}
use Rattle.all_home.specs.AllHome.{AreFull}
use Rattle.lent_caches.specs.declared.name.CacheName.{CacheName}
use Rattle.lent_caches.specs.Held.{AreWhole, HeldData, LentData, given_all, stays}
use Rattle.lent_caches.specs.Ledger.{AllHeld, HasGone, count_named, use_names}
use Rattle.lent_caches.specs.LedgerLaws.{all_gone_home, names-append, retires}
use Rattle.lent_caches.specs.Named.{NamedData, named_of}
use Rattle.lent_caches.specs.RoomLaws.{all_held}
use Rattle.pin_table.specs.declared.views.Drain.{Drain}
use Rattle.pin_table.specs.declared.views.Plan.{Plan}
use Rattle.pin_table.specs.Closing.{IsTraced, chains_left, drains_left, joined_at}
use Rattle.pin_table.specs.Standing.{IsOfIdentity, IsStanding, standing}
use Rattle.pin_table.specs.Steps.{count_of}
use Rattle.pin_table.specs.Tags.{Identity, IsKept}
use Rattle.reload_watch.specs.Homes.{KeepsCaches, home_uses, published_names, published_uses, uses_in}
use Rattle.reload_watch.specs.HomesLaws.{IsOfFilled, among_filled}
use Rattle.reload_watch.specs.KeepsLaws.{counted_sum, counts, of_identity, uses_as, weight}

all_left : {X : Type 0} (P : X → Type 0) (xs ys : List X) → All P (xs ++ ys) → All P xs
all_left P [] ys all = All-nil P
all_left P (x ∷ xs) ys all = All-cons P x xs (All-head P x (xs ++ ys) all) (all_left P xs ys (All-tail P x (xs ++ ys) all))

-- what is got by number
got : {X : Type 0} (xs : List X) (i : ℕ) → i < length xs → (x : X) × (slice_get xs i ≡ Some x)
got [] i low = absurd (omega (arith, low))
got (x ∷ xs) zero low = (x, refl)
got (x ∷ xs) (suc i) low = got xs i (omega (arith, low))

got_in : {X : Type 0} (xss : List (List X)) (i n : ℕ) → All (λ xs. length xs ≡ n) xss → i < length xss → length (slice_index_or xss i []) ≡ n
got_in [] i n all low = absurd (omega (arith, low))
got_in {X} (xs ∷ xss) zero n all low = All-head (λ (l : List X). length l ≡ n) xs xss all
got_in {X} (xs ∷ xss) (suc i) n all low = got_in xss i n (All-tail (λ (l : List X). length l ≡ n) xs xss all) (omega (arith, low))

-- each generation was filled for each worker
pub are_full : {C I : Type 0} (identity : C → I) (p : Plan C) → IsStanding identity p → length p.past.filled ≡ count_of p → AreFull p
are_full identity p stands count serial worker low few =
    let long = got_in p.past.filled serial p.workers stands.full (omega (arith, low, count)) in
    got (slice_index_or p.past.filled serial []) worker (omega (arith, few, long))

module _ {C K N : Type 0} (identity : C → Identity K) (log : C → List (List N)) where
  -- a chain that came home, by the turns of its pass
  abbrev Came : Plan C → Drain C → Type 0
  Came p d = IsKept identity log p.past.filled (joined_at p.joined d.worker).turns d

  came_named : (p : Plan C) (ds : List (Drain C)) → All (Came p) ds → All (IsOfFilled identity p) (map (λ (d : Drain C). d.chain) ds)
  came_named p [] all = All-nil (IsOfFilled identity p)
  came_named p (d ∷ ds) all =
      let first = (All-head (Came p) d ds all).first in
      All-cons (IsOfFilled identity p) d.chain (map (λ (e : Drain C). e.chain) ds) (record { first = first.0; among = among_filled p.past.filled d.serial d.worker first.0 first.1; same = first.2 }) (came_named p ds (All-tail (Came p) d ds all))

  -- what `close` brings home is of what was published
  pub closed_named : (p : Plan C) → IsTraced identity log p → All (IsOfFilled identity p) (chains_left p)
  closed_named p traced = came_named p (drains_left p) (all_left (Came p) (drains_left p) p.drains traced.homes)

module _ {C I : Type 0} (identity : C → I) (lents : C → List LentData) (kinds : I → List NamedData) (used : (c : C) → map named_of (lents c) ≡ kinds (identity c)) where
  module _ (p : Plan C) (home' : List C) (held : List HeldData) (of : All (IsOfFilled identity p) home') (sum : (f : C → ℕ) → IsOfIdentity identity f → sum_by f home' ≡ standing f p) (keeps : KeepsCaches identity lents p held) where
    -- all that was published came home, of each name
    pub came_all : (name : CacheName) → count_named name (use_names (home_uses lents p ++ uses_in lents home')) ≡ count_named name (published_names lents p)
    came_all name =
        let is = counts identity lents kinds used name p keeps.balances in
        let both = names-append name (home_uses lents p) (uses_in lents home') in
        let now = counted_sum lents name home' in
        let stands = sum (weight lents name) (of_identity identity lents kinds used name) in
        omega (arith, is, both, now, stands)

    pub closed_held : AllHeld (uses_in lents home') held
    closed_held =
        all_held (published_uses lents p) (home_uses lents p) held (uses_in lents home') keeps.ledger keeps.alone
        (λ name. let all = came_all name in let both = names-append name (home_uses lents p) (uses_in lents home') in omega (arith, all, both)) (uses_as identity lents kinds used p home' of)

    pub closed_gone : AreWhole (given_all (uses_in lents home') held)
        → (stays (given_all (uses_in lents home') held) ≡ []) × ((name : CacheName) → 0 < count_named name (published_names lents p) → HasGone (published_names lents p) (home_uses lents p ++ uses_in lents home') name)
    closed_gone whole =
        let ledger = retires (published_names lents p) (home_uses lents p) (uses_in lents home') (λ name. let all = came_all name in omega (arith, all)) held keeps.ledger closed_held whole in
        all_gone_home (published_names lents p) (home_uses lents p ++ uses_in lents home') (stays (given_all (uses_in lents home') held)) ledger came_all
