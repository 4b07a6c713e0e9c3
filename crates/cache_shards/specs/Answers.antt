-- What a shard of a cache answers, by counting over the calls before. This server's own rule.
use Rattle.std.specs.Prelude.{◌≡◌, ℕ, ◌+◌, ◌*◌, ◌<◌, Bool, true, false, not, ◌&&◌, List, [], ◌∷◌, ◌++◌, Option, Some}
use Rattle.std.specs.Prelude.{None, if◌then◌else◌, nat_le, nat_lt, flat_map}
use Rattle.std.specs.Option.{option_or}
use Rattle.outside.specs.{EntryData, same_key}
use Rattle.outside.specs.declared.entry.Key.{Key}
use Rattle.outside.specs.declared.entry.Class.{Class}
use Rattle.outside.specs.declared.entry.Class.TheVariants as class
use Rattle.outside.specs.declared.mark.Mark.{Mark}
use Rattle.outside.specs.declared.mark.Mark.TheVariants.{Looked, Put}
use Rattle.last_used.specs.Uses.{is_kept}

-- Denials and failures stand in one store, and what succeeded in another.
abbrev pub is_denial : Class → Bool
is_denial class.Success = false
is_denial class.Denial = true
is_denial class.Servfail = true

abbrev pub is_success : Class → Bool
is_success class = not (is_denial class)

-- the lifetime of the entry has begun, and isn't over
abbrev pub is_live : EntryData → ℕ → Bool
is_live entry now = nat_le entry.born now && nat_lt now (entry.born + 1000 * entry.life)

-- the entry, where it is live
abbrev pub live_at : ℕ → Option EntryData → Option EntryData
live_at now None = None
live_at now (Some entry) = if is_live entry now then Some entry else None

-- One of the two stores, by the classes that stand in it. A history is a list of marks of gets that
-- answered and of puts; other marks count for nothing.
module _ (stands_in : Class → Bool) where
  -- the use that a mark tells: a hit, or a put that was kept
  abbrev pub use_of : Mark → List (Key × EntryData)
  use_of (Looked key now (Some entry)) = if stands_in entry.class then (key, entry) ∷ [] else []
  use_of (Put key entry true) = if stands_in entry.class then (key, entry) ∷ [] else []
  use_of mark = []

  -- the uses of the store, in their order
  abbrev pub uses : List Mark → List (Key × EntryData)
  uses marks = flat_map use_of marks

  abbrev pub put_of : Key → Mark → Option EntryData
  put_of key (Put other entry true) =
      if stands_in entry.class && same_key key other then Some entry else None
  put_of key mark = None

  -- the entry of the last put of a key that was kept in this store
  abbrev pub last_put : Key → List Mark → Option EntryData
  last_put key [] = None
  last_put key (mark ∷ marks) = option_or (last_put key marks) (put_of key mark)

  -- what the store has for a key: that entry, where the key is kept and the entry is live
  abbrev pub found : ℕ → Key → ℕ → List Mark → Option EntryData
  found capacity key now marks =
      if is_kept same_key capacity key (uses marks) then live_at now (last_put key marks) else None

-- how many keys each store of a shard keeps
pub record Capacities : Type 0 where
  pub success : ℕ
  pub denial : ℕ

abbrev pub capacities_of : ℕ → ℕ → Capacities
capacities_of success denial = record { success = success; denial = denial }

-- each store has room for an entry
pub record Room (capacities : Capacities) : Type 0 where
  pub success : 0 < capacities.success
  pub denial : 0 < capacities.denial

-- the denials are asked first
abbrev pub answer_at : Capacities → Key → ℕ → List Mark → Option EntryData
answer_at capacities key now marks =
    option_or (found is_denial capacities.denial key now marks)
    (found is_success capacities.success key now marks)

-- a get answers by the marks before it
abbrev pub IsAnswered : Capacities → List Mark → Mark → Type 0
IsAnswered capacities before (Looked key now answer) = answer ≡ answer_at capacities key now before
IsAnswered capacities before mark = Unit {0}

-- each of the marks behind others does
abbrev pub AreAnswered : Capacities → List Mark → List Mark → Type 0
AreAnswered capacities before [] = Unit {0}
AreAnswered capacities before (mark ∷ marks) =
    IsAnswered capacities before mark × AreAnswered capacities (before ++ mark ∷ []) marks

-- a history from the empty shard
abbrev pub IsLegal : Capacities → List Mark → Type 0
IsLegal capacities marks = AreAnswered capacities [] marks
