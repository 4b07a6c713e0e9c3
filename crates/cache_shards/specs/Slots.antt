-- A store's pairs in slots, in the order of last use, and in chains by the hashes of their keys.
-- This server's own rule.
use Rattle.std.specs.Prelude.{◌≡◌, ℕ, ◌+◌, ◌-◌, ◌*◌, ◌/◌, ◌%◌, ◌^◌, ◌<◌, ◌≤◌, true, false, List, ◌++◌}
use Rattle.std.specs.Prelude.{flat_map, length, slice_get, slice_index, Some, option_to_list}
use Rattle.std.specs.Option.{option_map_or}
use Rattle.std.specs.List.{fold}
use Rattle.outside.specs.{same_key}
use Rattle.outside.specs.Keys.{key_writes}
use Rattle.outside.specs.declared.entry.Key.{Key}
use Rattle.seeded_hash.specs.declared.hasher.Seed.{Seed}
use Rattle.seeded_hash.specs.Hashers.{after, begun_by}
use Rattle.slot_lists.specs.Links.{Leads, IsIn, Once}
use Rattle.slot_lists.specs.Rings.{OrderData}
use Rattle.slot_lists.specs.Chained.{AreChained}
use Rattle.slot_lists.specs.declared.chains.Chains.{Chains}
use Rattle.cache_shards.specs.Stores.{Held}

abbrev pub Pair : Type 0
Pair = Key × Held

-- the pairs of these slots, where slot 1 has the first
abbrev pub shown : List Pair → List ℕ → List Pair
shown pairs slots = flat_map (λ slot. option_to_list (slice_get pairs (slot - 1))) slots

-- which of so many chains is a hash's, by its upper half
unfoldable pub chain_of : ℕ → ℕ → ℕ
chain_of hash room = hash % 2 ^ 64 / 2 ^ 32 * room / 2 ^ 32

-- which is a key's
unfoldable pub place_of : Seed → ℕ → Key → ℕ
place_of seed room key = chain_of (fold after (begun_by seed) (key_writes key)).state room

-- which is the one of the key in a slot
abbrev pub place_at : Seed → ℕ → List Pair → ℕ → ℕ
place_at seed room pairs slot =
    option_map_or (λ p. place_of seed room p.0) (slice_get pairs (slot - 1)) 0

-- the slot has a pair of this key
pub record IsPairOf (pairs : List Pair) (key : Key) (slot : ℕ) : Type 0 where
  pub pair : Pair
  pub some : 0 < slot
  pub is : slice_get pairs (slot - 1) ≡ Some pair
  pub same : same_key key pair.0 ≡ true

-- these slots have none
abbrev pub AreOthers : List Pair → Key → List ℕ → Type 0
AreOthers pairs key slots = (slot : ℕ) (pair : Pair) → IsIn slot slots
    → slice_get pairs (slot - 1) ≡ Some pair → same_key key pair.0 ≡ false

-- a chain of slots, of which there are so many
pub record IsChainOf (heads nexts : List ℕ) (many at : ℕ) (slots : List ℕ) : Type 0 where
  pub path : Leads nexts (slice_index heads at) slots 0
  pub once : Once slots
  pub some : (slot : ℕ) → IsIn slot slots → 0 < slot
  pub few : (slot : ℕ) → IsIn slot slots → slot ≤ many

-- a walk along it has come to a slot, or to its end
pub record IsWalk (pairs : List Pair) (heads nexts : List ℕ) (key : Key) (at slot : ℕ)
    : Type 0 where
  pub slots : List ℕ
  pub is : IsChainOf heads nexts (length pairs) at slots
  pub xs : List ℕ
  pub ys : List ℕ
  pub parts : slots ≡ xs ++ ys
  pub from : Leads nexts slot ys 0
  pub passed : AreOthers pairs key xs

-- the whole of a store
pub record IsStore (seed : Seed) (pairs : List Pair) (order : OrderData) (chains : Chains)
    (room : ℕ) : Type 0 where
  pub some : 0 < room
  pub few : length pairs ≤ room
  pub count : length order.slots ≡ length pairs
  pub once : Once order.slots
  pub low : (slot : ℕ) → IsIn slot order.slots → 0 < slot
  pub high : (slot : ℕ) → IsIn slot order.slots → slot ≤ length pairs
  pub all : (slot : ℕ) → 0 < slot → slot ≤ length pairs → IsIn slot order.slots
  pub places : order.places ≡ room + 1
  pub heads : length chains.heads.items ≡ room
  pub nexts : length chains.nexts.items ≡ room + 1
  pub apart : (i j : ℕ) (p q : Pair) → slice_get pairs i ≡ Some p → slice_get pairs j ≡ Some q
      → same_key p.0 q.0 ≡ true → i ≡ j
  pub chain : ℕ → List ℕ
  pub chained : AreChained chains.heads.items chains.nexts.items (place_at seed room pairs)
      (length pairs) 0 chain
