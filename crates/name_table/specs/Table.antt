-- A table of names: a list of names, and buckets of their numbers. This server's own rule.
use Rattle.std.specs.Prelude.{◌≡◌, ℕ, ◌<◌, ◌≤◌, ◌^◌, Bool, true, false, List, length, drop}
use Rattle.std.specs.Prelude.{Some, slice_get, slice_index_or}
use Rattle.std.specs.Option.{option_map}
use Rattle.dns_names.specs.Name.{IsName, spelled, lowered}
use Rattle.name_table.specs.Hash.{hash_of, place_of}
use Rattle.name_table.specs.declared.entry.Entry.{Entry}
use Rattle.name_table.specs.declared.table.Longest.{Longest}

-- the number is a name's that is this one, ASCII case aside
abbrev pub IsNamed : List (List (List ℕ)) → ℕ → List (List ℕ) → Type 0
IsNamed names number key = option_map lowered (slice_get names number) ≡ Some (lowered key)

-- the table has no such name
abbrev pub IsMissing : List (List (List ℕ)) → List (List ℕ) → Type 0
IsMissing names key = (i : ℕ) → IsNamed names i key → ⊥

-- the one number of the name
pub record IsNumberOf (names : List (List (List ℕ))) (key : List (List ℕ)) (number : ℕ)
    : Type 0 where
  pub is : IsNamed names number key
  pub only : (i : ℕ) → IsNamed names i key → i ≡ number

-- the longest suffix that the table has
pub record IsLongest (names : List (List (List ℕ))) (name : List (List ℕ)) (found : Longest)
    : Type 0 where
  pub inside : found.above ≤ length name
  pub is : IsNumberOf names (drop found.above name) found.number
  pub longer : (k : ℕ) → k < found.above → IsMissing names (drop k name)

abbrev pub entry_of : ℕ → ℕ → Entry
entry_of hash number = record { hash = hash; number = number }

-- the entry stands in the bucket
pub record Holds (bucket : List Entry) (entry : Entry) : Type 0 where
  pub place : ℕ
  pub is : slice_get bucket place ≡ Some entry

-- the name's entry, where it has one, stands in its bucket
abbrev pub IsKept : List (List (List ℕ)) → List (List Entry) → Type 0
IsKept names buckets = (i : ℕ) (key : List (List ℕ)) (bucket : List Entry) → IsName key
    → IsNamed names i key
    → slice_get buckets (place_of (hash_of (spelled key)) (length buckets)) ≡ Some bucket
    → Holds bucket (entry_of (hash_of (spelled key)) i)

-- the whole invariant
pub record IsTable (names : List (List (List ℕ))) (buckets : List (List Entry)) : Type 0 where
  pub some : 0 < length buckets
  pub few : length buckets ≤ 2 ^ 32
  pub kept : IsKept names buckets
  pub distinct : (i j : ℕ) (key : List (List ℕ)) → IsNamed names i key → IsNamed names j key
      → i ≡ j

-- for each name the number of its bytes in wire format is marked
abbrev pub AreMarked : List (List (List ℕ)) → List Bool → Type 0
AreMarked names lengths = (i : ℕ) (name : List (List ℕ)) → slice_get names i ≡ Some name
    → slice_index_or lengths (length (spelled name)) false ≡ true

-- the entry has this hash, and its number is the name's
pub record IsEntryOf (names : List (List (List ℕ))) (entry : Entry) (key : List (List ℕ))
    (hash : ℕ) : Type 0 where
  pub hash_is : entry.hash ≡ hash
  pub named : IsNamed names entry.number key

-- none of the first so many entries is the name's
abbrev pub NoneAmong : List (List (List ℕ)) → List Entry → List (List ℕ) → ℕ → ℕ → Type 0
NoneAmong names entries key hash count = (place i : ℕ) → place < count
    → slice_get entries place ≡ Some (entry_of hash i) → IsNamed names i key → ⊥

-- the rest of a name behind its first labels, none longer of which is in the table
pub record PassedTo (names : List (List (List ℕ))) (name : List (List ℕ)) (above : ℕ)
    (rest : List (List ℕ)) : Type 0 where
  pub inside : above ≤ length name
  pub is : rest ≡ drop above name
  pub longer : (k : ℕ) → k < above → IsMissing names (drop k name)
