-- What is listed under each of some names, by its numbers in the list.
use Rattle.std.specs.Prelude.{◌≡◌, ◌⊎◌, ℕ, Bool, true, false, List, [], ◌∷◌, ◌++◌, length, take}
use Rattle.std.specs.Prelude.{Option, Some, None, slice_get, slice_set}
use Rattle.std.specs.List.{filter}
use Rattle.name_table.specs.Table.{IsMissing, IsNumberOf}
use Rattle.dns_data.specs.{is_same}
use Rattle.hosts_plugin.specs.declared.listing.Listing.{Listing}

-- names, no two of which are the same, and the numbers of each
pub record IndexData : Type 0 where
  pub names : List (List (List ℕ))
  pub sets : List (List ℕ)

-- an item, where there is one, before others
abbrev pub before : {X : Type 0} → Option X → List X → List X
before None xs = xs
before (Some x) xs = x ∷ xs

-- the items of numbers
abbrev pub picked : {X : Type 0} → List X → List ℕ → List X
picked items [] = []
picked items (i ∷ is) = before (slice_get items i) (picked items is)

-- what is listed under a name, by this key
abbrev pub kept : (Listing → List (List ℕ)) → List (List ℕ) → List Listing → List Listing
kept key name listings = filter (λ l. is_same (key l) name) listings

abbrev pub has_some : List Listing → Bool
has_some [] = false
has_some (l ∷ listings) = true

-- the index has the first `count` of these listings by their key
pub record IsIndexOf (index : IndexData) (key : Listing → List (List ℕ)) (listings : List Listing)
    (count : ℕ) : Type 0 where
  pub as_many : length index.sets ≡ length index.names
  pub each : (i : ℕ) (name : List (List ℕ)) (set : List ℕ) → slice_get index.names i ≡ Some name
      → slice_get index.sets i ≡ Some set
      → picked listings set ≡ kept key name (take count listings)
  pub some : (i : ℕ) (name : List (List ℕ)) → slice_get index.names i ≡ Some name
      → has_some (kept key name (take count listings)) ≡ true
  pub none : (name : List (List ℕ)) → IsMissing index.names name
      → kept key name (take count listings) ≡ []

-- a number is added to those of a name that is there
pub record AddsTo (before after : IndexData) (name : List (List ℕ)) (number : ℕ) : Type 0 where
  pub place : ℕ
  pub old : List ℕ
  pub is : IsNumberOf before.names name place
  pub stood : slice_get before.sets place ≡ Some old
  pub names : after.names ≡ before.names
  pub sets : after.sets ≡ slice_set before.sets place (old ++ number ∷ [])

-- a name that is not there is added with a number
pub record AddsNew (before after : IndexData) (name : List (List ℕ)) (number : ℕ) : Type 0 where
  pub missing : IsMissing before.names name
  pub names : after.names ≡ before.names ++ name ∷ []
  pub sets : after.sets ≡ before.sets ++ (number ∷ []) ∷ []

abbrev pub Adds : IndexData → IndexData → List (List ℕ) → ℕ → Type 0
Adds before after name number = AddsTo before after name number ⊎ AddsNew before after name number

-- the numbers of a name are found
pub record IsFound (index : IndexData) (name : List (List ℕ)) (set : List ℕ) : Type 0 where
  pub place : ℕ
  pub is : IsNumberOf index.names name place
  pub stands : slice_get index.sets place ≡ Some set

-- the index has no names
abbrev pub IsEmpty : IndexData → Type 0
IsEmpty index = (index.names ≡ []) × (index.sets ≡ [])
