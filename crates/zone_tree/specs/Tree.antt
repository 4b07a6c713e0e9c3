-- A tree of names by numbers: which names stand in its table, and what it holds of each.
use Rattle.std.specs.Prelude.{◌≡◌, ◌⊎◌, ℕ, ◌+◌, ◌<◌, ◌≤◌, Bool, true, false, Option, Some, None}
use Rattle.std.specs.Prelude.{List, [], ◌∷◌, length, drop, take, slice_get}
use Rattle.std.specs.List.{filter, list_any}
use Rattle.dns_names.specs.Name.{is_within, wire_length}
use Rattle.dns_data.specs.Record.{RecordData}
use Rattle.dns_names.specs.declared.limit.TheConstants as limits
use Rattle.dns_data.specs.declared.zone.Zone.{Zone}
use Rattle.name_table.specs.Table.{IsMissing, IsNamed, IsNumberOf}
use Rattle.zone_lookup.specs.Zone.{cut_of, is_at, is_star, set_at}
use Rattle.zone_lookup.specs.ZoneAnswer.{with_hosts}
use Rattle.dns_data.specs.declared.kind.TheConstants as kinds
use Rattle.zone_tree.specs.declared.node.Node.{Node}
use Rattle.zone_tree.specs.declared.tree.Tree.{Tree}
use Rattle.zone_tree.specs.Sets.{picked}

abbrev pub star_at : List (List ℕ) → List (List ℕ)
star_at name = (42 ∷ []) ∷ name

-- the number is that of the name above, and smaller
abbrev pub IsAbove : List (List (List ℕ)) → ℕ → List (List ℕ) → ℕ → Type 0
IsAbove names above [] i = Unit {0}
IsAbove names above (label ∷ rest) i = IsNamed names above rest × (above < i)

abbrev pub starts_wild : List (List ℕ) → Bool
starts_wild [] = false
starts_wild (label ∷ rest) = is_star label

-- the number is that of the wildcard below a name, where it has one; that isn't too long
abbrev pub IsStarOf : List (List (List ℕ)) → Option ℕ → List (List ℕ) → Type 0
IsStarOf names None name = IsMissing names (star_at name)
IsStarOf names (Some star) name =
    IsNamed names star (star_at name) × (wire_length name + 2 ≤ limits.NAME_BYTES)

-- what a node tells of its name
pub record IsNodeOf (names : List (List (List ℕ))) (i : ℕ) (name : List (List ℕ)) (node : Node)
    : Type 0 where
  pub above : IsAbove names node.above name i
  pub labels : node.labels ≡ length name
  pub wild : node.is_wild ≡ starts_wild name
  pub star : IsStarOf names node.star name

-- a node that tells of a wildcard
abbrev pub starred : Node → ℕ → Node
starred node star = record {
  above = node.above;
  labels = node.labels;
  is_wild = node.is_wild;
  star = Some star;
}

-- each name has a node, and the names above it are there
pub record IsShape (names : List (List (List ℕ))) (nodes : List Node) : Type 0 where
  pub as_many : length nodes ≡ length names
  pub each : (i : ℕ) (name : List (List ℕ)) (node : Node) → slice_get names i ≡ Some name
      → slice_get nodes i ≡ Some node → IsNodeOf names i name node

-- a name that may be put in below its number
pub record IsNew (names : List (List (List ℕ))) (name : List (List ℕ)) (above : ℕ)
    : Type 0 where
  pub missing : IsMissing names name
  pub place : IsAbove names above name (length names)
  pub only : (i : ℕ) → starts_wild name ≡ true → IsNamed names i (drop 1 name) → i ≡ above
  pub inside : starts_wild name ≡ true → above < length names

-- an owner's names from some label on stand in the table, and none above that
pub record Adding (names : List (List (List ℕ))) (owner : List (List ℕ)) (above number : ℕ)
    : Type 0 where
  pub inside : above ≤ length owner
  pub number_is : IsNumberOf names (drop above owner) number
  pub missing : (k : ℕ) → k < above → IsMissing names (drop k owner)

-- what was added are names at or above an owner
pub record Grows (before after : List (List (List ℕ))) (owner : List (List ℕ)) : Type 0 where
  pub keeps : (i : ℕ) (key : List (List ℕ)) → IsNamed before i key → IsNamed after i key
  pub only : (i : ℕ) (key : List (List ℕ)) → IsNamed after i key
      → IsNamed before i key ⊎ (is_within owner key ≡ true)

-- an owner's names are there
abbrev pub HasAll : List (List (List ℕ)) → List (List ℕ) → Type 0
HasAll names owner = (key : List (List ℕ)) → IsMissing names key → is_within owner key ≡ false

-- a name at or below which a record stands
unfoldable pub exists_among : List RecordData → List (List ℕ) → Bool
exists_among records name = list_any (λ r. is_within r.owner name) records

-- the names are those that exist
pub record AreNames (names : List (List (List ℕ))) (records : List RecordData) : Type 0 where
  pub stands : (i : ℕ) (key : List (List ℕ)) → IsNamed names i key
      → exists_among records key ≡ true
  pub missing : (key : List (List ℕ)) → IsMissing names key → exists_among records key ≡ false

-- a name's numbers are those of its records among the first so many, in the zone's order
pub record AreSets (names : List (List (List ℕ))) (records : List RecordData)
    (sets : List (List ℕ)) (count : ℕ) : Type 0 where
  pub as_many : length sets ≡ length names
  pub each : (i : ℕ) (name : List (List ℕ)) (set : List ℕ) → slice_get names i ≡ Some name
      → slice_get sets i ≡ Some set → picked records set ≡ filter (is_at name) (take count records)

-- as many lists as that, each empty
pub record AreEmpty (sets : List (List ℕ)) (count : ℕ) : Type 0 where
  pub as_many : length sets ≡ count
  pub each : (i : ℕ) (set : List ℕ) → slice_get sets i ≡ Some set → set ≡ []

-- the number is that of a cut, where there is one
abbrev pub IsCutAt : List (List (List ℕ)) → Option (List (List ℕ)) → Option ℕ → Type 0
IsCutAt names None None = Unit {0}
IsCutAt names None (Some i) = ⊥
IsCutAt names (Some cut) None = ⊥
IsCutAt names (Some cut) (Some i) = IsNamed names i cut

-- the cuts of the first so many names
pub record AreCuts (names : List (List (List ℕ))) (zone : Zone) (cuts : List (Option ℕ))
    (count : ℕ) : Type 0 where
  pub as_many : length cuts ≡ count
  pub each : (i : ℕ) (name : List (List ℕ)) (cut : Option ℕ) → slice_get names i ≡ Some name
      → slice_get cuts i ≡ Some cut → IsCutAt names (cut_of zone name) cut

-- the numbers are those of the addresses of an NS set's hosts, where they are kept
abbrev pub IsHostsOf : Zone → Option (List ℕ) → List (List ℕ) → Type 0
IsHostsOf zone None name = Unit {0}
IsHostsOf zone (Some set) name =
    picked zone.records set ≡ with_hosts zone [] [] (set_at zone name kinds.NS)

-- those of the first so many names
pub record AreHosts (names : List (List (List ℕ))) (zone : Zone) (hosts : List (Option (List ℕ)))
    (count : ℕ) : Type 0 where
  pub as_many : length hosts ≡ count
  pub each : (i : ℕ) (name : List (List ℕ)) (set : Option (List ℕ)) → slice_get names i ≡ Some name
      → slice_get hosts i ≡ Some set → IsHostsOf zone set name

-- the number is that of a name, where it is there
abbrev pub IsNumbered : List (List (List ℕ)) → Option ℕ → List (List ℕ) → Type 0
IsNumbered names None name = IsMissing names name
IsNumbered names (Some i) name = IsNamed names i name

-- the whole invariant
pub record IsTree (tree : Tree) : Type 0 where
  pub shape : IsShape tree.table tree.nodes.items
  pub names : AreNames tree.table tree.zone.records
  pub top : IsNumbered tree.table tree.top tree.zone.origin
  pub sets : AreSets tree.table tree.zone.records tree.sets.items (length tree.zone.records)
  pub cuts : AreCuts tree.table tree.zone tree.cuts.items (length tree.table)
  pub hosts : AreHosts tree.table tree.zone tree.hosts.items (length tree.table)
