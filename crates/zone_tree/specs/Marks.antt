-- Marks of a zone's names by number: which records of a type are among others.
use Rattle.std.specs.Prelude.{◌≡◌, ◌⊎◌, ℕ, Bool, true, false, List, [], length, slice_index_or}
use Rattle.std.specs.List.{list_any}
use Rattle.dns_data.specs.Record.{RecordData}
use Rattle.dns_data.specs.declared.kind.TheConstants as kinds
use Rattle.dns_data.specs.declared.zone.Zone.{Zone}
use Rattle.name_table.specs.Table.{IsNamed}
use Rattle.zone_lookup.specs.Zone.{is_of, set_at}
use Rattle.zone_tree.specs.declared.marks.Marks.{Marks}

-- a name with the mark has one of its records of a type there, or the zone has none; without it,
-- none is there
abbrev pub IsSeen : Bool → Zone → ℕ → List RecordData → List (List ℕ) → Type 0
IsSeen true zone kind there name =
    (list_any (is_of name kind) there ≡ true) ⊎ (set_at zone name kind ≡ [])
IsSeen false zone kind there name = list_any (is_of name kind) there ≡ false

-- a mark for each name
pub record AreSeen (names : List (List (List ℕ))) (zone : Zone) (kind : ℕ)
    (there : List RecordData) (marks : List Bool) : Type 0 where
  pub as_many : length marks ≡ length names
  pub each : (i : ℕ) (name : List (List ℕ)) → IsNamed names i name
      → IsSeen (slice_index_or marks i false) zone kind there name

-- for both types of addresses
pub record AreMarked (names : List (List (List ℕ))) (zone : Zone) (there : List RecordData)
    (marks : Marks) : Type 0 where
  pub v4 : AreSeen names zone kinds.A there marks.v4.items
  pub v6 : AreSeen names zone kinds.AAAA there marks.v6.items
