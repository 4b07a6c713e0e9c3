-- Which zone answers for a name, in plain words.
use Rattle.std.specs.Prelude.{◌≡◌, ◌≤◌, ℕ, true, List, length, Option, Some, None, Contains}
use Rattle.dns_data.specs.{is_within}
use Rattle.file_plugin.specs.Zones.{Served}

-- the zone is one of these and has the name, and none of these that has it has a longer origin
pub record IsLongest (name : List (List ℕ)) (zones : List Served) (served : Served) : Type 0 where
  pub stands : Contains zones served
  pub has : is_within name served.zone.origin ≡ true
  pub none_longer : (other : Served) → Contains zones other
      → is_within name other.zone.origin ≡ true
      → length other.zone.origin ≤ length served.zone.origin

-- this zone is picked for a name, or none, which is where none has it
abbrev pub Picks : List (List ℕ) → List Served → Option Served → Type 0
Picks name zones (Some served) = IsLongest name zones served
Picks name zones None =
    (other : Served) → Contains zones other → is_within name other.zone.origin ≡ true → ⊥
