-- Keys by their places. This server's own rule.
use Rattle.std.specs.Prelude.{◌≡◌, ℕ, ◌%◌, List, length, Some, slice_get}
use Rattle.std.specs.List.{list_any}
use Rattle.dns_data.specs.{spelled}
use Rattle.dns_data.specs.declared.block.BlockKey.{BlockKey}
use Rattle.corefile_blocks.specs.Keys.{same_key}
use Rattle.corefile_blocks.specs.Places.{place_from}

-- the place of a key among so many, by its port and its zone
abbrev pub key_place : ℕ → BlockKey → ℕ
key_place count key = place_from count (key.port % count) (spelled key.zone)

-- these places were filled with these keys: those like another one stand at its place
pub record IsKeyIndexOf (places : List (List BlockKey)) (keys : List BlockKey) : Type 0 where
  pub found : (key : BlockKey) (set : List BlockKey)
      → slice_get places (key_place (length places) key) ≡ Some set
      → list_any (same_key key) keys ≡ list_any (same_key key) set
