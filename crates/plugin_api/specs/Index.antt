-- The blocks of a Corefile by zone and port. This server's own rule.
use Rattle.std.specs.Prelude.{◌≡◌, ℕ, ◌==◌, cond, List, slice_get, Option, Some, None}
use Rattle.std.specs.Option.{option_and_then, option_map, option_or}
use Rattle.std.specs.List.{find, list_any, position_from}
use Rattle.dns_data.specs.declared.block.Block.{Block}
use Rattle.dns_data.specs.declared.block.BlockKey.{BlockKey}
use Rattle.dns_names.specs.Name.{is_same}
use Rattle.plugin_api.specs.Picking.{is_key, block_of}
use Rattle.plugin_api.specs.declared.services.Service.{Service}

-- zones, no two of which are the same, and the blocks that serve each, by port
pub record IndexData : Type 0 where
  pub zones : List (List (List ℕ))
  pub services : List (List Service)

-- the block that serves a port
unfoldable pub service_on : ℕ → List Service → Option ℕ
service_on port services = option_map (λ s. s.block) (find (λ s. s.port == port) services)

-- the block that serves a zone on a port
unfoldable pub block_in : IndexData → ℕ → List (List ℕ) → Option ℕ
block_in index port zone =
    option_and_then (λ number. option_and_then (service_on port) (slice_get index.services number))
    (position_from (is_same zone) 0 index.zones)

-- the block of keys that it is given, where one of them has the zone and the port
unfoldable pub block_by : List BlockKey → ℕ → ℕ → List (List ℕ) → Option ℕ
block_by keys block port zone = cond (list_any (is_key port zone) keys) (Some block) None

-- keys of one block are added, behind what there was
pub record AddsKeys (before after : IndexData) (keys : List BlockKey) (block : ℕ) : Type 0 where
  pub adds : (port : ℕ) (zone : List (List ℕ)) → block_in after port zone
      ≡ option_or (block_in before port zone) (block_by keys block port zone)

-- the index was made from these blocks: it has the block of each zone on each port
pub record IsIndexOf (index : IndexData) (blocks : List Block) : Type 0 where
  pub agrees : (port : ℕ) (zone : List (List ℕ)) → block_in index port zone
      ≡ block_of blocks port zone
