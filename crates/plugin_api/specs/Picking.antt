-- Which block of a Corefile serves a name: the one with the longest zone, on the port at which the
-- query came. This server's own rule, in the manner of CoreDNS.
use Rattle.std.specs.Prelude.{◌≡◌, ℕ, ◌≤◌, ◌&&◌, ◌==◌, Bool, List, [], ◌∷◌, length, slice_get}
use Rattle.std.specs.Prelude.{Option, Some, None, Contains}
use Rattle.std.specs.Option.{option_or}
use Rattle.std.specs.List.{list_any, position_from}
use Rattle.dns_names.specs.Name.{IsWithin, is_same}
use Rattle.dns_data.specs.declared.block.Block.{Block}
use Rattle.dns_data.specs.declared.block.BlockKey.{BlockKey}

-- the key has this port and this zone
unfoldable pub is_key : ℕ → List (List ℕ) → BlockKey → Bool
is_key port zone key = key.port == port && is_same key.zone zone

-- one of the block's keys has
unfoldable pub has_key : ℕ → List (List ℕ) → Block → Bool
has_key port zone block = list_any (is_key port zone) block.keys

-- the first block that serves a zone on a port
unfoldable pub block_of : List Block → ℕ → List (List ℕ) → Option ℕ
block_of blocks port zone = position_from (has_key port zone) 0 blocks

-- what the longest suffix of a name gives that gives something
unfoldable pub longest_of : (List (List ℕ) → Option ℕ) → List (List ℕ) → Option ℕ
longest_of f [] = f []
longest_of f (label ∷ above) = option_or (f (label ∷ above)) (longest_of f above)

-- the block that serves the longest zone on a port that the name is within; the first, where
-- several serve it
unfoldable pub picked : List Block → ℕ → List (List ℕ) → Option ℕ
picked blocks port name = longest_of (block_of blocks port) name

-- a key of this block has the port, and a zone of so many labels that the name is within
pub record Serves (blocks : List Block) (port : ℕ) (name : List (List ℕ)) (at labels : ℕ)
    : Type 0 where
  pub block : Block
  pub key : BlockKey
  pub stands : slice_get blocks at ≡ Some block
  pub has : Contains block.keys key
  pub port_is : key.port ≡ port
  pub within : IsWithin name key.zone
  pub long : length key.zone ≡ labels

-- this block serves the name, none by a longer zone, and none before it by one as long
pub record IsPicked (blocks : List Block) (port : ℕ) (name : List (List ℕ)) (at : ℕ)
    : Type 0 where
  pub labels : ℕ
  pub serves : Serves blocks port name at labels
  pub longest : (i n : ℕ) → Serves blocks port name i n → n ≤ labels
  pub first : (i : ℕ) → Serves blocks port name i labels → at ≤ i

-- which block is picked, and that none is exactly where none serves the name on the port
abbrev pub Picks : List Block → ℕ → List (List ℕ) → Option ℕ → Type 0
Picks blocks port name (Some at) = IsPicked blocks port name at
Picks blocks port name None = (i n : ℕ) → Serves blocks port name i n → ⊥
