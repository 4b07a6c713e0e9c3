-- The ports of blocks.
use Rattle.std.specs.Prelude.{ℕ, ◌↔◌, List, map}
use Rattle.std.specs.List.{Contains}
use Rattle.std.specs.List.Sorted.{IsStrictlyIncreasing}
use Rattle.dns_data.specs.declared.block.Block.{Block}
use Rattle.corefile_blocks.specs.Keys.{keys_of}

-- the ports of the keys of blocks, in order and each as often as it stands
abbrev pub key_ports : List Block → List ℕ
key_ports blocks = map (λ key. key.port) (keys_of blocks)

-- the list of the ports of blocks: each once, the lowest first
pub record ArePorts (blocks : List Block) (ports : List ℕ) : Type 0 where
  pub ascending : IsStrictlyIncreasing ports
  pub those : (port : ℕ) → Contains ports port ↔ Contains (key_ports blocks) port
