-- Keys of a cache, told apart and written for a hash. This server's own rule.
use Rattle.std.specs.Prelude.{◌≡◌, ℕ, ◌+◌, ◌%◌, sum, List, [], ◌∷◌, if◌then◌else◌, IsTrue}
use Rattle.std.specs.Cmp.{IsEquivalence, decided}
use Rattle.std.specs.Hash as fed
use Rattle.std.proofs.Common.{ap}
use Rattle.dns_data.specs.{spelled}
use Rattle.outside.specs.declared.entry.Key.{Key}
use Rattle.outside.specs.Same.{same_key}
use Rattle.outside.specs.SameLaws.{exact_key}

pub key_equivalence : IsEquivalence same_key
key_equivalence = decided same_key exact_key

-- the type with both bits above it
abbrev pub key_number : Key → ℕ
key_number key = key.kind + (if key.dnssec then 65536 else 0) + (if key.cd then 131072 else 0)

-- the name in wire format, and that number
abbrev pub key_writes : Key → List (List ℕ)
key_writes key = spelled key.name ∷ fed.u64 (key_number key)

pub same_writes : (a b : Key) → IsTrue (same_key a b) → key_writes a ≡ key_writes b
same_writes a b h = ap key_writes ((exact_key a b).0 h)

-- the bytes of the name in wire format and the type, added up, modulo 8
abbrev pub shard_of : Key → ℕ
shard_of key = (key.kind + sum (spelled key.name)) % 8
