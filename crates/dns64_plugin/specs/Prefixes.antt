-- Addresses of IPv6 that stand for addresses of IPv4: the 96 bits of a prefix, and the address
-- behind them (RFC 6052, section 2.2).
use Rattle.std.specs.Prelude.{ℕ, ◌+◌, ◌*◌, ◌/◌, ◌%◌, ◌^◌, ◌==◌, List, Option, Some, None}
use Rattle.std.specs.Prelude.{if◌then◌else◌}
use Rattle.dns_data.specs.{net_of}
use Rattle.dns_data.specs.Addresses.{Addr, Net, V4, V6}

-- the first 96 bits of an address of IPv6, which is given with just so many
abbrev pub upper_bits : Addr → ℕ → Option ℕ
upper_bits (V4 addr) bits = None
upper_bits (V6 addr) bits = if bits == 96 then Some (addr / 2 ^ 32) else None

abbrev pub prefix_of_net : Option Net → Option ℕ
prefix_of_net None = None
prefix_of_net (Some n) = upper_bits n.addr n.bits

-- the prefix that a word spells: an address of IPv6 with `/96`, whose other bits don't count
unfoldable pub prefix_in : List ℕ → Option ℕ
prefix_in word = prefix_of_net (net_of word)

-- 64:ff9b::/96, for all who have no prefix of their own (RFC 6052, section 2.1)
abbrev pub well_known : ℕ
well_known = (100 * 2 ^ 16 + 65435) * 2 ^ 64

-- the address of IPv6 that stands for one of IPv4
abbrev pub embedded : ℕ → ℕ → ℕ
embedded prefix addr = prefix * 2 ^ 32 + addr

-- the address of IPv4 for which one of IPv6 stands, where it is within the prefix
abbrev pub extracted : ℕ → ℕ → Option ℕ
extracted prefix addr = if addr / 2 ^ 32 == prefix then Some (addr % 2 ^ 32) else None
