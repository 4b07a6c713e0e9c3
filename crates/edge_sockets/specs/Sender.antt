-- What a socket address of the system spells: C's `sockaddr_in` and `sockaddr_in6` as Linux lays
-- them out.
use Rattle.std.specs.Prelude.{ℕ, ◌+◌, ◌*◌, ◌==◌, nat_lt, Bool, not, ◌&&◌, List, slice_index, Option, Some, None, if◌then◌else◌}
use Rattle.dns_data.specs.Addresses.{Addr}
use Rattle.dns_data.specs.Addresses.{V4, V6}
use Rattle.edge_sockets.specs.declared.sender.Client.{Client}

-- the number of 16 bits at a place, its first byte highest
abbrev pub u16_at : List ℕ → ℕ → ℕ
u16_at bytes at = 256 * slice_index bytes at + slice_index bytes (at + 1)

-- the number of 32 bits at a place
unfoldable pub u32_at : List ℕ → ℕ → ℕ
u32_at bytes at = 65536 * u16_at bytes at + u16_at bytes (at + 2)

-- the family, which stands in the machine's own order: its low byte first
abbrev pub family_of : List ℕ → ℕ
family_of bytes = slice_index bytes 0 + 256 * slice_index bytes 1

-- the IPv6 address is ::ffff:a.b.c.d, an IPv4 client of a socket for both families (RFC 4291,
-- section 2.5.5.2)
abbrev pub is_mapped : List ℕ → Bool
is_mapped bytes = u32_at bytes 8 == 0 && (u32_at bytes 12 == 0 && u32_at bytes 16 == 65535)

-- the IPv6 address as a number, by its four parts of 32 bits
abbrev pub v6_number : List ℕ → ℕ
v6_number bytes =
    4294967296 * (4294967296 * (4294967296 * u32_at bytes 8 + u32_at bytes 12) + u32_at bytes 16) +
    u32_at bytes 20

-- the IPv6 address, told as the IPv4 one that it holds where it is mapped
abbrev pub v6_of : List ℕ → Addr
v6_of bytes = if is_mapped bytes then V4 (u32_at bytes 20) else V6 (v6_number bytes)

-- the client whose socket address is the first so many of the bytes: 28 or more of family 10 for
-- IPv6, 16 or more of family 2 for IPv4
abbrev pub client_of : List ℕ → ℕ → Option Client
client_of bytes len =
    if family_of bytes == 10 then (if nat_lt len 28 then None else Some
    (record { address = v6_of bytes; port = u16_at bytes 2 }))
    else (if family_of bytes == 2
    && not (nat_lt len 16) then Some (record {
      address = V4 (u32_at bytes 4);
      port = u16_at bytes 2;
    }) else None)

-- the client before the first message
abbrev pub nobody : Client
nobody = record { address = V4 0; port = 0 }
