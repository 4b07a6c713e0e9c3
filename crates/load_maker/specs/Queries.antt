-- The queries of a load, as messages (RFC 1035, section 4.1).
use Rattle.std.specs.Prelude.{ℕ, zero, suc, ◌*◌, ◌/◌, ◌%◌, nat_eq, nat_lt, List, [], ◌∷◌, ◌++◌}
use Rattle.std.specs.Prelude.{codes, length, if◌then◌else◌}
use Rattle.std.specs.Fmt.{decimal}
use Rattle.dns_data.specs.declared.message.Transport.{Transport}
use Rattle.dns_data.specs.declared.message.Transport.TheVariants as transport
use Rattle.dns_addr.specs.declared.addr.Addr.TheVariants as addr
use Rattle.outside.specs.declared.datagram.Datagram.{Datagram}

-- the number of the name that a query asks for
abbrev pub asked_of : ℕ → ℕ
asked_of index = 617 * index % 1500

-- the first label of a name
abbrev pub label_of : ℕ → List ℕ
label_of number = codes "h" ++ decimal number

-- what stands behind it: load.test below 1,400, else other.test
abbrev pub suffix_of : ℕ → List ℕ
suffix_of number =
    if nat_lt number 1400 then 4 ∷ codes "load" ++ 4 ∷ codes "test" ++ 0 ∷ []
    else 5 ∷ codes "other" ++ 4 ∷ codes "test" ++ 0 ∷ []

-- a name as a message has it
abbrev pub wire_name : ℕ → List ℕ
wire_name number = length (label_of number) ∷ label_of number ++ suffix_of number

-- the header: the id is what of the number 16 bits hold, RD is set, and there is one question
abbrev pub head_of : ℕ → List ℕ
head_of index =
    index / 256 % 256 ∷ index % 256 ∷ 1 ∷ 0 ∷ 0 ∷ 1 ∷ 0 ∷ 0 ∷ 0 ∷ 0 ∷ 0 ∷ 0 ∷ []

-- even queries come over UDP, odd ones over TCP
abbrev pub by_of : ℕ → Transport
by_of index = if nat_eq (index % 2) 0 then transport.Udp else transport.Tcp

-- a query for type A and class IN, from 127.0.0.1 port 5000 to port 53
abbrev pub datagram_of : ℕ → Datagram
datagram_of index = record {
  bytes = head_of index ++ wire_name (asked_of index) ++ 0 ∷ 1 ∷ 0 ∷ 1 ∷ [];
  client = addr.V4 2130706433;
  port = 5000;
  by = by_of index;
  local = 53;
}

-- the queries below a number
abbrev pub queries_of : ℕ → List Datagram
queries_of zero = []
queries_of (suc index) = queries_of index ++ datagram_of index ∷ []
