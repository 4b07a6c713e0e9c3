-- What decides for a datagram in front of any chain: its bytes, its version of EDNS, its class, or
-- which block is picked. This server's own rule.
use Rattle.std.specs.Prelude.{◌≡◌, ◌≤◌, ◌<◌, ℕ, nat_eq, true, false, List, length}
use Rattle.std.specs.Prelude.{Option, Some, None, Result, Ok, Err}
use Rattle.dns_data.specs.declared.block.Block.{Block}
use Rattle.dns_data.specs.declared.class.TheConstants as classes
use Rattle.dns_data.specs.declared.limit.TheConstants as limits
use Rattle.dns_data.specs.declared.message.Opt.{Opt}
use Rattle.dns_data.specs.declared.query.Query.{Query}
use Rattle.dns_lists.specs.declared.memory.NoMemory.{NoMemory}
use Rattle.dns_wire.specs.Asked.{QueriesThis}
use Rattle.dns_wire.specs.Wire.{flag_at}
use Rattle.outside.specs.declared.datagram.Datagram.{Datagram}
use Rattle.plugin_api.specs.{picked}
use Rattle.chain_meaning.specs.Serving.{is_known_version}
use Rattle.plain_chain.specs.Serving.{IsHeader}
use Rattle.plain_chain.specs.declared.arriving.Arrival.{Arrival}
use Rattle.plain_chain.specs.declared.arriving.Arrival.TheVariants as arrival
use Rattle.plain_chain.specs.declared.arriving.Course.{Course}
use Rattle.plain_chain.specs.declared.arriving.Course.TheVariants as course

-- this came by a datagram
abbrev pub Arrives : Datagram → Result Arrival NoMemory → Type 0
Arrives d (Ok arrival.Short) = length d.bytes < limits.HEADER_BYTES
Arrives d (Ok arrival.Response) =
    (limits.HEADER_BYTES ≤ length d.bytes) × (flag_at d.bytes 2 7 ≡ true)
Arrives d (Ok (arrival.Header reply)) = IsHeader d reply
Arrives d (Ok (arrival.Asks asked)) = QueriesThis d.bytes asked
Arrives d (Err e) = Unit {0}

-- this decides for a query with this OPT record and class
abbrev pub IsCourse : Option Opt → ℕ → List Block → Query → Course → Type 0
IsCourse opt class blocks q course.Version = is_known_version opt ≡ false
IsCourse opt class blocks q course.Class =
    (is_known_version opt ≡ true) × (nat_eq class classes.IN ≡ false)
IsCourse opt class blocks q course.NoBlock =
    (is_known_version opt ≡ true)
    × (nat_eq class classes.IN ≡ true) × (picked blocks q.local q.name ≡ None)
IsCourse opt class blocks q (course.Block number) =
    (is_known_version opt ≡ true)
    × (nat_eq class classes.IN ≡ true) × (picked blocks q.local q.name ≡ Some number)
