-- The plugin `whoami`: the answer that tells a client its own address and port. This server's own
-- rule.
use Rattle.std.specs.Prelude.{ℕ, ◌+◌, true, false, List, [], ◌∷◌, Option, Some, None, nat_lt, codes, if◌then◌else◌}
use Rattle.dns_data.specs.declared.rcode.TheConstants as rcodes
use Rattle.dns_names.specs.declared.limit.TheConstants as limits
use Rattle.dns_names.specs.Name.{wire_length}
use Rattle.dns_data.specs.Record.{RecordData, address_record, service_record}
use Rattle.dns_data.specs.Message.{AnswerData}
use Rattle.dns_data.specs.declared.query.Query.{Query}
use Rattle.dns_data.specs.declared.message.Transport.{Transport}
use Rattle.dns_data.specs.declared.message.Transport.TheVariants as transport

-- `_udp` or `_tcp`
abbrev pub transport_label : Transport → List ℕ
transport_label transport.Udp = codes "_udp"
transport_label transport.Tcp = codes "_tcp"

-- the name with the transport's label before it, where that is a name
abbrev pub srv_owner : Transport → List (List ℕ) → Option (List (List ℕ))
srv_owner by name =
    if nat_lt limits.NAME_BYTES (wire_length name + 5) then None else Some
    (transport_label by ∷ name)

-- the SRV record with the client's port, where its owner is a name
abbrev pub srv_records : Option (List (List ℕ)) → ℕ → List RecordData
srv_records None port = []
srv_records (Some owner) port = service_record owner 0 port ∷ []

-- every query is answered
unfoldable pub whoami_of : Query → AnswerData
whoami_of q = record {
  rcode = rcodes.NOERROR;
  aa = true;
  ra = false;
  tc = false;
  answer = [];
  authority = [];
  additional = address_record q.name 0 q.client ∷ srv_records (srv_owner q.by q.name) q.port;
}
