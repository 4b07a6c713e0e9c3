-- What the sides and the watch of a load are to give. This server's own rule.
use Rattle.std.specs.Prelude.{Bool, true, false, List, [], ◌∷◌, Some, codes, filter, ℕ}
use Rattle.dns_data.specs.declared.message.Transport.{Transport}
use Rattle.dns_data.specs.declared.message.Transport.TheVariants as transport
use Rattle.outside.specs.declared.datagram.Datagram.{Datagram}
use Rattle.outside.specs.declared.script.FileSet.{FileSet}
use Rattle.load_maker.specs.declared.load.Load.{Load}

-- the names of the two files
abbrev pub conf_name : List ℕ
conf_name = codes "/Corefile"

abbrev pub zone_name : List ℕ
zone_name = codes "/db.load"

-- both ways of travelling are the same
abbrev pub same_transport : Transport → Transport → Bool
same_transport transport.Udp transport.Udp = true
same_transport transport.Udp transport.Tcp = false
same_transport transport.Tcp transport.Udp = false
same_transport transport.Tcp transport.Tcp = true

abbrev pub is_by : Transport → Datagram → Bool
is_by by datagram = same_transport datagram.by by

-- the queries that come by a transport, in their order
abbrev pub queries_by : Transport → List Datagram → List Datagram
queries_by by datagrams = filter (is_by by) datagrams

-- the files: a form of the Corefile, and the zone
abbrev pub files_with : List ℕ → List ℕ → FileSet
files_with conf zone = record {
  files =
      record { name = conf_name; bytes = Some conf }
      ∷ record { name = zone_name; bytes = Some zone } ∷ [];
}

-- what the watch finds: the Corefile at the start, and its second form at the one look
abbrev pub looks_of : Load → List FileSet
looks_of load = files_with load.conf load.zone ∷ files_with load.second load.zone ∷ []
