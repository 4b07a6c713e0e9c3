-- The key under which an answer is kept. This server's own rule.
use Rattle.dns_data.specs.{lowered}
use Rattle.dns_data.specs.declared.query.Query.{Query}
use Rattle.outside.specs.declared.entry.Key.{Key}

-- the name in small letters, the type, and the client's DO and CD bits
abbrev pub key_of : Query → Key
key_of q = record { name = lowered q.name; kind = q.kind; dnssec = q.dnssec; cd = q.cd }
