-- Sections that stand ready in a zone, for the many answers that end in them.
use Rattle.std.specs.Prelude.{◌≡◌, List, [], map, Option, Some, None}
use Rattle.dns_data.specs.Record.{RecordData}
use Rattle.dns_data.specs.Message.{AnswerData}
use Rattle.dns_data.specs.declared.zone.Zone.{Zone}
use Rattle.dns_data.specs.declared.kind.TheConstants as kinds
use Rattle.dns_write.specs.Tails.{TailData, with_tail}
use Rattle.zone_lookup.specs.Zone.{set_at}
use Rattle.zone_lookup.specs.ZoneAnswer.{denying, with_hosts}

-- an answer with the records that are lent to it, where some are
abbrev pub ended_by : AnswerData → Option TailData → AnswerData
ended_by a None = a
ended_by a (Some tail) = with_tail a tail

-- the zone's servers, and those addresses of their hosts that aren't in the answer section
pub record IsReady (zone : Zone) (answer : List RecordData) (tail : TailData) : Type 0 where
  pub authority : tail.authority ≡ set_at zone zone.origin kinds.NS
  pub additional : tail.additional
      ≡ with_hosts zone answer [] (set_at zone zone.origin kinds.NS)

-- the SOA of a denial
pub record IsDenial (zone : Zone) (tail : TailData) : Type 0 where
  pub authority : tail.authority ≡ map denying (set_at zone zone.origin kinds.SOA)
  pub additional : tail.additional ≡ []

-- these records as the authority section, and those addresses of their hosts that aren't in the
-- answer section
pub record StandsBehind (zone : Zone) (answer records : List RecordData) (tail : TailData)
    : Type 0 where
  pub authority : tail.authority ≡ records
  pub additional : tail.additional ≡ with_hosts zone answer [] records
