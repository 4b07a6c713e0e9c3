use Rattle.dns_data.specs.Record.{IsData}
use Rattle.dns_data.proofs.Rooms.{either_holds}
use Rattle.dns_data.proofs.record.Record.set.Goals as goal

pub invariant_of-self-2 : goal.invariant_of-self-2
invariant_of-self-2 c = record {
  owner = c.wire_len.ensures.proper;
  class = c.other.invariant.class;
  ttl = c.requires;
  rdata = either_holds IsData _ _ _ _ c.set-2.ensures.ok c.set-2.ensures.err c.other.invariant.rdata c.self.invariant.rdata;
}
