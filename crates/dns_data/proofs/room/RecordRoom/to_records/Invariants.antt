use Rattle.std.proofs.Common.{◌≡◌, take}
use Rattle.dns_data.proofs.room.RecordRoom.to_records.Given as goal

abbrev pub invariant-loop-entry : goal.invariant-loop-entry
invariant-loop-entry l = l.records ≡ take l.entry-index l.self
