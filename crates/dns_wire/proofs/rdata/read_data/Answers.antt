use Rattle.dns_wire.proofs.Joining.{known_in, known_of}
use Rattle.dns_wire.proofs.rdata.read_data.Goals as goal

pub returns-in-1-clause-spelt : goal.returns-in-1-clause-spelt
returns-in-1-clause-spelt c = c.finish.ensures _ _ _ (c.u32.ensures _ _ _ _ c.new-data.ensures)

pub returns-in_ok-name-in-2-clause-spelt : goal.returns-in_ok-name-in-2-clause-spelt
returns-in_ok-name-in-2-clause-spelt c = c.finish-in-2.ensures _ _ _ (c.in_ok-name-in-2.ensures.compressed _ _ _ _ c.new-data.ensures)

pub returns-in_ok-name-in-5-clause-spelt : goal.returns-in_ok-name-in-5-clause-spelt
returns-in_ok-name-in-5-clause-spelt c = c.finish-in-5.ensures _ _ _ (c.in_ok-name-in-5.ensures.compressed _ _ _ _ c.new-data.ensures)

pub returns-in_ok-name-in-6-2-clause-spelt : goal.returns-in_ok-name-in-6-2-clause-spelt
returns-in_ok-name-in-6-2-clause-spelt c = c.finish-in-6.ensures _ _ _ (c.u32-in-6-5.ensures _ _ _ _ (c.u32-in-6-4.ensures _ _ _ _ (c.u32-in-6-3.ensures _ _ _ _ (c.u32-in-6-2.ensures _ _ _ _ (c.u32-in-6.ensures _ _ _ _ (c.in_ok-name-in-6-2.ensures.compressed _ _ _ _ (c.in_ok-name-in-6.ensures.compressed _ _ _ _ c.new-data.ensures)))))))

pub returns-in_ok-name-in-12-clause-spelt : goal.returns-in_ok-name-in-12-clause-spelt
returns-in_ok-name-in-12-clause-spelt c = c.finish-in-12.ensures _ _ _ (c.in_ok-name-in-12.ensures.compressed _ _ _ _ c.new-data.ensures)

pub returns-in_ok-string-in-13-2-clause-spelt : goal.returns-in_ok-string-in-13-2-clause-spelt
returns-in_ok-string-in-13-2-clause-spelt c = c.finish-in-13.ensures _ _ _ (c.in_ok-string-in-13-2.ensures _ _ _ _ (c.in_ok-string-in-13.ensures _ _ _ _ c.new-data.ensures))

pub returns-in_ok-name-in-15-clause-spelt : goal.returns-in_ok-name-in-15-clause-spelt
returns-in_ok-name-in-15-clause-spelt c = c.finish-in-15.ensures _ _ _ (c.in_ok-name-in-15.ensures.compressed _ _ _ _ (c.u16.ensures _ _ _ _ c.new-data.ensures))

pub returns-in_ok-strings-in-16-clause-spelt : goal.returns-in_ok-strings-in-16-clause-spelt
returns-in_ok-strings-in-16-clause-spelt c = c.finish-in-16.ensures _ _ _ (c.in_ok-strings-in-16.ensures _ _ _ _ c.new-data.ensures)

pub returns-in-28-clause-spelt : goal.returns-in-28-clause-spelt
returns-in-28-clause-spelt c = c.finish-in-28.ensures _ _ _ (c.u128.ensures _ _ _ _ c.new-data.ensures)

pub returns-in_ok-name-in-33-clause-spelt : goal.returns-in_ok-name-in-33-clause-spelt
returns-in_ok-name-in-33-clause-spelt c = c.finish-in-33.ensures _ _ _ (c.in_ok-name-in-33.ensures.uncompressed _ _ _ _ (c.u16-in-33-3.ensures _ _ _ _ (c.u16-in-33-2.ensures _ _ _ _ (c.u16-in-33.ensures _ _ _ _ c.new-data.ensures))))

pub returns-in_ok-remainder-in-257-clause-spelt : goal.returns-in_ok-remainder-in-257-clause-spelt
returns-in_ok-remainder-in-257-clause-spelt c = c.finish-in-257.ensures _ _ _ (c.in_ok-remainder-in-257.ensures _ _ _ _ (c.in_ok-non_empty-in-257.ensures _ _ _ _ (c.u8.ensures _ _ _ _ c.new-data.ensures)))

pub name-requires-in-6-2 : goal.name-requires-in-6-2
name-requires-in-6-2 c = record {
  known = known_in (c.in_ok-name-in-6.ensures.compressed _ _ _ _ c.new-data.ensures) c.name-in-6.new.known (known_of c.new-data.ensures c.name-in-6.new.known c.in_ok-name-in-6.ensures.known);
}

pub returns-in_err-name-in-6-2-clause-known : goal.returns-in_err-name-in-6-2-clause-known
returns-in_err-name-in-6-2-clause-known c = known_of (c.in_ok-name-in-6.ensures.compressed _ _ _ _ c.new-data.ensures) c.name-in-6-2.new.known c.in_err-name-in-6-2.ensures.known

pub returns-in_ok-name-in-6-2-clause-known : goal.returns-in_ok-name-in-6-2-clause-known
returns-in_ok-name-in-6-2-clause-known c = known_of (c.in_ok-name-in-6.ensures.compressed _ _ _ _ c.new-data.ensures) c.name-in-6-2.new.known c.in_ok-name-in-6-2.ensures.known

pub name-requires-in-15 : goal.name-requires-in-15
name-requires-in-15 c = record { known = known_in (c.u16.ensures _ _ _ _ c.new-data.ensures) c.args.known.now c.requires.known }

pub returns-in_err-name-in-15-clause-known : goal.returns-in_err-name-in-15-clause-known
returns-in_err-name-in-15-clause-known c = known_of (c.u16.ensures _ _ _ _ c.new-data.ensures) c.name-in-15.new.known c.in_err-name-in-15.ensures.known

pub returns-in_ok-name-in-15-clause-known : goal.returns-in_ok-name-in-15-clause-known
returns-in_ok-name-in-15-clause-known c = known_of (c.u16.ensures _ _ _ _ c.new-data.ensures) c.name-in-15.new.known c.in_ok-name-in-15.ensures.known

pub name-requires-in-33 : goal.name-requires-in-33
name-requires-in-33 c = record {
  known = known_in (c.u16-in-33-3.ensures _ _ _ _ (c.u16-in-33-2.ensures _ _ _ _ (c.u16-in-33.ensures _ _ _ _ c.new-data.ensures))) c.args.known.now c.requires.known;
}

pub returns-in_err-name-in-33-clause-known : goal.returns-in_err-name-in-33-clause-known
returns-in_err-name-in-33-clause-known c =
    known_of (c.u16-in-33-3.ensures _ _ _ _ (c.u16-in-33-2.ensures _ _ _ _ (c.u16-in-33.ensures _ _ _ _ c.new-data.ensures))) c.name-in-33.new.known c.in_err-name-in-33.ensures.known

pub returns-in_ok-name-in-33-clause-known : goal.returns-in_ok-name-in-33-clause-known
returns-in_ok-name-in-33-clause-known c =
    known_of (c.u16-in-33-3.ensures _ _ _ _ (c.u16-in-33-2.ensures _ _ _ _ (c.u16-in-33.ensures _ _ _ _ c.new-data.ensures))) c.name-in-33.new.known c.in_ok-name-in-33.ensures.known
