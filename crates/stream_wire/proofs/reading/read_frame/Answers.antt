use Rattle.std.proofs.Common.{take, arith}
use Rattle.stream_wire.proofs.Steps.{as_read, cut_length}
use Rattle.stream_wire.proofs.reading.read_frame.Goals as goal

pub returns-in-Full : goal.returns-in-Full
returns-in-Full g c =
    let l = c.length_of.ensures in
    as_read _ _ _ c.fill.new.buffer c.length_of.result c.fill.auto.buffer l.is l.high l.low c.in-Full.ensures _ c.read_message.ensures

pub returns-in-Failed : goal.returns-in-Failed
returns-in-Failed g c =
    let e = c.in-Failed.ensures in
    let two = c.fill.auto.buffer in
    (take e.0 c.fill.new.buffer, cut_length c.fill.new.buffer two e.0 (omega (arith, e.1, two)), e.2)
