use Rattle.std.proofs.Common.{rules, ◌≡◌, ◌≤◌, ◌+◌, ◌++◌, length, take, arith}
use Rattle.stream_wire.proofs.Steps.{takes-then, takes-then-fails, length_more}
use Rattle.stream_wire.proofs.reading.read_message.Goals as goal

pub returns-in-Ended : goal.returns-in-Ended
returns-in-Ended g c =
    let e = c.in-Ended.ensures in
    let have : length c.loop-bytes.bytes.items ≡ c.len-have.result = search rules in
    let room : c.len-have.result + length c.fill.new.buffer ≤ c.args.want = search rules in
    let more = length_more c.loop-bytes.bytes.items c.fill.new.buffer c.in-Ended.more (omega (arith, e.0)) in
    (c.from-want.ensures, omega (arith, room, e.0), c.loop-bytes.bytes.items ++ take c.in-Ended.more c.fill.new.buffer, omega (arith, have, more), takes-then c.loop-bytes.invariant.takes e.1, e.2)

pub returns-in-Failed : goal.returns-in-Failed
returns-in-Failed g c =
    let e = c.in-Failed.ensures in
    let have : length c.loop-bytes.bytes.items ≡ c.len-have.result = search rules in
    let room : c.len-have.result + length c.fill.new.buffer ≤ c.args.want = search rules in
    let more = length_more c.loop-bytes.bytes.items c.fill.new.buffer e.0 (omega (arith, e.1)) in
    (c.loop-bytes.bytes.items ++ take e.0 c.fill.new.buffer, omega (arith, have, room, e.1, more), takes-then-fails c.loop-bytes.invariant.takes e.2)
