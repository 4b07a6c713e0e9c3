use Rattle.std.proofs.Common.{◌≡◌, take}
use Rattle.load_maker.specs.Scripts.{queries_by}
use Rattle.load_maker.proofs.load.Load.side.Given as goal

abbrev pub invariant-loop-datagram : goal.invariant-loop-datagram
invariant-loop-datagram l = l.gets.items ≡ queries_by l.by (take l.datagram-index l.self.datagrams)
