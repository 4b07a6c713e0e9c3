use Rattle.std.proofs.Common.{drop, sym, arith}
use Rattle.dns_addr.proofs.ReadAddrs.{too_many}
use Rattle.dns_addr.proofs.net.read_bits.Goals as goal

pub returns-then-from-number : goal.returns-then-from-number
returns-then-from-number c =
    sym (too_many c.args.most c.loop-byte.number c.args.text.now (drop c.loop-byte.byte-index c.args.text.now) (omega (arith, c.if-from-number.true, c.from.ensures)) c.loop-byte.invariant.says)
