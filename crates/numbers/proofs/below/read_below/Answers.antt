use Rattle.std.proofs.Common.{drop, sym}
use Rattle.numbers.proofs.LargeNumbers.{too_large}
use Rattle.numbers.proofs.below.read_below.Goals as goal

pub returns-then-end-number-clause-value : goal.returns-then-end-number-clause-value
returns-then-end-number-clause-value c =
    sym (too_large c.args.end c.loop-byte.number c.args.text.now (drop c.loop-byte.byte-index c.args.text.now) c.if-end-number.true c.loop-byte.invariant.value)
