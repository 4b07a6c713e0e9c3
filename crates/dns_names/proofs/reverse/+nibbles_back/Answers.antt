use Rattle.std.proofs.Common.{◌-◌, arith}
use Rattle.dns_names.proofs.ReverseWalks.{low_power, power_step}
use Rattle.dns_names.proofs.reverse.+nibbles_back.Goals as goal

pub overflow_mul-result : goal.overflow_mul-result
overflow_mul-result t c = omega (arith, c.in_ok-nibbles_back.ensures.small, low_power (c.args.count - 1) (omega (arith, c.requires)))

pub overflow_add-result : goal.overflow_add-result
overflow_add-result t c =
    omega (arith, c.in_ok-nibbles_back.ensures.small, low_power (c.args.count - 1) (omega (arith, c.requires)), c.in_ok-nibble.ensures.small, c.from-digit.ensures)

pub returns-clause-small : goal.returns-clause-small
returns-clause-small t c =
    omega (arith, c.in_ok-nibbles_back.ensures.small, power_step c.args.count (omega (arith, c.if-count-eq0.false)), c.in_ok-nibble.ensures.small, c.from-digit.ensures)
