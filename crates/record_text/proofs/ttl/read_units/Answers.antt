use Rattle.std.proofs.Common.{sym, arith, ◌∙◌}
use Rattle.record_text.proofs.LargeTtls.{large_digits}
use Rattle.record_text.proofs.ttl.read_units.Goals as goal

pub returns-then-from-digits-clause-value : goal.returns-then-from-digits-clause-value
returns-then-from-digits-clause-value c =
    sym (large_digits c.loop-byte.total c.loop-byte.number c.args.text.now c.loop-byte.rest.now c.in-Some.behind.now c.in-Some.byte.now c.loop-byte.invariant.says c.in-Some.ensures.cases.0
    (sym c.is_ascii_digit.ensures.value ∙ c.if-is_ascii_digit.true) (let a = c.if-from-digits.true in let b = c.unwrap_or.ensures in let d = c.from.ensures in let e = c.from-then-is_ascii_digit.ensures in omega (arith, a, b, d, e)))
