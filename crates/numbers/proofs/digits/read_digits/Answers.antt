use Rattle.std.proofs.Common.{◌≡◌, ◌≤◌, ◌^◌, sym, ap, ◌∙◌, Some, subst, All, take, take_all, refl, arith}
use Rattle.std.proofs.Math.Nat.{pow-le-pow_right}
use Rattle.std.specs.Char.{IsAsciiDigit}
use Rattle.numbers.specs.Number.{decimal}
use Rattle.numbers.proofs.Numbers.{fits, one_digit, number_no, number_yes}
use Rattle.numbers.proofs.digits.read_digits.Goals as goal

pub overflow_mul-number : goal.overflow_mul-number
overflow_mul-number c = let f = fits c.loop-byte.byte-index c.loop-byte.number c.loop-byte.invariant.small (omega arith) in omega (arith, f)

pub overflow_add-number : goal.overflow_add-number
overflow_add-number c = let f = fits c.loop-byte.byte-index c.loop-byte.number c.loop-byte.invariant.small (omega arith) in omega (arith, f)

pub loop-byte-preserved : goal.loop-byte-preserved
loop-byte-preserved c =
    one_digit c.args.text.now c.loop-byte.byte-index c.loop-byte.number _ c.loop-byte.invariant c.loop-byte-test.true (omega arith, omega arith) refl

pub returns-then-text-eq0-clause-value : goal.returns-then-text-eq0-clause-value
returns-then-text-eq0-clause-value c = sym (number_no c.args.most c.args.text.now (λ some few digits. omega arith))

pub returns-then-byte-lt48-clause-value : goal.returns-then-byte-lt48-clause-value
returns-then-byte-lt48-clause-value c = sym (number_no c.args.most c.args.text.now (λ some few digits.
    let digit = digits c.loop-byte.byte-index 0 (omega arith) in let low = digit.0 in omega (arith, low)))

pub returns-then-byte-gt57-clause-value : goal.returns-then-byte-gt57-clause-value
returns-then-byte-gt57-clause-value c = sym (number_no c.args.most c.args.text.now (λ some few digits.
    let digit = digits c.loop-byte.byte-index 0 (omega arith) in let high = digit.1 in omega (arith, high)))

pub returns-clause-value : goal.returns-clause-value
returns-clause-value c =
    let whole : take c.loop-byte.byte-index c.args.text.now ≡ c.args.text.now = take_all c.loop-byte.byte-index c.args.text.now (omega arith) in
    ap Some (c.loop-byte.invariant.value ∙ ap decimal whole)
    ∙ sym (number_yes c.args.most c.args.text.now (omega arith) (omega arith) (subst (All IsAsciiDigit) whole c.loop-byte.invariant.digits))

pub returns-clause-small : goal.returns-clause-small
returns-clause-small c =
    let up : 10 ^ c.loop-byte.byte-index ≤ 10 ^ c.args.most = pow-le-pow_right {n = 10} (omega arith) {i = c.loop-byte.byte-index} {j = c.args.most} (omega arith) in
    let small = c.loop-byte.invariant.small in omega (arith, small, up)
