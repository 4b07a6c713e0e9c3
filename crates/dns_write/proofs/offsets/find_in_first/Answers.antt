use Rattle.std.proofs.Common.{◌-◌, sym, ◌∙◌, arith}
use Rattle.dns_write.proofs.FirstName.{has_room, goes_on, all_passed, found_first, none_first, short_wire}
use Rattle.dns_write.proofs.Writing.{same_suffix}
use Rattle.dns_write.proofs.offsets.find_in_first.Goals as goal

pub returns-then-left-eq0-clause-value : goal.returns-then-left-eq0-clause-value
returns-then-left-eq0-clause-value c = all_passed c.loop-rest.invariant c.if-left-eq0.true

pub slice_bounds-rest-count : goal.slice_bounds-rest-count
slice_bounds-rest-count c = has_room c.loop-rest.invariant c.loop-rest-test.true

pub slice_bounds-rest-start : goal.slice_bounds-rest-start
slice_bounds-rest-start c = has_room c.loop-rest.invariant c.loop-rest-test.true

pub loop-rest-preserved : goal.loop-rest-preserved
loop-rest-preserved c = goes_on c.loop-rest.invariant c.requires.wire c.loop-rest-test.true (omega (arith, c.if-left-eq0.false))

pub returns-then-left-eq0-2-clause-value : goal.returns-then-left-eq0-2-clause-value
returns-then-left-eq0-2-clause-value c = all_passed c.loop-rest.invariant c.if-left-eq0-2.true

pub returns-then-not-are_equal-clause-value : goal.returns-then-not-are_equal-clause-value
returns-then-not-are_equal-clause-value c =
    let w = c.loop-rest.invariant in
    let other = sym (same_suffix c.are_equal.result c.loop-rest.rest.now c.args.suffix.now w.wire c.requires.wire c.are_equal.ensures) ∙ c.if-not-are_equal.true in
    none_first (c.loop-rest.left - 1) w c.requires.wire (omega (arith, c.if-left-eq0-2.false)) (omega (arith, c.loop-rest-test.false)) other

pub returns-clause-value : goal.returns-clause-value
returns-clause-value c =
    let w = c.loop-rest.invariant in
    let same = sym (same_suffix c.are_equal.result c.loop-rest.rest.now c.args.suffix.now w.wire c.requires.wire c.are_equal.ensures) ∙ c.if-not-are_equal.false in
    found_first (c.loop-rest.left - 1) w (omega (arith, c.if-left-eq0-2.false)) same

pub returns-clause-small : goal.returns-clause-small
returns-clause-small c = omega (arith, short_wire c.args.first.now c.requires.first)
