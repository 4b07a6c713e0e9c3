use Rattle.std.proofs.Common.{◌-◌, ◌+◌, length, arith, ap}
use Rattle.std.specs.Prelude.{slice_range}
use Rattle.dns_lists.proofs.Words.{goes_on, ends}
use Rattle.dns_lists.proofs.compare.are_same_words.Goals as goal

pub loop-at-preserved : goal.loop-at-preserved
loop-at-preserved c = record {
  same = goes_on c.args.a.now c.args.b.now c.loop-at.at c.loop-at.invariant.same (c.is_same_word.ensures.0 c.if-not-is_same_word.false);
  inside = omega (arith, c.loop-at-test.true);
}

pub returns : goal.returns
returns c =
    let last = length c.args.a.now - 8 in (
      λ h.
          ends c.args.a.now c.args.b.now c.loop-at.at last (omega (arith, c.requires.long)) c.requires.same (omega (arith, c.loop-at-test.false)) c.loop-at.invariant.same (c.is_same_word-2.ensures.0 h),
      λ e. c.is_same_word-2.ensures.1 (ap (λ t. slice_range t last (last + 8)) e),
    )
