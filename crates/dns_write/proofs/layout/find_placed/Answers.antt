use Rattle.std.proofs.Common.{sym, ap, ◌∙◌, arith, Some}
use Rattle.std.specs.Prelude.{option_map}
use Rattle.dns_names.specs.Name.{labels_of}
use Rattle.dns_write.specs.Tails.{spot_of}
use Rattle.dns_write.proofs.Writing.{same_suffix}
use Rattle.dns_write.proofs.Layouts.{all_placed_at, placed_at, passed_at, none_placed, spot_is}
use Rattle.dns_write.proofs.layout.find_placed.Goals as goal

pub returns-then-are_equal : goal.returns-then-are_equal
returns-then-are_equal c =
    let i = c.loop-other.other-index in
    let wire = all_placed_at c.args.placed.now i _ c.requires.placed (omega arith) in
    let same = sym (same_suffix c.are_equal.result _ c.args.suffix.now wire c.requires.wire c.are_equal.ensures) ∙ c.if-are_equal.true in
    let found = sym (placed_at c.args.placed.now i _ (labels_of c.args.suffix.now) (omega arith) same) ∙ c.loop-other.invariant in
    ap Some (sym (spot_is c.args.at _ _)) ∙ ap (option_map (spot_of c.args.at)) found

pub loop-other-preserved : goal.loop-other-preserved
loop-other-preserved c =
    let i = c.loop-other.other-index in
    let wire = all_placed_at c.args.placed.now i _ c.requires.placed (omega arith) in
    let other = sym (same_suffix c.are_equal.result _ c.args.suffix.now wire c.requires.wire c.are_equal.ensures) ∙ c.if-are_equal.false in
    sym (passed_at c.args.placed.now i _ (labels_of c.args.suffix.now) (omega arith) other) ∙ c.loop-other.invariant

pub returns : goal.returns
returns c =
    let none = sym (none_placed c.args.placed.now c.loop-other.other-index (labels_of c.args.suffix.now) (omega (arith, c.loop-other-test.false))) ∙ c.loop-other.invariant in
    ap (option_map (spot_of c.args.at)) none
