use Rattle.std.proofs.Common.{List, map, sym, ap, ◌∙◌, arith}
use Rattle.std.proofs.lemmas.List.{drop_all}
use Rattle.dns_names.specs.Name.{labels_of}
use Rattle.dns_write.specs.Written.{earliest}
use Rattle.dns_write.specs.Offsets.{offset_of, IsOffset}
use Rattle.dns_write.proofs.Writing.{same_suffix}
use Rattle.dns_write.proofs.Searching.{Stored, all_at, found_here, passed_here, none_left}
use Rattle.dns_write.proofs.offsets.find_among.Goals as goal

pub returns-then-are_equal-clause-value : goal.returns-then-are_equal-clause-value
returns-then-are_equal-clause-value c =
    let i = c.loop-offset.offset-index in
    let wire = (all_at IsOffset c.args.offsets.now i _ c.requires.offsets (omega arith)).0 in
    let same = sym (same_suffix c.are_equal.result _ c.args.suffix.now wire c.requires.wire c.are_equal.ensures) ∙ c.if-are_equal.true in
    sym (found_here c.args.offsets.now i _ (labels_of c.args.suffix.now) (omega arith) same) ∙ c.loop-offset.invariant

pub returns-then-are_equal-clause-small : goal.returns-then-are_equal-clause-small
returns-then-are_equal-clause-small c = (all_at IsOffset c.args.offsets.now c.loop-offset.offset-index _ c.requires.offsets (omega arith)).1

pub loop-offset-preserved : goal.loop-offset-preserved
loop-offset-preserved c =
    let i = c.loop-offset.offset-index in
    let wire = (all_at IsOffset c.args.offsets.now i _ c.requires.offsets (omega arith)).0 in
    let other = sym (same_suffix c.are_equal.result _ c.args.suffix.now wire c.requires.wire c.are_equal.ensures) ∙ c.if-are_equal.false in
    sym (passed_here c.args.offsets.now i _ (labels_of c.args.suffix.now) (omega arith) other) ∙ c.loop-offset.invariant

pub returns-clause-value : goal.returns-clause-value
returns-clause-value c =
    let s = labels_of c.args.suffix.now in
    sym (none_left s) ∙ ap (λ (ps : List Stored). earliest (map offset_of ps) s) (sym (drop_all c.loop-offset.offset-index c.args.offsets.now c.loop-offset-test.false)) ∙ c.loop-offset.invariant
