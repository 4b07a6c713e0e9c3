use Rattle.std.proofs.Common.{◌≡◌, ◌+◌, suc, take, None, ◌∙◌, refl, sym, ap, subst, arith}
use Rattle.std.proofs.lemmas.Option.{slice_get_past, slice_get_read}
use Rattle.corefile_blocks.specs.Seeking.{first_missing, has_file}
use Rattle.corefile_blocks.proofs.SeekLemmas.{known_all, known_more, known_to}
use Rattle.corefile_blocks.proofs.seeking.known.Goals as goal

pub returns-then-not-has_file-clause-next : goal.returns-then-not-has_file-clause-next
returns-then-not-has_file-clause-next c =
    let lookup = c.in-Some.ensures.lookup in
    let is = slice_get_read c.args.names.now _ c.loop-name.at c.in-Some.name.now refl lookup.3.0 lookup.1 in
    let lacks = ap (has_file c.args.bundle.now) (sym c.as_str.ensures) ∙ sym c.has_file.ensures ∙ c.if-not-has_file.true in
    known_to c.args.bundle.now c.args.names.now c.loop-name.at c.in-Some.name.now is c.loop-name.invariant.known lacks ∙ sym is

pub loop-name-preserved : goal.loop-name-preserved
loop-name-preserved c =
    let lookup = c.in-Some.ensures.lookup in
    let inside = lookup.3.0 in
    let is = slice_get_read c.args.names.now _ c.loop-name.at c.in-Some.name.now refl inside lookup.1 in
    let there = ap (has_file c.args.bundle.now) (sym c.as_str.ensures) ∙ sym c.has_file.ensures ∙ c.if-not-has_file.false in
    let more : suc c.loop-name.at ≡ c.loop-name.at + 1 = omega arith in
    record {
      inside = omega (arith, inside);
      known = subst (λ n. first_missing c.args.bundle.now (take n c.args.names.now) ≡ None) more
          (known_more c.args.bundle.now c.args.names.now c.loop-name.at c.in-Some.name.now is c.loop-name.invariant.known there);
    }

pub returns-clause-next : goal.returns-clause-next
returns-clause-next c =
    let is = slice_get_past c.args.names.now c.loop-name.at c.in_default.ensures.lookup.3 in
    known_all c.args.bundle.now c.args.names.now c.loop-name.at is c.loop-name.invariant.known ∙ sym is
