use Rattle.std.proofs.Common.{◌≡◌, ◌++◌, ◌+◌, ◌-◌, List, Some, take, map, length, sym, ap, ◌∙◌, arith}
use Rattle.dns_names.specs.Name.{labels_of}
use Rattle.dns_names.specs.NameLaws.{few}
use Rattle.dns_write.specs.Written.{OffsetData, earliest}
use Rattle.dns_write.specs.Offsets.{offset_of, suffixes_at}
use Rattle.dns_write.proofs.FirstName.{begins, found_first}
use Rattle.dns_write.proofs.Searching.{first_of_all}
use Rattle.dns_write.proofs.Writing.{same_suffix}
use Rattle.dns_write.proofs.offsets.Offsets.is_first.Goals as goal

pub returns-clause-offset : goal.returns-clause-offset
returns-clause-offset c = λ same.
    let i = c.self.inside in
    let wire = c.args.suffix.now in
    let s = labels_of wire in
    let w = begins i.first.now wire i.kept c.self.invariant.wire c.self.invariant.few in
    let labels = sym (same_suffix c.are_equal.result i.first.now wire c.self.invariant.wire c.requires c.are_equal.ensures) ∙ same in
    let here = found_first (i.kept - 1) w (omega (arith, c.if-self-eq0.false)) labels in
    let at : 12 + (length i.first.now - length i.first.now) ≡ 12 = omega arith in
    let behind = map offset_of (take i.count i.near ++ i.far.items) in
    sym (ap (λ (ps : List OffsetData). earliest ps s) c.self.view_is)
    ∙ first_of_all i.kept (suffixes_at 12 (labels_of i.first.now)) behind s 12 (sym here ∙ ap Some at)

pub returns-clause-some : goal.returns-clause-some
returns-clause-some c = λ same.
    let i = c.self.inside in
    let size : length i.first.now ≡ length c.args.suffix.now = ap length (c.are_equal.ensures.0 same) in
    omega (arith, size, few (labels_of i.first.now), ap length c.self.invariant.wire.spells, c.self.invariant.few, c.if-self-eq0.false)
