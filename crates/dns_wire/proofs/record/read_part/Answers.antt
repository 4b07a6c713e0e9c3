use Rattle.std.proofs.Common.{ap, subst, sym, ◌∙◌}
use Rattle.dns_names.specs.Name.{wire_length}
use Rattle.dns_wire.specs.Wire.{WholeNameAt}
use Rattle.dns_wire.proofs.Reading.{fails}
use Rattle.dns_wire.proofs.Parts.{owned, ends_here, opt_owner, root_only, data_here}
use Rattle.dns_wire.proofs.record.read_part.Goals as goal

pub returns-in_err-owner-clause-spelt : goal.returns-in_err-owner-clause-spelt
returns-in_err-owner-clause-spelt c =
    fails c.in_err-owner.field-0.0 c.in_err-owner.ensures.spelt c.from_residual.result c.from_residual.ensures.1 (λ found h. let o = owned found.0 h in ((o.name, o.middle), o.owner))

pub returns-in_default-end_of_part-clause-spelt : goal.returns-in_default-end_of_part-clause-spelt
returns-in_default-end_of_part-clause-spelt c = λ found h. c.in_default-end_of_part.ensures.none found.1 (ends_here c.in_ok-owner.ensures.spelt (owned found.0 h))

pub returns-then-wire_len-ne1-clause-spelt : goal.returns-then-wire_len-ne1-clause-spelt
returns-then-wire_len-ne1-clause-spelt c = λ found h.
    let root = opt_owner found.0 found.1 h c.in_ok-owner.ensures.spelt (sym c.u16_at-kind.ensures ∙ c.if-kind-eq-OPT.true) in
    c.if-wire_len-ne1.true (c.wire_len.ensures.value ∙ ap wire_length root)

pub returns-then-kind-eq-OPT-clause-spelt : goal.returns-then-kind-eq-OPT-clause-spelt
returns-then-kind-eq-OPT-clause-spelt c =
    let root = root_only c.in_ok-owner.owner (sym c.wire_len.ensures.value ∙ c.if-wire_len-ne1.false) in
    record {
      middle = c.in_ok-owner.middle;
      owner = subst (λ name. WholeNameAt c.args.bytes.now c.args.at name c.in_ok-owner.middle) root c.in_ok-owner.ensures.spelt;
      ends = c.in-Some-end_of_part.ensures.found;
      kind = sym c.u16_at-kind.ensures ∙ c.if-kind-eq-OPT.true;
      fields = c.opt_at.ensures;
    }

pub returns-in_err-rdata-clause-spelt : goal.returns-in_err-rdata-clause-spelt
returns-in_err-rdata-clause-spelt c =
    fails c.in_err-rdata.field-0.0 c.in_err-rdata.ensures.spelt.spelt c.from_residual-in_err-rdata.result c.from_residual-in_err-rdata.ensures.1
    (λ found h. rw c.u16_at-kind.ensures (data_here found.0 found.1 h c.in_ok-owner.ensures.spelt c.in-Some-end_of_part.ensures.found (λ is. c.if-kind-eq-OPT.false (c.u16_at-kind.ensures ∙ is))))
