use Rattle.std.proofs.Common.{sym, ◌∙◌}
use Rattle.dns_wire.proofs.Reading.{fails}
use Rattle.dns_wire.proofs.Sections.{not_none}
use Rattle.dns_wire.proofs.Unique.{one_section}
use Rattle.dns_wire.proofs.section.read_records.Goals as goal

pub returns-in_err-section-clause-spelt : goal.returns-in_err-section-clause-spelt
returns-in_err-section-clause-spelt c =
    fails c.in_err-section.field-0.0 c.in_err-section.ensures.spelt c.from_residual.result c.from_residual.ensures.1 (λ found h. (record { records = found.0; opt = _; behind = found.1 }, h))

pub returns-then-is_some-clause-spelt : goal.returns-then-is_some-clause-spelt
returns-then-is_some-clause-spelt c = λ found h.
    let none = sym (one_section h c.in_ok-section.ensures.spelt).opt in
    not_none c.in_ok-section.section.opt (sym c.is_some.ensures ∙ c.if-is_some.true) none
