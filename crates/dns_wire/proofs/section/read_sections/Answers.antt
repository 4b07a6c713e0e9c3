use Rattle.dns_wire.proofs.Reading.{fails}
use Rattle.dns_wire.proofs.Messages.{answer_here, authority_here, additional_here}
use Rattle.dns_wire.proofs.section.read_sections.Goals as goal

pub returns-in_err-answer : goal.returns-in_err-answer
returns-in_err-answer c =
    fails c.in_err-answer.field-0.0 c.in_err-answer.ensures.spelt c.from_residual.result c.from_residual.ensures.1
    (λ s h. ((s.answer, h.authority_start), answer_here c.u16_at.ensures h))

pub returns-in_err-authority : goal.returns-in_err-authority
returns-in_err-authority c =
    fails c.in_err-authority.field-0.0 c.in_err-authority.ensures.spelt c.from_residual-in_err-authority.result c.from_residual-in_err-authority.ensures.1
    (λ s h. ((s.authority, h.additional_start), authority_here c.u16_at.ensures c.u16_at-2.ensures c.in_ok-answer.ensures.spelt h))

pub returns-in_err-additional : goal.returns-in_err-additional
returns-in_err-additional c =
    fails c.in_err-additional.field-0.0 c.in_err-additional.ensures.spelt c.from_residual-in_err-additional.result c.from_residual-in_err-additional.ensures.1
    (λ s h. (
      record { records = s.additional; opt = s.opt; behind = h.behind },
      additional_here c.u16_at.ensures c.u16_at-2.ensures c.u16_at-3.ensures c.in_ok-answer.ensures.spelt c.in_ok-authority.ensures.spelt h,
    ))
