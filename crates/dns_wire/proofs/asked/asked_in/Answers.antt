use Rattle.std.proofs.Common.{sym, ◌∙◌}
use Rattle.dns_wire.specs.Asked.{asked_by}
use Rattle.dns_wire.proofs.Reading.{fails_as}
use Rattle.dns_wire.proofs.Messages.{asks_this, sections_here}
use Rattle.dns_wire.proofs.asked.asked_in.Goals as goal
use Rattle.dns_wire.proofs.asked.asked_in.Goals.{in-Some, in-None+in_ok-opt-in-None}

pub returns-in_err-asking : goal.returns-in_err-asking
returns-in_err-asking c =
    fails_as (asked_by c.read_question.new.name) c.in_err-asking.field-0.0 c.in_err-asking.ensures.spelt c.from_residual.result c.from_residual.ensures.1 (λ a h. ((h.message.question, h.spells.answer_start), h.spells.question))

pub returns-in_err-opt-in-None : goal.returns-in_err-opt-in-None
returns-in_err-opt-in-None c =
    fails_as (asked_by c.read_question.new.name) c.in_err-opt-in-None.field-0.0 c.in_err-opt-in-None.ensures c.from_residual-in_err-opt-in-None.result c.from_residual-in_err-opt-in-None.ensures.1
    (λ a h. (record { answer = h.message.answer; authority = h.message.authority; additional = h.message.additional; opt = h.message.opt }, sections_here c.in_ok-asking.ensures.spelt h.message h.spells))

pub returns : goal.returns
returns c =
    let one = sym c.u16_at.ensures ∙ c.if-u16_at-ne1.false in
    elim c.match-opt_alone.branch [
      | in-Some w ↦ rw w.opt-is (asks_this _ _ _ c.requires one c.in_ok-asking.ensures.spelt w.in-Some.ensures c.flags_at-flags.ensures.id c.flags_at-flags.ensures.rd c.flags_at-flags.ensures.cd)
      | in-None+in_ok-opt-in-None w ↦ rw w.opt-is (asks_this _ _ _ c.requires one c.in_ok-asking.ensures.spelt w.in_ok-opt-in-None.ensures c.flags_at-flags.ensures.id c.flags_at-flags.ensures.rd c.flags_at-flags.ensures.cd)
    ]
