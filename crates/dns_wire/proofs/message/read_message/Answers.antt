use Rattle.std.proofs.Common.{rules}
use Rattle.dns_wire.proofs.Reading.{fails}
use Rattle.dns_wire.proofs.Unique.{one_message}
use Rattle.dns_wire.proofs.Messages.{sections_here}
use Rattle.dns_wire.specs.Records.{SectionsAt}
use Rattle.dns_wire.proofs.message.read_message.Goals as goal
use Rattle.dns_wire.proofs.message.read_message.Goals.{in-Some, in-None+in_ok-sections-in-None}

pub returns-in_err-asking-clause-spelt : goal.returns-in_err-asking-clause-spelt
returns-in_err-asking-clause-spelt c =
    fails c.in_err-asking.field-0.0 c.in_err-asking.ensures.spelt c.from_residual.result c.from_residual.ensures.1 (λ m h. ((m.question, h.answer_start), h.question))

pub returns-in_err-sections-in-None-clause-spelt : goal.returns-in_err-sections-in-None-clause-spelt
returns-in_err-sections-in-None-clause-spelt c =
    fails c.in_err-sections-in-None.field-0.0 c.in_err-sections-in-None.ensures c.from_residual-in_err-sections-in-None.result c.from_residual-in_err-sections-in-None.ensures.1
    (λ m h. (record { answer = m.answer; authority = m.authority; additional = m.additional; opt = m.opt }, sections_here c.in_ok-asking.ensures.spelt m h))

pub returns-clause-alone : goal.returns-clause-alone
returns-clause-alone c = λ other h.
    let s = c.match-opt_alone.sections in
    let rest : SectionsAt c.args.bytes.now c.in_ok-asking.asking.behind s.answer s.authority s.additional s.opt =
    elim c.match-opt_alone.branch [
      | in-Some w ↦ rw (w.sections-is, w.new.ensures, w.new-in-Some.ensures, w.new-in-Some-2.ensures) w.in-Some.ensures
      | in-None+in_ok-sections-in-None w ↦ rw w.sections-is w.in_ok-sections-in-None.ensures
    ] in
    one_message c.args.bytes.now _ other (search rules) h
