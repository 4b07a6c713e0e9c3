use Rattle.std.proofs.Common.{◌-◌, sym, ◌∙◌, arith}
use Rattle.dns_wire.proofs.Reading.{fails}
use Rattle.dns_wire.proofs.Parts.{as_record, as_opt}
use Rattle.dns_wire.proofs.Sections.{section_begins, next_part, second_part, takes_record, takes_first_opt, section_ends}
use Rattle.dns_wire.proofs.section.read_parts.Goals as goal
use Rattle.dns_wire.proofs.section.read_parts.Goals.{in-Record+in_ok-push-in-Record, in-Opt+else-is_some}

pub loop-left-init : goal.loop-left-init
loop-left-init c = record { inside = c.requires.inside; known = c.requires.known; so_far = rw c.new-records.ensures (section_begins c.args.bytes.now c.args.count c.args.start) }

pub returns-in_err-part-clause-spelt : goal.returns-in_err-part-clause-spelt
returns-in_err-part-clause-spelt c =
    fails c.in_err-part.field-0.0 c.in_err-part.ensures.spelt c.from_residual.result c.from_residual.ensures.1
    (λ found h. let n = next_part c.loop-left.invariant.so_far c.loop-left-test.true found.records found.opt found.behind h in ((n.0, n.1), n.2))

pub returns-then-is_some-clause-spelt : goal.returns-then-is_some-clause-spelt
returns-then-is_some-clause-spelt c = λ found h.
    second_part c.loop-left.opt (sym c.is_some.ensures ∙ c.if-is_some.true) c.loop-left.invariant.so_far c.loop-left-test.true (as_opt c.in-Opt.is c.in_ok-part.ensures.spelt) found.records found.opt found.behind h

pub loop-left-preserved : goal.loop-left-preserved
loop-left-preserved c = record {
  inside = c.in_ok-part.ensures.inside;
  known = c.in_ok-part.ensures.known;
  so_far =
      elim c.match-part.branch [
        | in-Record+in_ok-push-in-Record w ↦
            rw (w.records-is, w.opt-is, w.in_ok-push-in-Record.ensures.ok)
            (takes_record {less = c.loop-left.left - 1} c.loop-left.invariant.so_far (omega arith) (as_record w.in-Record.is c.in_ok-part.ensures.spelt))
        | in-Opt+else-is_some w ↦
            rw (w.records-is, w.opt-is)
            (takes_first_opt {less = c.loop-left.left - 1} c.loop-left.opt (sym w.is_some.ensures ∙ w.if-is_some.false) c.loop-left.invariant.so_far (omega arith) (as_opt w.in-Opt.is c.in_ok-part.ensures.spelt))
      ];
}

pub returns-clause-spelt : goal.returns-clause-spelt
returns-clause-spelt c = section_ends c.loop-left.opt c.loop-left.invariant.so_far (omega arith)
