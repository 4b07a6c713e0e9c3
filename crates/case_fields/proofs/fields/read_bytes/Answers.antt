use Rattle.std.proofs.Common.{◌≡◌, ◌∙◌, sym, ap, Ok, Some}
use Rattle.case_fields.specs.declared.fault.CaseFault.TheVariants as fault
use Rattle.case_fields.proofs.Readings.{of_dash, of_digits, of_fault, of_none}
use Rattle.case_fields.proofs.fields.read_bytes.Goals as goal

pub returns-then-eq-clause-bytes : goal.returns-then-eq-clause-bytes
returns-then-eq-clause-bytes c = of_dash c.args.field.now (sym c.eq.ensures ∙ c.if-eq.true) ∙ ap Some (sym c.new.ensures.items)

pub returns-then-is_empty-clause-bad : goal.returns-then-is_empty-clause-bad
returns-then-is_empty-clause-bad c = λ _. of_none c.args.field.now (sym c.eq.ensures ∙ c.if-eq.false) (sym c.is_empty.ensures ∙ c.if-is_empty.true)

pub returns-in-Ok-clause-bytes : goal.returns-in-Ok-clause-bytes
returns-in-Ok-clause-bytes c = of_digits c.args.field.now (Ok c.in-Ok.bytes.items) (sym c.eq.ensures ∙ c.if-eq.false) (sym c.is_empty.ensures ∙ c.if-is_empty.false) c.in-Ok.ensures.ok

pub returns-in-Err : goal.returns-in-Err
returns-in-Err c = record {
  bytes = tt;
  bad = λ e. let bad : c.fault_of.result ≡ fault.Bad = cc in
      of_fault c.args.field.now c.in-Err.fault (sym c.eq.ensures ∙ c.if-eq.false) (sym c.is_empty.ensures ∙ c.if-is_empty.false) c.in-Err.ensures.err (c.fault_of.ensures bad);
}
