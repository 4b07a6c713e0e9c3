use Rattle.std.proofs.Common.{◌+◌, arith}
use Rattle.std.proofs.lemmas.List.{length-take, length-drop, take_rest}
use Rattle.corefile_words.proofs.Cuts.{one_line, line_before_cr, line_before_lf}
use Rattle.corefile_words.proofs.lines.first_line.Goals as goal
use Rattle.corefile_words.proofs.lines.first_line.Goals.{else-size-gt0-via-then-size-gt0+else-text-size-eq13, else-size-gt0-via-else-size-gt0}

pub returns-then-size-text-clause-lines : goal.returns-then-size-text-clause-lines
returns-then-size-text-clause-lines c =
    one_line c.args.text.now c.line_size-size.result _ c.line_size-size.ensures.value (omega arith) c.requires
    (simp (length-take, length-drop) (omega arith))

pub returns-then-text-size-eq13-clause-lines : goal.returns-then-text-size-eq13-clause-lines
returns-then-text-size-eq13-clause-lines c =
    line_before_cr c.args.text.now c.line_size-size.result _ c.line_size-size.ensures.value (omega arith) (take_rest c.args.text.now (c.line_size-size.result + 1))
    (omega arith) c.if-text-size-eq13.true

pub returns-clause-lines : goal.returns-clause-lines
returns-clause-lines c =
    line_before_lf c.args.text.now c.line_size-size.result _ c.line_size-size.ensures.value (omega arith) (take_rest c.args.text.now (c.line_size-size.result + 1))
    (elim c.else-size-gt0.branch [
      | else-size-gt0-via-then-size-gt0+else-text-size-eq13 w ↦ λ _. w.if-text-size-eq13.false
      | else-size-gt0-via-else-size-gt0 w ↦ λ h. absurd (omega arith)
    ])
