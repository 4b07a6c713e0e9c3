use Rattle.std.proofs.Common.{◌≡◌, drop}
use Rattle.audit_run.specs.Judging.{part_of}
use Rattle.audit_run.proofs.judging.part_of.Given as goal

abbrev pub invariant-loop-part : goal.invariant-loop-part
invariant-loop-part l = part_of (drop l.part-index l.parts) l.order ≡ part_of l.parts l.order
