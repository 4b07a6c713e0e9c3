use Rattle.dns_names.specs.NameText.{IsRun}
use Rattle.dns_names.proofs.name_read.run_len.Given as goal

abbrev pub invariant-loop-index : goal.invariant-loop-index
invariant-loop-index l = IsRun l.index l.text
