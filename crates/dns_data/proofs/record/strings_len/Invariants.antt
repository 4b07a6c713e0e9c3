use Rattle.std.proofs.Common.{◌≡◌, ◌+◌, drop}
use Rattle.dns_data.specs.Record.{strings_length}
use Rattle.dns_data.proofs.record.strings_len.Given as goal

abbrev pub invariant-loop-string : goal.invariant-loop-string
invariant-loop-string l = l.total + strings_length (drop l.string-index l.strings) ≡ strings_length l.strings
