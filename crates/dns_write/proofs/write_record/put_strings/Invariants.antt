use Rattle.std.proofs.Common.{◌≡◌, drop}
use Rattle.dns_write.specs.Written.{put_strings}
use Rattle.dns_write.proofs.write_record.put_strings.Given as goal

abbrev pub invariant-loop-string : goal.invariant-loop-string
invariant-loop-string l = put_strings l.writer (drop l.string-index l.strings) ≡ put_strings l.fn.writer l.strings
