use Rattle.std.proofs.Common.{◌≡◌, drop}
use Rattle.std.specs.List.{list_all}
use Rattle.record_text.specs.Heads.{is_simple_byte}
use Rattle.record_text.proofs.head.are_simple.Given as goal

abbrev pub invariant-loop-byte : goal.invariant-loop-byte
invariant-loop-byte l = list_all is_simple_byte (drop l.byte-index l.text) ≡ list_all is_simple_byte l.text
