use Rattle.std.proofs.Common.{◌≡◌, ◌++◌, drop}
use Rattle.std.specs.List.{flat_map}
use Rattle.dns_names.specs.NameText.{byte_text}
use Rattle.dns_names.proofs.name_text.put_bytes.Given as goal

abbrev pub invariant-loop-byte : goal.invariant-loop-byte
invariant-loop-byte l = l.text.items ++ flat_map byte_text (drop l.byte-index l.label) ≡ l.fn.text.items ++ flat_map byte_text l.label
