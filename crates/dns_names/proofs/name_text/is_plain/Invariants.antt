use Rattle.std.proofs.Common.{◌≡◌, take}
use Rattle.std.specs.List.{flat_map}
use Rattle.dns_names.specs.NameText.{byte_text}
use Rattle.dns_names.proofs.name_text.is_plain.Given as goal

abbrev pub invariant-loop-byte : goal.invariant-loop-byte
invariant-loop-byte l = flat_map byte_text (take l.byte-index l.label) ≡ take l.byte-index l.label
