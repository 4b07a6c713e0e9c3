use Rattle.std.proofs.Common.{◌≡◌, map, take}
use Rattle.std.specs.Char.{to_ascii_lowercase}
use Rattle.std.specs.List.{flat_map}
use Rattle.dns_names.specs.NameText.{byte_text}
use Rattle.dns_names.proofs.name_text.are_common.Given as goal

abbrev pub invariant-loop-byte : goal.invariant-loop-byte
invariant-loop-byte l =
    (flat_map byte_text (take l.byte-index l.label) ≡ take l.byte-index l.label) × (map to_ascii_lowercase (take l.byte-index l.label) ≡ take l.byte-index l.label)
