use Rattle.std.proofs.Common.{◌≡◌, drop}
use Rattle.std.specs.List.{list_all}
use Rattle.template_plugin.specs.Pieces.{is_name_byte}
use Rattle.template_plugin.proofs.piece_read.are_name_bytes.Given as goal

abbrev pub invariant-loop-byte : goal.invariant-loop-byte
invariant-loop-byte l = list_all is_name_byte (drop l.byte-index l.name) ≡ list_all is_name_byte l.name
