use Rattle.std.proofs.Common.{◌≡◌, drop}
use Rattle.zone_words.specs.Zones.{has_byte}
use Rattle.zone_words.proofs.reading.is_net_word.Given as goal

abbrev pub invariant-loop-other : goal.invariant-loop-other
invariant-loop-other l = has_byte 47 (drop l.other-index l.word) ≡ has_byte 47 l.word
