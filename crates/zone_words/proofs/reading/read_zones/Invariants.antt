use Rattle.std.proofs.Common.{◌≡◌, length}
use Rattle.zone_words.specs.Zones.{with_zones, zones_of}
use Rattle.zone_words.proofs.reading.read_zones.Given as goal

abbrev pub invariant-loop-word : goal.invariant-loop-word
invariant-loop-word l = with_zones l.zones (zones_of l.rest) ≡ zones_of l.fn.words

abbrev pub decreases-loop-word : goal.decreases-loop-word
decreases-loop-word l = length l.rest
