use Rattle.std.proofs.Common.{◌≡◌, drop}
use Rattle.zone_words.specs.Zones.{is_in}
use Rattle.zone_words.proofs.covering.is_in.Given as goal

abbrev pub invariant-loop-zone : goal.invariant-loop-zone
invariant-loop-zone l = is_in l.name (drop l.zone-index l.zones) ≡ is_in l.name l.zones
