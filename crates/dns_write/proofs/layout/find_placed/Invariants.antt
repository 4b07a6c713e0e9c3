use Rattle.std.proofs.Common.{◌≡◌, drop, map}
use Rattle.dns_names.specs.Name.{labels_of}
use Rattle.dns_write.specs.Tails.{place_of, placed_of}
use Rattle.dns_write.proofs.layout.find_placed.Given as goal

abbrev pub invariant-loop-other : goal.invariant-loop-other
invariant-loop-other l = place_of (map placed_of (drop l.other-index l.placed)) (labels_of l.suffix) ≡ place_of (map placed_of l.placed) (labels_of l.suffix)
