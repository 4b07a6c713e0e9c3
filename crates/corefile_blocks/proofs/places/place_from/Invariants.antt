use Rattle.std.proofs.Common.{◌≡◌, ◌<◌, drop}
use Rattle.corefile_blocks.specs.Places.{place_from}
use Rattle.corefile_blocks.proofs.places.place_from.Given as goal

abbrev pub invariant-loop-byte : goal.invariant-loop-byte
invariant-loop-byte l = record {
  same : place_from l.count l.place (drop l.byte-index l.bytes) ≡ place_from l.count l.start l.bytes;
  inside : l.place < l.count;
}
