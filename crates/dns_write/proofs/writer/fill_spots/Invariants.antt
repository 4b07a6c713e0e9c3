use Rattle.std.proofs.Common.{◌≡◌, ◌≤◌, ◌+◌, drop, length}
use Rattle.dns_write.specs.Tails.{patched}
use Rattle.dns_write.proofs.writer.fill_spots.Given as goal

abbrev pub invariant-loop-spot : goal.invariant-loop-spot
invariant-loop-spot l = record {
  inside : l.tail + l.size ≤ length l.out.items;
  left : patched l.anchor l.tail (drop l.spot-index l.spots) l.out.items ≡ patched l.anchor l.tail l.spots l.fn.out.items;
}
