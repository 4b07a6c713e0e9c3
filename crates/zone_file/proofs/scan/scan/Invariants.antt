use Rattle.std.proofs.Common.{◌≡◌, ◌+◌, ◌<◌, ◌≤◌, ◌^◌, length, option_map}
use Rattle.zone_file.specs.Entries.{behind, scan}
use Rattle.zone_file.proofs.scan.scan.Given as goal

abbrev pub invariant-loop-byte : goal.invariant-loop-byte
invariant-loop-byte l = record {
  says : option_map (behind l.words) (scan l.depth 0 l.rest) ≡ option_map (behind l.fn.words) (scan l.fn.depth 0 l.line);
  few : l.depth + length l.rest ≤ l.fn.depth + length l.line;
  small : l.fn.depth + length l.line < 2 ^ 32;
}

abbrev pub decreases-loop-byte : goal.decreases-loop-byte
decreases-loop-byte l = length l.rest
