use Rattle.std.proofs.Common.{◌≡◌, [], length}
use Rattle.dns_names.proofs.ReadNames.{labels_with}
use Rattle.dns_names.proofs.name_read.read_slowly.Given as goal

abbrev pub invariant-loop-byte : goal.invariant-loop-byte
invariant-loop-byte l = labels_with l.name l.label.items l.rest ≡ labels_with [] [] l.text

abbrev pub decreases-loop-byte : goal.decreases-loop-byte
decreases-loop-byte l = length l.rest
