use Rattle.std.proofs.Common.{◌≡◌, drop, map}
use Rattle.dns_names.specs.Name.{labels_of}
use Rattle.dns_write.specs.Written.{earliest}
use Rattle.dns_write.specs.Offsets.{offset_of}
use Rattle.dns_write.proofs.offsets.find_among.Given as goal

abbrev pub invariant-loop-offset : goal.invariant-loop-offset
invariant-loop-offset l = earliest (map offset_of (drop l.offset-index l.offsets)) (labels_of l.suffix) ≡ earliest (map offset_of l.offsets) (labels_of l.suffix)
