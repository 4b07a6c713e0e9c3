use Rattle.std.proofs.Common.{◌≡◌, ◌+◌, length}
use Rattle.std.specs.List.{sum_by}
use Rattle.corefile_bundle.specs.Gathering.{bundle_bytes, size_of}
use Rattle.corefile_bundle.proofs.gathering.bundle_bytes.Given as goal

abbrev pub invariant-loop-file : goal.invariant-loop-file
invariant-loop-file l = l.bytes + sum_by (λ file. size_of file.bytes) l.rest ≡ bundle_bytes l.bundle

abbrev pub decreases-loop-file : goal.decreases-loop-file
decreases-loop-file l = length l.rest
