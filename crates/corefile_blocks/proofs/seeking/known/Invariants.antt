use Rattle.std.proofs.Common.{◌≡◌, ◌≤◌, ◌-◌, length, None}
use Rattle.std.specs.Prelude.{take}
use Rattle.corefile_blocks.specs.Seeking.{first_missing}
use Rattle.corefile_blocks.proofs.seeking.known.Given as goal

abbrev pub invariant-loop-name : goal.invariant-loop-name
invariant-loop-name l = record {
  inside : l.at ≤ length l.names;
  known : first_missing l.bundle (take l.at l.names) ≡ None;
}

abbrev pub decreases-loop-name : goal.decreases-loop-name
decreases-loop-name l = length l.names - l.at
