use Rattle.std.proofs.Common.{◌≡◌, ◌++◌, length}
use Rattle.hosts_plugin.specs.Made.{pointers_of}
use Rattle.hosts_plugin.proofs.answering.pointers_of.Given as goal

abbrev pub invariant-loop-listing : goal.invariant-loop-listing
invariant-loop-listing l = l.records ++ pointers_of l.rest ≡ pointers_of l.fn.listings

abbrev pub decreases-loop-listing : goal.decreases-loop-listing
decreases-loop-listing l = length l.rest
