use Rattle.std.proofs.Common.{◌≤◌, length}
use Rattle.dns_wire.specs.Known.{AreKnown}
use Rattle.dns_wire.proofs.Sections.{SectionSoFar}
use Rattle.dns_wire.proofs.section.read_parts.Given as goal

abbrev pub invariant-loop-left : goal.invariant-loop-left
invariant-loop-left l = record { inside : l.at ≤ length l.bytes; known : AreKnown l.bytes l.known; so_far : SectionSoFar l.bytes l.count l.start l.left l.at l.records l.opt }

abbrev pub decreases-loop-left : goal.decreases-loop-left
decreases-loop-left l = l.left
