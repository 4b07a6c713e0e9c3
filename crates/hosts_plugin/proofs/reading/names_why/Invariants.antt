use Rattle.std.proofs.Common.{◌≡◌, length}
use Rattle.hosts_plugin.specs.Reading.{names_why}
use Rattle.hosts_plugin.proofs.reading.names_why.Given as goal

abbrev pub invariant-loop-word : goal.invariant-loop-word
invariant-loop-word l = names_why l.rest ≡ names_why l.words

abbrev pub decreases-loop-word : goal.decreases-loop-word
decreases-loop-word l = length l.rest
