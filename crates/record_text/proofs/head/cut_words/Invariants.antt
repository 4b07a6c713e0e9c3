use Rattle.std.proofs.Common.{length}
use Rattle.record_text.specs.Heads.{BeginsWith}
use Rattle.record_text.proofs.head.cut_words.Given as goal

abbrev pub invariant-loop-word : goal.invariant-loop-word
invariant-loop-word l = BeginsWith l.text l.words l.rest

abbrev pub decreases-loop-word : goal.decreases-loop-word
decreases-loop-word l = length l.rest
