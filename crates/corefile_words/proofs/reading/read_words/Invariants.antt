use Rattle.std.proofs.Common.{◌≡◌, ◌+◌, ◌≤◌, length}
use Rattle.corefile_words.specs.Lines.{lines_of}
use Rattle.corefile_words.specs.Words.{numbered, words_of}
use Rattle.corefile_words.proofs.Numbers.{front}
use Rattle.corefile_words.proofs.reading.read_words.Given as goal

abbrev pub invariant-loop-rest : goal.invariant-loop-rest
invariant-loop-rest l = record {
  says : front l.lines (numbered l.env (l.number + 1) (lines_of l.rest)) ≡ words_of l.env l.bytes;
  few : l.number + length l.rest ≤ length l.bytes;
}

abbrev pub decreases-loop-rest : goal.decreases-loop-rest
decreases-loop-rest l = length l.rest
