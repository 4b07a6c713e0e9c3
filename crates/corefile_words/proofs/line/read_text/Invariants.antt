use Rattle.std.proofs.Common.{◌≡◌, length}
use Rattle.std.specs.Str.{IsUtf8}
use Rattle.corefile_words.specs.Words.{join, words_from}
use Rattle.corefile_words.proofs.line.read_text.Given as goal

abbrev pub invariant-loop-byte : goal.invariant-loop-byte
invariant-loop-byte l = record {
  says : join l.words (words_from l.env l.number 0 l.rest) ≡ words_from l.env l.number 0 l.line;
  utf8 : IsUtf8 l.rest;
}

abbrev pub decreases-loop-byte : goal.decreases-loop-byte
decreases-loop-byte l = length l.rest
