use Rattle.std.proofs.Common.{◌≡◌, ◌++◌, length}
use Rattle.std.specs.Str.{IsUtf8}
use Rattle.corefile_words.specs.Variables.{filled_from}
use Rattle.corefile_words.proofs.variable.filled.Given as goal

abbrev pub invariant-loop-byte : goal.invariant-loop-byte
invariant-loop-byte l = record {
  says : l.text.items ++ filled_from l.env 0 l.rest ≡ filled_from l.env 0 l.word;
  utf8 : IsUtf8 (l.text.items ++ l.rest);
}

abbrev pub decreases-loop-byte : goal.decreases-loop-byte
decreases-loop-byte l = length l.rest
