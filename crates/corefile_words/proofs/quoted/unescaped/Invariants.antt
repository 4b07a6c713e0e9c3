use Rattle.std.proofs.Common.{◌≡◌, ◌++◌, length}
use Rattle.std.specs.Str.{IsUtf8}
use Rattle.corefile_words.specs.Lines.{without_before}
use Rattle.corefile_words.proofs.quoted.unescaped.Given as goal

abbrev pub invariant-loop-byte : goal.invariant-loop-byte
invariant-loop-byte l = record {
  says : l.text.items ++ without_before 92 34 l.rest ≡ without_before 92 34 l.bytes;
  utf8 : IsUtf8 (l.text.items ++ l.rest);
}

abbrev pub decreases-loop-byte : goal.decreases-loop-byte
decreases-loop-byte l = length l.rest
