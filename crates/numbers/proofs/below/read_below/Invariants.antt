use Rattle.std.proofs.Common.{◌≡◌, ◌<◌, ◌^◌, drop}
use Rattle.std.specs.Str.{all_ascii_digits}
use Rattle.std.specs.Str.Parse.{digits_value, digits_value_after}
use Rattle.numbers.proofs.below.read_below.Given as goal

abbrev pub invariant-loop-byte : goal.invariant-loop-byte
invariant-loop-byte l = record {
  small : l.number < 2 ^ 40;
  digits : all_ascii_digits l.text ≡ all_ascii_digits (drop l.byte-index l.text);
  value : digits_value 10 l.text ≡ digits_value_after 10 l.number (drop l.byte-index l.text);
}
