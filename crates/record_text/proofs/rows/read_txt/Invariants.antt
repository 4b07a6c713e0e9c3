use Rattle.std.proofs.Common.{◌≡◌, ◌++◌, ◌≤◌, drop, option_map}
use Rattle.std.specs.List.{AllByRecursion}
use Rattle.dns_data.specs.declared.limit.TheConstants as limits
use Rattle.dns_data.specs.Record.{IsCharacterString, strings_length}
use Rattle.record_text.specs.Rows.{strings_of}
use Rattle.record_text.proofs.rows.read_txt.Given as goal

abbrev pub invariant-loop-word : goal.invariant-loop-word
invariant-loop-word l = record {
  says : option_map (λ others. l.strings ++ others) (strings_of (drop l.word-index l.words)) ≡ strings_of l.words;
  size : l.size ≡ strings_length l.strings;
  small : l.size ≤ limits.RDATA_BYTES;
  each : AllByRecursion IsCharacterString l.strings;
}
