use Rattle.std.proofs.Common.{◌≡◌, ◌++◌, drop}
use Rattle.std.specs.List.{AllByRecursion}
use Rattle.dns_data.specs.Record.{IsCharacterString}
use Rattle.zone_file.specs.Keys.{strings_bytes}
use Rattle.zone_file.proofs.key.put_strings.Given as goal

abbrev pub invariant-loop-string : goal.invariant-loop-string
invariant-loop-string l = record {
  says : l.key.items ++ strings_bytes (drop l.string-index l.strings) ≡ l.fn.key.items ++ strings_bytes l.strings;
  each : AllByRecursion IsCharacterString (drop l.string-index l.strings);
}
