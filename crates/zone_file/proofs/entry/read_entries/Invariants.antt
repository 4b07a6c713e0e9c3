use Rattle.std.proofs.Common.{◌≡◌, ◌+◌, ◌≤◌, [], length}
use Rattle.corefile_words.specs.Lines.{lines_of}
use Rattle.zone_file.specs.Entries.{after, entries_from, idle}
use Rattle.zone_file.proofs.entry.read_entries.Given as goal

abbrev pub invariant-loop-rest : goal.invariant-loop-rest
invariant-loop-rest l = record {
  says : after l.entries (entries_from l.number l.opened l.words (lines_of l.rest)) ≡ entries_from 0 idle [] (lines_of l.text);
  counted : l.number + length l.rest ≤ length l.text;
  nested : l.opened.depth + length l.rest ≤ length l.text;
}

abbrev pub decreases-loop-rest : goal.decreases-loop-rest
decreases-loop-rest l = length l.rest
