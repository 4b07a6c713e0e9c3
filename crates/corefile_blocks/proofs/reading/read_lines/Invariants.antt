use Rattle.std.proofs.Common.{◌≡◌, ◌+◌, ◌≤◌}
use Rattle.dns_data.specs.declared.limit.TheConstants as limits
use Rattle.corefile_blocks.specs.LineForms.{nesting}
use Rattle.corefile_blocks.specs.PlacedLines.{own_lines, stream_of}
use Rattle.corefile_blocks.specs.Blocks.{beginning, read}
use Rattle.corefile_blocks.specs.Reader.{AreTexts, reading_of}
use Rattle.corefile_blocks.proofs.reading.read_lines.Given as goal

abbrev pub invariant-loop-reader : goal.invariant-loop-reader
invariant-loop-reader l = record {
  says : read l.left l.bundle l.port (reading_of l.reader) (stream_of l.reader.frames)
      ≡ read limits.LINES l.bundle l.port beginning (own_lines l.fn.lines);
  texts : AreTexts l.bundle l.reader.texts;
  nesting : nesting l.reader.place + l.left ≤ limits.LINES;
}

abbrev pub decreases-loop-reader : goal.decreases-loop-reader
decreases-loop-reader l = l.left
