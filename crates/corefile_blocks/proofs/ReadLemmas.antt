-- Reading line by line.
use Rattle.std.proofs.Common.{◌≡◌, ℕ, zero, suc, ◌+◌, ◌++◌, List, [], ◌∷◌, Some, None, refl, sym, ap, ◌∙◌}
use Rattle.dns_data.specs.declared.limit.TheConstants as limits
use Rattle.dns_data.specs.declared.limit.Limit.TheVariants as limit
use Rattle.corefile_blocks.specs.declared.bundle.Bundle.{Bundle}
use Rattle.corefile_blocks.specs.declared.fault.CorefileFault.{CorefileFault}
use Rattle.corefile_blocks.specs.declared.fault.CorefileFault.TheVariants as fault
use Rattle.corefile_blocks.specs.declared.reader.Reader.{Reader}
use Rattle.corefile_blocks.specs.PlacedLines.{PlacedLine, stream_of}
use Rattle.corefile_blocks.specs.Blocks.{Reading, all_of, end_fault, read, step, step_then}
use Rattle.corefile_blocks.specs.Reader.{Follows, reading_of}

at_zero : (bundle : Bundle) (port : ℕ) (reading : Reading) (line : PlacedLine) (lines : List PlacedLine)
    → read 0 bundle port reading (line ∷ lines) ≡ all_of reading (Some (fault.TooMany limit.Lines (limits.LINES + 1)))
unfolding read
at_zero bundle port reading line lines = refl

pub at_line : (left : ℕ) (bundle : Bundle) (port : ℕ) (reading : Reading) (line : PlacedLine) (lines : List PlacedLine)
    → read (suc left) bundle port reading (line ∷ lines)
    ≡ step_then (step bundle port reading line) (λ reading put. read left bundle port reading (put ++ lines)) (step bundle port reading line).fault
unfolding read
at_line left bundle port reading line lines = refl

at_nothing : (left : ℕ) (bundle : Bundle) (port : ℕ) (reading : Reading) → read left bundle port reading [] ≡ all_of reading (end_fault reading.place)
unfolding read
at_nothing zero bundle port reading = refl
at_nothing (suc left) bundle port reading = refl

-- no line may be taken any more
pub past_limit : (left : ℕ) (bundle : Bundle) (port : ℕ) (reading : Reading) (line : PlacedLine) (stream lines : List PlacedLine) → left ≡ 0 → stream ≡ line ∷ lines
    → read left bundle port reading stream ≡ all_of reading (Some (fault.TooMany limit.Lines (limits.LINES + 1)))
past_limit left bundle port reading line stream lines none is = (λ i. read (none i) bundle port reading (is i)) ∙ at_zero bundle port reading line lines

-- a line ended the reading
pub line_stops : (left less : ℕ) (bundle : Bundle) (port : ℕ) (before after : Reader) (line : PlacedLine) (stream : List PlacedLine) (met : CorefileFault)
    → left ≡ suc less → stream ≡ line ∷ stream_of before.frames → Follows (step bundle port (reading_of before) line) before after (Some met)
    → read left bundle port (reading_of before) stream ≡ all_of (reading_of after) (Some met)
line_stops left less bundle port before after line stream met more is follows =
    (λ i. read (more i) bundle port (reading_of before) (is i)) ∙ at_line less bundle port (reading_of before) line (stream_of before.frames)
    ∙ ap (step_then (step bundle port (reading_of before) line) (λ reading put. read less bundle port reading (put ++ stream_of before.frames))) (sym follows.fault)
    ∙ ap (λ reading. all_of reading (Some met)) (sym follows.reading)

-- the next line follows
pub line_goes_on : (left less : ℕ) (bundle : Bundle) (port : ℕ) (before after : Reader) (line : PlacedLine) (stream : List PlacedLine)
    → left ≡ suc less → stream ≡ line ∷ stream_of before.frames → Follows (step bundle port (reading_of before) line) before after None
    → read left bundle port (reading_of before) stream ≡ read less bundle port (reading_of after) (stream_of after.frames)
line_goes_on left less bundle port before after line stream more is follows =
    (λ i. read (more i) bundle port (reading_of before) (is i)) ∙ at_line less bundle port (reading_of before) line (stream_of before.frames)
    ∙ ap (step_then (step bundle port (reading_of before) line) (λ reading put. read less bundle port reading (put ++ stream_of before.frames))) (sym follows.fault)
    ∙ (λ i. read less bundle port (sym follows.reading i) (sym follows.put i))

-- no line is left
pub lines_end : (left : ℕ) (bundle : Bundle) (port : ℕ) (reading : Reading) (stream : List PlacedLine) → stream ≡ []
    → read left bundle port reading stream ≡ all_of reading (end_fault reading.place)
lines_end left bundle port reading stream is = ap (read left bundle port reading) is ∙ at_nothing left bundle port reading
