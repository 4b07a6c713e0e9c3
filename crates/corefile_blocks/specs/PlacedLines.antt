-- The lines that are still to be read, of which an import puts more in front.
use Rattle.std.specs.Prelude.{ℕ, List, [], ◌∷◌, ◌++◌, drop, map, unwrap_or}
use Rattle.corefile_words.specs.declared.word.WordLine.{WordLine}
use Rattle.corefile_blocks.specs.declared.stack.Frame.{Frame}

-- a line as it stands in its text, the number of the line in the Corefile that it is, or whose
-- import brought it, and how many imports brought it
pub record PlacedLine : Type 0 where
  pub line : WordLine
  pub number : ℕ
  pub depth : ℕ

-- lines that an import in this line brought, this deep
abbrev pub placed : ℕ → ℕ → List WordLine → List PlacedLine
placed number depth lines =
    map (λ line. record { line = line; number = number; depth = depth }) lines

-- the lines of the Corefile itself
abbrev pub own_lines : List WordLine → List PlacedLine
own_lines lines = map (λ line. record { line = line; number = line.number; depth = 0 }) lines

-- the lines of a frame that are still to be read
abbrev pub frame_lines : Frame → List PlacedLine
frame_lines frame =
    map (λ line.
    record { line = line; number = unwrap_or frame.number line.number; depth = frame.depth })
    (drop frame.at frame.lines)

-- the lines of frames that are still to be read: those of the last one come first
abbrev pub stream_of : List Frame → List PlacedLine
stream_of [] = []
stream_of (frame ∷ frames) = stream_of frames ++ frame_lines frame
