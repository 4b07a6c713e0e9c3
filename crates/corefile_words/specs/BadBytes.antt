-- Where a text stops being UTF-8.
use Rattle.std.specs.Prelude.{◌≡◌, ℕ, ◌+◌, List, take}
use Rattle.std.specs.List.{count_by}
use Rattle.std.specs.Str.{IsValidUpTo}
use Rattle.corefile_words.specs.Lines.{is_line_end}

-- the first byte that isn't UTF-8 stands in the line of this number, where the first line has the
-- number `first`
pub record BreaksIn (first : ℕ) (text : List ℕ) (line : ℕ) : Type 0 where
  pub place : ℕ
  pub valid : IsValidUpTo text place
  pub counted : line ≡ first + count_by is_line_end (take place text)
