-- Decimal numbers in texts.
use Rattle.std.specs.Prelude.{ℕ, nat_lt, Bool, ◌&&◌, List, length, Option, Some, None}
use Rattle.std.specs.Prelude.{if◌then◌else◌}
use Rattle.std.specs.Str.{all_ascii_digits}
use Rattle.std.specs.Str.Parse.{digits_value}

-- whether a text is one or more digits
abbrev pub is_number : List ℕ → Bool
is_number text = nat_lt 0 (length text) && all_ascii_digits text

-- the number that one or more digits spell, where it is below an end; needless zeros are good
unfoldable pub number_below : ℕ → List ℕ → Option ℕ
number_below end text =
    if is_number text && nat_lt (digits_value 10 text) end then Some (digits_value 10 text)
    else None
