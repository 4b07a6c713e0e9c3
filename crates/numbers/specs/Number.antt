-- Numbers as decimal digits, on the command line and in a Corefile. This server's own rule.
use Rattle.std.specs.Prelude.{ℕ, nat_le, Bool, ◌&&◌, ◌+◌, ◌*◌, ◌-◌, List, length, fold}
use Rattle.std.specs.Prelude.{Option, Some, None, if◌then◌else◌}
use Rattle.std.specs.List.{list_all}
use Rattle.std.specs.Char.{is_ascii_digit}

-- the number that decimal digits spell, the highest first
abbrev pub decimal : List ℕ → ℕ
decimal digits = fold (λ number digit. 10 * number + (digit - 48)) 0 digits

-- whether a text is one to so many digits
abbrev pub is_number : ℕ → List ℕ → Bool
is_number most text =
    nat_le 1 (length text) && nat_le (length text) most && list_all is_ascii_digit text

-- the number that a text of one to so many digits spells
unfoldable pub number_of : ℕ → List ℕ → Option ℕ
number_of most text = if is_number most text then Some (decimal text) else None
