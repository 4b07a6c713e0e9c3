-- TTLs in texts: seconds, or numbers with units (`1h30m`). Bytes by number: 48 `0`, 100 `d`,
-- 104 `h`, 109 `m`, 115 `s`, 119 `w`.
use Rattle.std.specs.Prelude.{ℕ, ◌+◌, ◌-◌, ◌*◌, ◌==◌, nat_lt, List, [], ◌∷◌, Option, Some, None}
use Rattle.std.specs.Prelude.{option_map, option_and_then, if◌then◌else◌}
use Rattle.std.specs.Char.{is_ascii_digit}
use Rattle.std.specs.Option.{option_or, unwrap_or}
use Rattle.dns_data.specs.declared.limit.TheConstants as limits
use Rattle.numbers.specs.{number_below}

-- the seconds of a unit
abbrev pub unit_of : ℕ → Option ℕ
unit_of byte =
    if byte == 115 then Some 1
    else if byte == 109 then Some 60
    else if byte == 104 then Some 3600
    else if byte == 100 then Some 86400
    else if byte == 119 then Some 604800
    else None

-- with one more digit behind a number
abbrev pub with_digit : Option ℕ → ℕ → ℕ
with_digit number byte = 10 * unwrap_or number 0 + (byte - 48)

-- a number and its unit, in seconds
abbrev pub in_seconds : Option ℕ → ℕ → Option ℕ
in_seconds number byte = option_and_then (λ n. option_map (λ unit. n * unit) (unit_of byte)) number

-- no number may stand without a unit at the end
abbrev pub nothing_behind : Option ℕ → Option ℕ
nothing_behind None = Some 0
nothing_behind (Some number) = None

-- the sum of the numbers with units in a text, in seconds, where these digits stand in front
abbrev pub sum_of : Option ℕ → List ℕ → Option ℕ
sum_of number [] = nothing_behind number
sum_of number (byte ∷ bytes) =
    if is_ascii_digit byte then sum_of (Some (with_digit number byte)) bytes
    else option_and_then (λ seconds. option_map (λ others. seconds + others) (sum_of None bytes))
    (in_seconds number byte)

-- a TTL's seconds, below 2^31
abbrev pub if_ttl : ℕ → Option ℕ
if_ttl seconds = if nat_lt seconds limits.TTL_END then Some seconds else None

-- the seconds of one or more numbers with units
abbrev pub units_of : List ℕ → Option ℕ
units_of [] = None
units_of (byte ∷ bytes) = option_and_then if_ttl (sum_of None (byte ∷ bytes))

-- the TTL that a text spells: seconds, or one or more numbers, each with its unit
unfoldable pub ttl_of : List ℕ → Option ℕ
ttl_of text = option_or (number_below limits.TTL_END text) (units_of text)
