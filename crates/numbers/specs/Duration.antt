-- Durations in a Corefile: digits alone are seconds, and else each number has its unit behind it,
-- `h`, `m`, `s` or `ms`, as in `1m30s`. This server's own rule, in the manner of CoreDNS.
use Rattle.std.specs.Prelude.{ℕ, zero, suc, nat_eq, nat_le, ◌+◌, ◌*◌, List, [], ◌∷◌, length, drop, take}
use Rattle.std.specs.Prelude.{Option, Some, None, option_and_then, if◌then◌else◌}
use Rattle.std.specs.List.{list_all}
use Rattle.std.specs.Char.{is_ascii_digit}
use Rattle.numbers.specs.Number.{number_of}

-- 24 hours in milliseconds
abbrev pub day : ℕ
day = 86400000

-- how many digits stand in front
abbrev pub digits_in_front : List ℕ → ℕ
digits_in_front [] = 0
digits_in_front (byte ∷ text) = if is_ascii_digit byte then digits_in_front text + 1 else 0

-- a number with its unit, in milliseconds, and the text behind it
pub record Span : Type 0 where
  pub millis : ℕ
  pub rest : List ℕ

abbrev pub span_data : ℕ → List ℕ → Span
span_data millis rest = record { millis = millis; rest = rest }

-- behind an `m` an `s` makes milliseconds of minutes: 109 is `m`, 115 `s`
abbrev pub minutes : ℕ → List ℕ → Span
minutes number [] = span_data (60000 * number) []
minutes number (byte ∷ text) =
    if nat_eq byte 115 then span_data number text
    else span_data (60000 * number) (byte ∷ text)

-- a number in the unit behind it: 104 is `h`
abbrev pub in_unit : ℕ → List ℕ → Option Span
in_unit number [] = None
in_unit number (byte ∷ text) =
    if nat_eq byte 104 then Some (span_data (3600000 * number) text)
    else if nat_eq byte 109 then Some (minutes number text)
    else if nat_eq byte 115 then Some (span_data (1000 * number) text)
    else None

-- the number of one to ten digits in front, with its unit
unfoldable pub span_of : List ℕ → Option Span
span_of text =
    let digits = digits_in_front text in
    option_and_then (λ number. in_unit number (drop digits text)) (number_of 10 (take digits text))

-- a sum, if it is at most 24 hours
abbrev pub if_day : ℕ → Option ℕ
if_day millis = if nat_le millis day then Some millis else None

-- the sum of the spans of a text behind those that were read, each sum at most 24 hours. No text
-- has more spans than bytes.
abbrev pub spans_from : ℕ → ℕ → List ℕ → Option ℕ
spans_from most sum [] = Some sum
spans_from zero sum (byte ∷ text) = None
spans_from (suc most) sum (byte ∷ text) =
    option_and_then (λ span. option_and_then (λ more. spans_from most more span.rest)
    (if_day (sum + span.millis))) (span_of (byte ∷ text))

-- the duration that a text without a unit spells
abbrev pub seconds_of : List ℕ → Option ℕ
seconds_of text = option_and_then (λ number. if_day (1000 * number)) (number_of 10 text)

-- the duration that a text spells, in milliseconds: 24 hours at most
unfoldable pub duration_of : List ℕ → Option ℕ
duration_of text =
    if list_all is_ascii_digit text then seconds_of text
    else spans_from (length text) 0 text
