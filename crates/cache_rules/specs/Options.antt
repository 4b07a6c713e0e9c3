-- The words of a directive `cache`: numbers, and what opens a line of its body. This server's own
-- rule, in the manner of CoreDNS.
use Rattle.std.specs.Prelude.{ℕ, ◌/◌, ◌%◌, ◌==◌, ◌&&◌, Bool, false, List, [], ◌∷◌, codes}
use Rattle.std.specs.Prelude.{Option, Some, None, option_and_then, nat_le, if◌then◌else◌}
use Rattle.std.specs.List.{list_all}
use Rattle.std.specs.Char.{is_ascii_digit}
use Rattle.numbers.specs.{duration_of, number_of}
use Rattle.plugin_api.specs.{is_word}
use Rattle.cache_rules.specs.declared.options.Choice.{Choice}
use Rattle.cache_rules.specs.declared.options.Choice.TheVariants as choices
use Rattle.cache_rules.specs.declared.options.Opens.{Opens}
use Rattle.cache_rules.specs.declared.options.Opens.TheVariants as opens

-- a number that lies within these
abbrev pub within : ℕ → ℕ → ℕ → Option ℕ
within least most number =
    if nat_le least number && nat_le number most then Some number else None

-- the number of one to ten digits that a word spells, within these
abbrev pub number_in : ℕ → ℕ → List ℕ → Option ℕ
number_in least most word = option_and_then (λ n. within least most n) (number_of 10 word)

-- a TTL: 1 to 2^31 - 1
abbrev pub ttl_in : List ℕ → Option ℕ
ttl_in word = number_in 1 2147483647 word

-- a capacity
abbrev pub capacity_in : List ℕ → Option ℕ
capacity_in word = number_in 8 1000000 word

-- whole seconds of milliseconds, 300 at most
abbrev pub whole_seconds : ℕ → Option ℕ
whole_seconds millis =
    if nat_le millis 300000 && millis % 1000 == 0 then Some (millis / 1000) else None

-- the whole seconds of a duration
abbrev pub seconds_in : List ℕ → Option ℕ
seconds_in word = option_and_then (λ millis. whole_seconds millis) (duration_of word)

-- digits, and nothing else
abbrev pub is_digits : List ℕ → Bool
is_digits [] = false
is_digits (byte ∷ bytes) = list_all is_ascii_digit (byte ∷ bytes)

-- the words of zones: a first word of digits is none of them
abbrev pub words_of_zones : List (List ℕ) → List (List ℕ)
words_of_zones [] = []
words_of_zones (word ∷ words) = if is_digits word then words else word ∷ words

-- the TTL that a first word of digits spells
abbrev pub ttl_of : List (List ℕ) → Option ℕ
ttl_of [] = None
ttl_of (word ∷ words) = if is_digits word then ttl_in word else None

-- what a line is by its first word
abbrev pub opened : List ℕ → Opens
opened word =
    if is_word word (codes "success") then opens.Success
    else if is_word word (codes "denial") then opens.Denial
    else if is_word word (codes "servfail") then opens.Servfail
    else if is_word word (codes "disable") then opens.Disable
    else if is_word word (codes "keepttl") then opens.Keepttl
    else opens.Nothing

-- which class a word behind `disable` names
abbrev pub choice_of : List ℕ → Choice
choice_of word =
    if is_word word (codes "success") then choices.Success
    else if is_word word (codes "denial") then choices.Denial
    else choices.Neither
