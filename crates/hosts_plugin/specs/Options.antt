-- The options of `hosts` beside `fallthrough`: `ttl` and `no_reverse`. This server's own rule, in
-- the manner of CoreDNS.
use Rattle.std.specs.Prelude.{ℕ, nat_lt, Bool, ◌&&◌, List, [], ◌∷◌, codes}
use Rattle.std.specs.Prelude.{Option, Some, None, is_some, option_and_then, unwrap_or}
use Rattle.std.specs.Prelude.{if◌then◌else◌}
use Rattle.dns_data.specs.declared.directive.Line.{Line}
use Rattle.dns_data.specs.declared.limit.TheConstants as limits
use Rattle.numbers.specs.{number_of}
use Rattle.plugin_api.specs.{option_in}

-- a number that is a TTL: from 1 to 2^31 - 1
abbrev pub if_ttl : ℕ → Option ℕ
if_ttl number = if nat_lt 0 number && nat_lt number limits.TTL_END then Some number else None

-- the TTL that one to ten digits spell
abbrev pub ttl_in : List ℕ → Option ℕ
ttl_in word = option_and_then if_ttl (number_of 10 word)

-- the TTL where none is given
abbrev pub default_ttl : ℕ
default_ttl = 3600

abbrev pub ttl_by : Option (List (List ℕ)) → ℕ
ttl_by None = default_ttl
ttl_by (Some []) = default_ttl
ttl_by (Some (word ∷ words)) = unwrap_or (ttl_in word) default_ttl

-- the TTL of all records
abbrev pub ttl_of : List Line → ℕ
ttl_of lines = ttl_by (option_in (codes "ttl") lines)

-- whether queries for names of addresses go on
abbrev pub has_no_reverse : List Line → Bool
has_no_reverse lines = is_some (option_in (codes "no_reverse") lines)
