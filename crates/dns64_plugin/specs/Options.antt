-- What the words and the lines of `dns64` say: a prefix, whether clients of IPv4 are served, and
-- whether names of addresses are found under the prefix. This server's own rule, in the manner of
-- CoreDNS.
use Rattle.std.specs.Prelude.{◌≡◌, ℕ, ◌<◌, ◌^◌, Bool, true, false, List, [], ◌∷◌, codes}
use Rattle.std.specs.Prelude.{Option, Some, None, is_some, unwrap_or, if◌then◌else◌}
use Rattle.dns_data.specs.declared.directive.Directive.{Directive}
use Rattle.dns_data.specs.declared.directive.Line.{Line}
use Rattle.plugin_api.specs.{is_word, option_in}
use Rattle.dns64_plugin.specs.declared.options.Opens.{Opens}
use Rattle.dns64_plugin.specs.declared.options.Opens.TheVariants as opens
use Rattle.dns64_plugin.specs.declared.options.Seen.{Seen}
use Rattle.dns64_plugin.specs.Prefixes.{prefix_in, well_known}

-- what a line is by its first word
abbrev pub opened : List ℕ → Opens
opened word =
    if is_word word (codes "prefix") then opens.Prefix
    else if is_word word (codes "allow_ipv4") then opens.AllowIpv4
    else if is_word word (codes "ptr") then opens.Ptr
    else opens.Nothing

abbrev pub has_words : List (List ℕ) → Bool
has_words [] = false
has_words (word ∷ words) = true

-- before the lines, a prefix stood where the directive has a word
abbrev pub seen_first : List (List ℕ) → Seen
seen_first words = record { prefix = has_words words; allow_ipv4 = false; ptr = false }

-- with the option that a line opens
abbrev pub seen_with : Seen → Opens → Seen
seen_with seen opens.Prefix = record seen { prefix = true }
seen_with seen opens.AllowIpv4 = record seen { allow_ipv4 = true }
seen_with seen opens.Ptr = record seen { ptr = true }
seen_with seen opens.Nothing = seen

abbrev pub seen_behind : Seen → List (List ℕ) → Seen
seen_behind seen [] = seen
seen_behind seen (word ∷ words) = seen_with seen (opened word)

-- the prefix that a word spells, or else the one for all
abbrev pub prefix_or : List ℕ → ℕ
prefix_or word = unwrap_or (prefix_in word) well_known

-- the prefix of a line `prefix`, where there is one
abbrev pub prefix_behind : Option (List (List ℕ)) → ℕ
prefix_behind None = well_known
prefix_behind (Some []) = well_known
prefix_behind (Some (word ∷ words)) = prefix_or word

abbrev pub line_prefix : List Line → ℕ
line_prefix lines = prefix_behind (option_in (codes "prefix") lines)

-- a prefix stands among the words or in a line
abbrev pub prefix_by_words : List (List ℕ) → List Line → ℕ
prefix_by_words [] lines = line_prefix lines
prefix_by_words (word ∷ words) lines = prefix_or word

-- the upper 96 bits of the addresses that stand for addresses of IPv4
abbrev pub prefix_of : Directive → ℕ
prefix_of d = prefix_by_words d.args d.body

abbrev pub has_option : List ℕ → List Line → Bool
has_option option lines = is_some (option_in option lines)

-- clients of IPv4 are served as those of IPv6 are
abbrev pub allows_ipv4 : Directive → Bool
allows_ipv4 d = has_option (codes "allow_ipv4") d.body

-- names of addresses are found under the prefix
abbrev pub has_ptr : Directive → Bool
has_ptr d = has_option (codes "ptr") d.body

-- what is made of a directive, once
pub record IsMade (d : Directive) (prefix : ℕ) (allow_ipv4 ptr : Bool) : Type 0 where
  pub prefix_is : prefix ≡ prefix_of d
  pub prefix_fits : prefix < 2 ^ 96
  pub allow_is : allow_ipv4 ≡ allows_ipv4 d
  pub ptr_is : ptr ≡ has_ptr d
