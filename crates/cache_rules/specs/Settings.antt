-- What a directive `cache` says of answers: its words, and then its lines, each of which changes
-- what was said before. Words that don't fit change nothing; such a directive is refused.
use Rattle.std.specs.Prelude.{ℕ, ◌+◌, ◌/◌, true, false, List, [], ◌∷◌, Option, unwrap_or}
use Rattle.dns_data.specs.declared.directive.Directive.{Directive}
use Rattle.dns_data.specs.declared.directive.Line.{Line}
use Rattle.cache_rules.specs.declared.options.Choice.{Choice}
use Rattle.cache_rules.specs.declared.options.Choice.TheVariants as choices
use Rattle.cache_rules.specs.declared.options.Opens.{Opens}
use Rattle.cache_rules.specs.declared.options.Opens.TheVariants as opens
use Rattle.cache_rules.specs.Options.{capacity_in, choice_of, opened, seconds_in, ttl_in, ttl_of}
use Rattle.cache_rules.specs.Rules.{ClassData, SettingsData}

-- a class of which nothing is said, but for its longest lifetime
abbrev pub class_begun : ℕ → ClassData
class_begun most = record { enabled = true; capacity = 9984; most = most; least = 5 }

-- what holds where only a TTL was named, or none
abbrev pub begun : Option ℕ → SettingsData
begun ttl = record {
  success = class_begun (unwrap_or ttl 3600);
  denial = class_begun (unwrap_or ttl 1800);
  servfail = 5;
  keepttl = false;
}

abbrev pub least_with : ClassData → List (List ℕ) → ClassData
least_with c [] = c
least_with c (word ∷ words) = record c { least = unwrap_or (ttl_in word) c.least }

abbrev pub times_with : ClassData → List (List ℕ) → ClassData
times_with c [] = c
times_with c (word ∷ words) =
    least_with (record c { most = unwrap_or (ttl_in word) c.most }) words

-- a capacity, which the longest and then the shortest lifetime may follow
abbrev pub class_with : ClassData → List (List ℕ) → ClassData
class_with c [] = c
class_with c (word ∷ words) =
    times_with (record c { capacity = unwrap_or (capacity_in word) c.capacity }) words

abbrev pub servfail_with : SettingsData → List (List ℕ) → SettingsData
servfail_with s [] = s
servfail_with s (word ∷ words) = record s { servfail = unwrap_or (seconds_in word) s.servfail }

abbrev pub without_choice : SettingsData → Choice → SettingsData
without_choice s choices.Success = record s { success = record s.success { enabled = false } }
without_choice s choices.Denial = record s { denial = record s.denial { enabled = false } }
without_choice s choices.Neither = s

abbrev pub without : SettingsData → List (List ℕ) → SettingsData
without s [] = s
without s (word ∷ words) = without_choice s (choice_of word)

abbrev pub with_option : SettingsData → Opens → List (List ℕ) → SettingsData
with_option s opens.Success words = record s { success = class_with s.success words }
with_option s opens.Denial words = record s { denial = class_with s.denial words }
with_option s opens.Servfail words = servfail_with s words
with_option s opens.Disable words = without s words
with_option s opens.Keepttl words = record s { keepttl = true }
with_option s opens.Nothing words = s

abbrev pub with_line : SettingsData → List (List ℕ) → SettingsData
with_line s [] = s
with_line s (word ∷ words) = with_option s (opened word) words

-- behind so many lines
abbrev pub settings_by : SettingsData → List Line → SettingsData
settings_by s [] = s
settings_by s (line ∷ lines) = settings_by (with_line s line.words) lines

abbrev pub settings_of : Directive → SettingsData
settings_of d = settings_by (begun (ttl_of d.args)) d.body

-- how many entries of a class each of eight shards keeps
abbrev pub shard_room : ClassData → ℕ
shard_room c = (c.capacity + 7) / 8
