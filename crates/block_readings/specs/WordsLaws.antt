-- Options of directives are words of their lines, and no number of one.
use Rattle.std.proofs.Common.{◌≡◌, ℕ, List, [], ◌∷◌, ◌++◌, refl, ap}
use Rattle.std.specs.Prelude.{map, codes}
use Rattle.std.specs.Option.{option_or}
use Rattle.dns_data.specs.declared.directive.Directive.{Directive}
use Rattle.dns_data.specs.declared.directive.Line.{Line}
use Rattle.cache_rules.specs.Rules.{SettingsData}
use Rattle.cache_rules.specs.Settings.{begun, settings_by, settings_of, with_line}
use Rattle.cache_rules.specs.Options.{ttl_of}
use Rattle.hosts_plugin.specs.Listings.{inline_listings, listings_of}
use Rattle.plugin_api.specs.{fallthrough_of, option_in}
use Rattle.plugin_api.specs.Options.{fallthrough_by, words_behind}
use Rattle.template_plugin.specs.Words.{all_words, words_after}
use Rattle.block_readings.specs.Readings.{bare, bare_line}

pub option_stays : (option : List ℕ) (lines : List Line) → option_in option (map bare_line lines) ≡ option_in option lines
option_stays option [] = refl
option_stays option (line ∷ lines) = ap (option_or (words_behind option line.words)) (option_stays option lines)

pub fallthrough_stays : (lines : List Line) → fallthrough_of (map bare_line lines) ≡ fallthrough_of lines
fallthrough_stays lines = ap fallthrough_by (option_stays (codes "fallthrough") lines)

pub words_stay : (option : List ℕ) (lines : List Line) → all_words option (map bare_line lines) ≡ all_words option lines
words_stay option [] = refl
words_stay option (line ∷ lines) = ap (λ words. words_after option line.words ++ words) (words_stay option lines)

pub listings_stay : (lines : List Line) → inline_listings (map bare_line lines) ≡ inline_listings lines
listings_stay [] = refl
listings_stay (line ∷ lines) = ap (λ listings. listings_of line.words ++ listings) (listings_stay lines)

settings_behind : (s : SettingsData) (lines : List Line) → settings_by s (map bare_line lines) ≡ settings_by s lines
settings_behind s [] = refl
settings_behind s (line ∷ lines) = settings_behind (with_line s line.words) lines

-- what a directive `cache` sets
pub settings_stay : (d : Directive) → settings_of (bare d) ≡ settings_of d
settings_stay d = settings_behind (begun (ttl_of d.args)) d.body
