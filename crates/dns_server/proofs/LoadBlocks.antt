-- The one block of both forms of a load's Corefile: its steps, what it reads, and which names pick
-- it.
use Rattle.std.proofs.Common.{◌≡◌, ◌∙◌, ◌+◌, ℕ, true, List, [], ◌∷◌, Some, codes, refl, ap}
use Rattle.std.specs.Prelude.{Result, Ok}
use Rattle.dns_data.specs.declared.block.Block.{Block}
use Rattle.dns_data.specs.declared.directive.Directive.{Directive}
use Rattle.dns_data.specs.declared.file.FileText.{FileText}
use Rattle.dns_data.specs.declared.query.Query.{Query}
use Rattle.block_readings.specs.Readings.{block_reading}
use Rattle.chain_build.specs.History.{has_cache}
use Rattle.chain_meaning.specs.Steps.{Cache, Answers, File, context_of, file_plan, plan_in, steps_of}
use Rattle.corefile_blocks.specs.Blocks.{blocks_of, read, read_lines, reading_of, step, unless_double}
use Rattle.corefile_blocks.specs.Keys.{double_key, header_keys, key_of, key_zone, pieces_of, port_of}
use Rattle.corefile_blocks.specs.LineForms.{form_at}
use Rattle.dns_names.specs.NameText.{name_of}
use Rattle.corefile_blocks.specs.declared.bundle.Bundle.{Bundle}
use Rattle.corefile_blocks.specs.declared.fault.CorefileFault.{CorefileFault}
use Rattle.corefile_words.specs.Words.{words_of}
use Rattle.file_plugin.specs.{FileData}
use Rattle.file_plugin.specs.Zones.{file_say, file_zones}
use Rattle.lent_caches.specs.Judging.{plan_read}
use Rattle.load_maker.specs.Scripts.{zone_name}
use Rattle.load_maker.specs.Texts.{conf_text, second_text}
use Rattle.plugin_api.specs.{PlanData, Sayings}
use Rattle.plugin_api.specs.Picking.{block_of, has_key, is_key, picked}
use Rattle.plugin_api.specs.Ranks.{rank_of}
use Rattle.dns_server.specs.LoadCounts.{behind_cache, load_bundle}
use Rattle.dns_server.proofs.LoadWords.{Lines, lines_at, second_are, words_are}

abbrev pub load_directive : List ℕ → List (List ℕ) → ℕ → Directive
load_directive name args line = record { name = name; args = args; body = []; line = line }

abbrev pub zone_of_load : List (List ℕ)
zone_of_load = codes "load" ∷ codes "test" ∷ []

-- the block, where its header stands in this line
abbrev pub load_block : ℕ → Block
load_block n = record {
  keys = record { zone = zone_of_load; port = 53; line = n } ∷ [];
  directives =
      load_directive (codes "reload") [] (n + 1)
      ∷ load_directive (codes "cache") [] (n + 1 + 1)
      ∷ load_directive (codes "file") (zone_name ∷ []) (n + 1 + 1 + 1) ∷ [];
}

abbrev pub Blocks : Type 0
Blocks = Result (List Block) CorefileFault

abbrev by_words : Bundle → Lines → Blocks
by_words bundle words = unless_double (read_lines bundle 53 words) (double_key (read_lines bundle 53 words).blocks)

of_words : (bundle : Bundle) → blocks_of bundle 53 ≡ by_words bundle (words_of bundle.env bundle.conf)
unfolding blocks_of reading_of
of_words bundle = refl

lines_give : (bundle : Bundle) (n : ℕ) → by_words bundle (Ok (lines_at n)) ≡ Ok (load_block n ∷ [])
unfolding read step double_key form_at header_keys pieces_of key_of port_of key_zone name_of
lines_give bundle n = refl

pub first_blocks : (zone : List ℕ) → blocks_of (load_bundle conf_text zone) 53 ≡ Ok (load_block 1 ∷ [])
first_blocks zone = of_words (load_bundle conf_text zone) ∙ (ap (by_words (load_bundle conf_text zone)) words_are ∙ lines_give (load_bundle conf_text zone) 1)

pub second_blocks : (zone : List ℕ) → blocks_of (load_bundle second_text zone) 53 ≡ Ok (load_block 2 ∷ [])
second_blocks zone = of_words (load_bundle second_text zone) ∙ (ap (by_words (load_bundle second_text zone)) second_are ∙ lines_give (load_bundle second_text zone) 2)

-- what its plugins read
abbrev pub cache_of : ℕ → PlanData
cache_of n = plan_in (zone_of_load ∷ []) (load_directive (codes "cache") [] (n + 1 + 1))

abbrev pub files_of : List FileText → ℕ → List FileData
files_of files n = file_plan (context_of files (load_block n)) (load_directive (codes "file") (zone_name ∷ []) (n + 1 + 1 + 1)) ∷ []

pub steps_are : (said : Sayings) (files : List FileText) (n : ℕ) → steps_of said files (load_block n) ≡ Cache (cache_of n) ∷ Answers (File (files_of files n)) ∷ []
unfolding steps_of rank_of
steps_are said files n = refl

pub behind_are : (files : List FileText) (n : ℕ) → behind_cache files (load_block n) ≡ Answers (File (files_of files n)) ∷ []
unfolding rank_of
behind_are files n = refl

-- of both forms `file` says the same
pub same_said : (files : List FileText) (n m : ℕ) (q : Query) → file_say (files_of files n) q ≡ file_say (files_of files m) q
unfolding file_say file_zones
same_said files n m q = refl

-- both forms read the same, and have a cache of the same plan
pub same_reading : (files : List FileText) (n m : ℕ) → block_reading files (load_block n) ≡ block_reading files (load_block m)
same_reading files n m = refl

pub has_plan : (files : List FileText) → plan_read (block_reading files (load_block 1)) ≡ Some (plan_in (zone_of_load ∷ []) (load_directive (codes "cache") [] 0))
unfolding rank_of
has_plan files = refl

pub is_cached : (files : List FileText) → has_cache (block_reading files (load_block 1)) ≡ true
unfolding rank_of
is_cached files = refl

-- the same names pick both
pub same_pick : (n m port : ℕ) (name : List (List ℕ)) → picked (load_block n ∷ []) port name ≡ picked (load_block m ∷ []) port name
unfolding picked block_of has_key is_key
same_pick n m port name = refl
