-- What the directive `cache` of a block and of its reading have in common.
use Rattle.std.proofs.Common.{◌≡◌, ◌∙◌, ℕ, Bool, true, false, cond, List, [], ◌∷◌, map, option_map, Option, Some, None, refl, ap}
use Rattle.std.specs.Prelude.{is_some, nat_le, option_and_then, if◌then◌else◌}
use Rattle.std.specs.List.{find}
use Rattle.dns_data.specs.Message.{AnswerData}
use Rattle.dns_data.specs.declared.block.Block.{Block}
use Rattle.dns_data.specs.declared.block.BlockKey.{BlockKey}
use Rattle.dns_data.specs.declared.directive.Directive.{Directive}
use Rattle.dns_data.specs.declared.file.FileText.{FileText}
use Rattle.dns_data.specs.declared.query.Query.{Query}
use Rattle.cache_rules.specs.{entry_weight}
use Rattle.cache_rules.specs.Class.{class_by}
use Rattle.cache_rules.specs.Rules.{SettingsData}
use Rattle.cache_rules.specs.Settings.{shard_room}
use Rattle.cache_shards.specs.Answers.{capacities_of}
use Rattle.cache_shards.specs.Planned.{planned_capacities}
use Rattle.outside.specs.{EntryData}
use Rattle.outside.specs.Meanings.{Meaning}
use Rattle.outside.specs.declared.entry.InnerMark.{InnerMark}
use Rattle.outside.specs.declared.mark.Mark.{Mark}
use Rattle.plugin_api.specs.{PlanData}
use Rattle.plugin_api.specs.declared.ranks.Rank.TheVariants as rank
use Rattle.chain_meaning.specs.Caching.{Justified, entry_for, entry_of}
use Rattle.chain_meaning.specs.Steps.{cache_plan, has_rank, key_zones, plan_in}
use Rattle.chain_meaning.specs.declared.decision.Decision.{Decision}
use Rattle.block_readings.specs.PlansLaws.{bare_plan}
use Rattle.block_readings.specs.Readings.{bare, bare_key, block_reading}
use Rattle.block_readings.specs.WordsLaws.{settings_stay}
use Rattle.lent_caches.specs.Judging.{plan_read}

zones_stay : (keys : List BlockKey) → map (λ key. key.zone) (map bare_key keys) ≡ map (λ key. key.zone) keys
zones_stay [] = refl
zones_stay (key ∷ keys) = ap (λ zones. key.zone ∷ zones) (zones_stay keys)

found_bare : (zones : List (List (List ℕ))) (ds : List Directive) → cache_plan zones (map bare ds) ≡ option_map bare_plan (cache_plan zones ds)
found_bare zones [] = refl
found_bare zones (d ∷ ds) = by (has_rank rank.Cache d) (found_bare zones ds)
  where
    by : (t : Bool) → cache_plan zones (map bare ds) ≡ option_map bare_plan (cache_plan zones ds)
        → option_map (plan_in zones) (cond t (Some (bare d)) (find (has_rank rank.Cache) (map bare ds))) ≡ option_map bare_plan (option_map (plan_in zones) (cond t (Some d) (find (has_rank rank.Cache) ds)))
    by true rest = refl
    by false rest = rest

-- the directive of a reading is that of its blocks, but for the numbers of its lines
pub plan_stays : (files : List FileText) (block : Block) → plan_read (block_reading files block) ≡ option_map bare_plan (cache_plan (key_zones block) block.directives)
plan_stays files block =
    ap (λ (zones : List (List (List ℕ))). cache_plan zones (map bare block.directives)) (zones_stay block.keys) ∙ found_bare (key_zones block) block.directives

pub cached_stays : (files : List FileText) (block : Block) → is_some (plan_read (block_reading files block)) ≡ is_some (cache_plan (key_zones block) block.directives)
cached_stays files block = ap is_some (plan_stays files block) ∙ by (cache_plan (key_zones block) block.directives)
  where
    by : (o : Option PlanData) → is_some (option_map bare_plan o) ≡ is_some o
    by None = refl
    by (Some plan) = refl

pub room_stays : (plan : PlanData) → planned_capacities (bare_plan plan) ≡ planned_capacities plan
room_stays plan = ap (λ (s : SettingsData). capacities_of (shard_room s.success) (shard_room s.denial)) (settings_stay plan.directive)

-- it keeps the same entries
entry_stays : (plan : PlanData) (q : Query) (moment : ℕ) (a : AnswerData) (inner : List InnerMark) → entry_for (bare_plan plan) q moment a inner ≡ entry_for plan q moment a inner
entry_stays plan q moment a inner = ap
    (λ (s : SettingsData). option_and_then (λ lived. if nat_le (entry_weight a inner) 16384 then Some (entry_of q moment a inner lived) else None) (class_by s a))
    (settings_stay plan.directive)

pub justified_stays : (mean : Query → List Mark → Meaning Decision) (plan : PlanData) (entry : EntryData) → Justified mean plan entry → Justified mean (bare_plan plan) entry
justified_stays mean plan entry j =
    record { decided = j.decided; kept = entry_stays plan entry.origin entry.born entry.answer entry.inner ∙ j.kept }
