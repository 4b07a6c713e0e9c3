-- Where the first form of a load's Corefile is accepted, so is the second.
use Rattle.std.proofs.Common.{◌≡◌, ◌∙◌, ◌+◌, ℕ, zero, suc, List, [], ◌∷◌, length, Option, Some, None, refl, sym, ap, subst, inl, inr, arith}
use Rattle.std.specs.Prelude.{Result, Ok, Err, slice_get}
use Rattle.std.specs.Option.{option_or}
use Rattle.cache_rules.specs.Reading.{cache_fault}
use Rattle.chain_meaning.specs.Accepting.{IsRefusedFor, blocks_refusal, blocks_task, refused_by_file, told}
use Rattle.chain_meaning.specs.{Brought, IsAccepted, IsRefused, Terms}
use Rattle.chain_meaning.specs.declared.refusal.Refusal.{Refusal}
use Rattle.corefile_blocks.specs.Blocks.{blocks_of}
use Rattle.corefile_blocks.specs.declared.fault.CorefileFault.{CorefileFault}
use Rattle.dns_data.specs.declared.block.Block.{Block}
use Rattle.dns_data.specs.declared.zone.Zone.{Zone}
use Rattle.file_plugin.specs.Reading.{file_fault, refusal_in}
use Rattle.file_plugin.specs.Zones.{zones_from}
use Rattle.load_maker.specs.Texts.{conf_text, second_text}
use Rattle.pattern_judging.specs.{IsFault, IsWell}
use Rattle.pattern_judging.specs.Tasks.{Judgement}
use Rattle.plain_plugins.specs.Plain.{plain_fault}
use Rattle.plugin_api.specs.Ranks.{rank_of}
use Rattle.plugin_api.specs.declared.fault.DirectiveWhy.TheVariants as why
use Rattle.zone_file.specs.declared.fault.ZoneFault.{ZoneFault}
use Rattle.zone_file.specs.declared.fault.ZoneFault.TheVariants as zone_fault
use Rattle.dns_server.specs.LoadCounts.{load_bundle}
use Rattle.dns_server.proofs.LoadBlocks.{first_blocks, load_block, second_blocks, zone_of_load}
use Rattle.dns_server.proofs.LoadTurns.{load_files, same_Ok}

abbrev Zones : Type 0
Zones = Result (List Zone) ZoneFault

-- what is refused of a form is what is refused of the zone
abbrev zone_refusal : ℕ → Zones → Option Refusal
zone_refusal n zones = refused_by_file (refusal_in (n + 1 + 1 + 1) zones)

refusal_raw : (judgement : Judgement) (brought : Brought) (zone : List ℕ) (n : ℕ) → blocks_refusal judgement brought 0 (load_files zone) (load_block n ∷ []) ≡ option_or (option_or (zone_refusal n (zones_from zone [] (zone_of_load ∷ []))) None) None
unfolding rank_of file_fault plain_fault cache_fault
refusal_raw judgement brought zone n = refl

or_none : (o : Option Refusal) → option_or (option_or o None) None ≡ o
or_none None = refl
or_none (Some refusal) = refl

refusal_is : (judgement : Judgement) (brought : Brought) (zone : List ℕ) (n : ℕ) → blocks_refusal judgement brought 0 (load_files zone) (load_block n ∷ []) ≡ zone_refusal n (zones_from zone [] (zone_of_load ∷ []))
refusal_is judgement brought zone n = refusal_raw judgement brought zone n ∙ or_none (zone_refusal n (zones_from zone [] (zone_of_load ∷ [])))

same_refusal : (zones : Zones) (n m : ℕ) → zone_refusal n zones ≡ None → zone_refusal m zones ≡ None
same_refusal (Ok zones) n m none = refl
same_refusal (Err (zone_fault.Bad at reason)) n m none = absurd cc
same_refusal (Err zone_fault.TooMany) n m none = absurd cc
same_refusal (Err zone_fault.NoMemory) n m none = refl

no_patterns : (brought : Brought) (zone : List ℕ) (n : ℕ) → (blocks_task brought 0 (load_files zone) (load_block n ∷ [])).patterns ≡ []
unfolding rank_of
no_patterns brought zone n = refl

no_text : (k : ℕ) → ◌≡◌ {A = Option (List ℕ)} (slice_get [] k) None
no_text zero = refl
no_text (suc k) = refl

-- the second form is not refused
pub never_refused : (brought : Brought) (zone : List ℕ) (last : Option (List ℕ)) (refusal : Refusal) → IsWell (blocks_task brought 0 (load_files zone) (load_block 1 ∷ [])) → IsFault told (blocks_task brought 0 (load_files zone) (load_block 2 ∷ [])) last refusal → ⊥
never_refused brought zone last refusal well (inl comes) =
    let judgement : Judgement = record { made = comes.count; why = why.Args } in
    let patterns = ap (λ (l : List (List ℕ)). length l) (no_patterns brought zone 1) in
    let first = well.free judgement (omega (arith, patterns)) in
    let zones = zones_from zone [] (zone_of_load ∷ []) in
    let none : blocks_refusal judgement brought 0 (load_files zone) (load_block 2 ∷ []) ≡ None =
    refusal_is judgement brought zone 2 ∙ same_refusal zones 1 2 (sym (refusal_is judgement brought zone 1) ∙ first) in
    let some = comes.is judgement (omega arith) in
    let e : ◌≡◌ {A = Option Refusal} None (Some refusal) = sym none ∙ some in
    absurd cc
never_refused brought zone last refusal well (inr stops) =
    let e : ◌≡◌ {A = Option (List ℕ)} None (Some stops.text) = sym (no_text stops.count) ∙ (sym (ap (λ (l : List (List ℕ)). slice_get l stops.count) (no_patterns brought zone 2)) ∙ stops.stands) in
    absurd cc

-- by an accepted bundle of the first form
pub second_accepted : (terms : Terms) (zone : List ℕ) (blocks : List Block) (refusal : Refusal) → terms.default_port ≡ 53 → IsAccepted terms (load_bundle conf_text zone) blocks → IsRefused terms (load_bundle second_text zone) refusal → ⊥
second_accepted terms zone blocks refusal port accepted refused =
    let first = subst (λ (p : ℕ). blocks_of (load_bundle conf_text zone) p ≡ Ok blocks) port accepted.read in
    let are : blocks ≡ load_block 1 ∷ [] = same_Ok blocks (load_block 1 ∷ []) (sym first ∙ first_blocks zone) in
    let well = subst (λ (bs : List Block). IsWell (blocks_task terms.brought 0 (load_files zone) bs)) are accepted.well in
    let fault : IsFault told (blocks_task terms.brought 0 (load_files zone) (load_block 2 ∷ [])) refused.0 refusal =
    subst (λ (r : Result (List Block) CorefileFault). IsRefusedFor terms.brought (load_files zone) r refused.0 refusal) (ap (blocks_of (load_bundle second_text zone)) port ∙ second_blocks zone) refused.1 in
    never_refused terms.brought zone refused.0 refusal well fault
