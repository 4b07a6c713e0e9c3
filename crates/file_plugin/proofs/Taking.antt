-- A zone of a plan is the one of its origin that the plan's text spells.
use Rattle.std.proofs.Common.{◌≡◌, ◌∙◌, ℕ, List, [], ◌∷◌, ◌++◌, Result, Ok, Err, refl, sym, ap, subst}
use Rattle.std.specs.List.{All, Contains}
use Rattle.std.proofs.lemmas.List.Elements.{All-contains, All-map, All-nil, All-push}
use Rattle.dns_data.specs.Record.{RecordData}
use Rattle.dns_data.specs.declared.zone.Zone.{Zone}
use Rattle.plugin_api.specs.{fallthrough_of}
use Rattle.zone_file.specs.declared.fault.ZoneFault.{ZoneFault}
use Rattle.zone_file.specs.Zones.{and_then, as_zone, zone_of}
use Rattle.file_plugin.specs.Zones.{FileData, Served, file_zones, origins_of, read_from, read_well, served_of, served_with, zones_from}

abbrev IsRead : List ℕ → Zone → Type 0
IsRead text zone = read_from text zone.origin ≡ Ok zone

abbrev origin_in : List (List ℕ) → Result Zone ZoneFault → List (List ℕ)
origin_in origin (Ok zone) = zone.origin
origin_in origin (Err refused) = origin

own_origin : (origin : List (List ℕ)) (records : Result (List RecordData) ZoneFault) → origin_in origin (as_zone origin records) ≡ origin
own_origin origin (Ok records) = refl
own_origin origin (Err refused) = refl

by_origin : (text : List ℕ) (origin : List (List ℕ)) (zone : Zone) → read_from text origin ≡ Ok zone → IsRead text zone
by_origin text origin zone e =
    let own : zone.origin ≡ origin = sym (ap (origin_in origin) e) ∙ own_origin origin (zone_of text origin) in
    subst (λ (o : List (List ℕ)). read_from text o ≡ Ok zone) (sym own) e

one_read : (text : List ℕ) (origin : List (List ℕ)) (next : Zone → Result (List Zone) ZoneFault) (read : Result Zone ZoneFault) → read_from text origin ≡ read → ((zone : Zone) → IsRead text zone → All (IsRead text) (read_well (next zone)))
    → All (IsRead text) (read_well (and_then next read))
one_read text origin next (Ok zone) e all = all zone (by_origin text origin zone e)
one_read text origin next (Err refused) e all = All-nil (IsRead text)

all_read : (text : List ℕ) (before : List Zone) (origins : List (List (List ℕ))) → All (IsRead text) before → All (IsRead text) (read_well (zones_from text before origins))
all_read text before [] all = all
all_read text before (origin ∷ origins) all =
    one_read text origin (λ zone. zones_from text (before ++ zone ∷ []) origins) (read_from text origin) refl
    (λ zone read. all_read text (before ++ zone ∷ []) origins (All-push (IsRead text) before zone all read))

plan_read : (plan : FileData) → All (λ (served : Served). IsRead plan.text served.zone) (served_of plan)
unfolding file_zones
plan_read plan =
    All-map (λ (served : Served). IsRead plan.text served.zone) (served_with (fallthrough_of plan.directive.body)) (file_zones plan)
    (all_read plan.text [] (origins_of plan.zones plan.directive.args) (All-nil (IsRead plan.text)))

-- so it may stand for the one that would be read anew
pub taken_is : (plan : FileData) (served : Served) (text : List ℕ) (origin : List (List ℕ)) → Contains (served_of plan) served → served.zone.origin ≡ origin → plan.text ≡ text → read_from text origin ≡ Ok served.zone
taken_is plan served text origin stands own same =
    let read : IsRead plan.text served.zone = All-contains (λ (s : Served). IsRead plan.text s.zone) (served_of plan) served (plan_read plan) stands in
    subst (λ (t : List ℕ). read_from t origin ≡ Ok served.zone) same (subst (λ (o : List (List ℕ)). read_from plan.text o ≡ Ok served.zone) own read)
