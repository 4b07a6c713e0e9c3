-- The zones of a plan.
use Rattle.std.proofs.Common.{◌≡◌, ℕ, List, [], map, sym, ap, ◌∙◌}
use Rattle.dns_data.specs.declared.zone.Zone.{Zone}
use Rattle.plugin_api.specs.{fallthrough_of}
use Rattle.file_plugin.specs.Reading.{AreRead}
use Rattle.file_plugin.specs.Zones.{FileData, Served, file_zones, origins_of, read_well, served_of, served_with, zones_from}

-- they are those that were read from its text
pub loaded_is : (plan : FileData) (origins fall : List (List (List ℕ))) (served : List Served) → origins_of plan.zones plan.directive.args ≡ origins → fallthrough_of plan.directive.body ≡ fall
    → AreRead plan.text origins fall served → served ≡ served_of plan
unfolding file_zones
loaded_is plan origins fall served o f a =
    let zones : a.zones ≡ file_zones plan = sym (ap read_well (ap (zones_from plan.text []) o ∙ a.read)) in
    a.are ∙ (λ i. map (served_with (sym f i)) (zones i))

-- these were read, and these origins are left
pub record AreSoFar (text : List ℕ) (all fall : List (List (List ℕ))) (served : List Served) (rest : List (List (List ℕ))) : Type 0 where
  pub zones : List Zone
  pub left : zones_from text zones rest ≡ zones_from text [] all
  pub are : served ≡ map (served_with fall) zones
