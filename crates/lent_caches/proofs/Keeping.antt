-- A use that is lent stays one through its calls.
use Rattle.std.proofs.Common.{◌≡◌, ◌∙◌, ℕ, zero, suc, List, [], ◌∷◌, map, Some, refl, sym}
use Rattle.std.specs.Prelude.{slice_get}
use Rattle.std.proofs.lemmas.Option.{same_Some}
use Rattle.cache_plugin.specs.{UseData}
use Rattle.cache_plugin.specs.Uses.{KeepsParts, SameUse}
use Rattle.cache_shards.specs.Seats.{ShardView, met_marks}
use Rattle.lent_caches.specs.declared.judge.BlockJudge.{BlockJudge}
use Rattle.lent_caches.specs.Uses.{IsLent}

abbrev View : Type 0
View = ShardView BlockJudge

module _ {B : Type 0} (f : View → B) where
  get_map : (views : List View) (at : ℕ) (w : View) → slice_get views at ≡ Some w → slice_get (map f views) at ≡ Some (f w)
  get_map [] at w is = absurd cc
  get_map (v ∷ views) zero w is = λ i. Some (f (same_Some v w is i))
  get_map (v ∷ views) (suc at) w is = get_map views at w is

  map_at : (views : List View) (at : ℕ) (b : B) → slice_get (map f views) at ≡ Some b → (v : View) × (slice_get views at ≡ Some v) × (b ≡ f v)
  map_at [] at b is = absurd cc
  map_at (v ∷ views) zero b is = (v, refl, sym (same_Some (f v) b is))
  map_at (v ∷ views) (suc at) b is = map_at views at b is

  -- where f of all is the same
  same_at : (old new : List View) → map f new ≡ map f old → (at : ℕ) (w : View) → slice_get new at ≡ Some w → (v : View) × (slice_get old at ≡ Some v) × (f w ≡ f v)
  same_at old new same at w is =
      map_at old at (f w) ((λ i. slice_get (sym same i) at) ∙ get_map new at w is)

pub lent_stays : (old new : UseData BlockJudge) → IsLent old → SameUse old new → KeepsParts old new → IsLent new
lent_stays old new lent same keeps = (
  same.views ∙ lent.0,
  λ at w here.
      let p = same_at (λ (v : View). v.parts) old.views new.views keeps.parts at w here in
      let m = same_at (λ (v : View). met_marks v) old.views new.views keeps.met at w here in
      (p.2 ∙ (lent.1 at p.0 p.1).0, m.2 ∙ (lent.1 at m.0 m.1).1),
)
