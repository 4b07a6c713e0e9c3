-- How extras are parted into judges and spares, and what their names weigh.
use Rattle.std.proofs.Common.{◌≡◌, ◌∙◌, ◌+◌, Bool, true, false, ℕ, List, [], ◌∷◌, ◌++◌, Result, Ok, Err, map, refl, sym, ap, subst}
use Rattle.std.proofs.lemmas.List.Folds.{fold-map}
use Rattle.dns_data.specs.declared.directive.Directive.{Directive}
use Rattle.extra_stock.specs.{names_weigh}
use Rattle.extra_stock.specs.declared.stock.Stock.{Stock}
use Rattle.chain_build.specs.declared.chain.Chain.{Chain}
use Rattle.chain_build.specs.{Builds, PlansData, chain_extras, chain_identity}
use Rattle.chain_build.specs.declared.building.BuildFault.{BuildFault}
use Rattle.chain_build.specs.declared.building.BuildFault.TheVariants as unbuilt
use Rattle.pin_table.specs.{Identity, IsOfIdentity}
use Rattle.plugin_api.specs.declared.extra.Extra as extra
use Rattle.plugin_api.specs.declared.rulebook.Rulebook as rulebook
use Rattle.std.specs.Prelude.{if◌then◌else◌}
use Rattle.std.specs.Result.{IsErrAnd}
use Rattle.std.proofs.lemmas.List.{map-append}
use Rattle.chain_meaning.specs.{named_in}
use Rattle.dns_server.specs.Stocking.{SameNames, data_weighs, judge_names, names_once, stock_data, with_name}

once-push : (before names : List (List ℕ)) (name : List ℕ) → names_once before (names ++ name ∷ []) ≡ with_name (names_once before names) name
once-push before [] name = refl
once-push before (other ∷ names) name = once-push (with_name before other) names name

module _ {E : Type 0} (title : E → List ℕ) (judges yielded : List E) (extra : E) (names : map title judges ≡ judge_names (map title yielded)) where
  behind : judge_names (map title (yielded ++ extra ∷ [])) ≡ with_name (map title judges) (title extra)
  behind =
      ap judge_names (map-append title yielded (extra ∷ [])) ∙ once-push [] (map title yielded) (title extra) ∙ ap (λ (l : List (List ℕ)). with_name l (title extra)) (sym names)

  -- one whose name a judge has
  pub names_stay : named_in (map title judges) (title extra) ≡ true → map title judges ≡ judge_names (map title (yielded ++ extra ∷ []))
  names_stay named = sym (behind ∙ ap (λ (b : Bool). if b then map title judges else map title judges ++ title extra ∷ []) named)

  -- one of another name
  pub names_grow : named_in (map title judges) (title extra) ≡ false → map title (judges ++ extra ∷ []) ≡ judge_names (map title (yielded ++ extra ∷ []))
  names_grow named = map-append title judges (extra ∷ []) ∙ sym (behind ∙ ap (λ (b : Bool). if b then map title judges else map title judges ++ title extra ∷ []) named)

-- the names of extras weigh what the extras do
pub names_map : {E : Type 0} (title : E → List ℕ) (w : List ℕ → ℕ) (xs : List E) → names_weigh (λ name. name) w (map title xs) ≡ names_weigh title w xs
names_map title w xs = fold-map (λ (a : ℕ) (name : List ℕ). a + w name) title 0 xs

-- what a stock's names weigh
pub data_is : {E : Type 0} (title : E → List ℕ) (w : List ℕ → ℕ) (stock : Stock E) → data_weighs w (stock_data title stock) ≡ names_weigh title w stock.judges.items + names_weigh title w stock.spare.items
data_is title w stock = λ k. names_map title w stock.judges.items k + names_map title w stock.spare.items k

-- two stocks with the same judges, whose spares weigh the same
pub same_data : {E : Type 0} (title : E → List ℕ) (a b : Stock E) → b.judges ≡ a.judges → ((w : List ℕ → ℕ) → names_weigh title w b.spare.items ≡ names_weigh title w a.spare.items) → SameNames (stock_data title a) (stock_data title b)
same_data title a b judges spare = λ w. data_is title w b ∙ ((λ k. names_weigh title w (judges k).items + spare w k) ∙ sym (data_is title w a))

-- a fault of a call that is handed on
pub fault_stays : {T U : Type 0} (workers : ℕ) (blocks : List (List Directive)) (had : List ℕ → ℕ) (fault : BuildFault) (built : Result T BuildFault) (result : Result U BuildFault)
    → built ≡ Err fault → IsErrAnd result (λ f. f ≡ fault) → Builds workers blocks had built → Builds workers blocks had result
fault_stays workers blocks had fault built (Ok done) was is short = absurd is
fault_stays {T} {U} workers blocks had fault built (Err other) was is short =
    subst (λ (f : BuildFault). Builds {T = U} workers blocks had (Err f)) (sym is) (by_fault fault (subst (λ (r : Result T BuildFault). Builds workers blocks had r) was short))
  where
    by_fault : (f : BuildFault) → Builds {T = T} workers blocks had (Err f) → Builds {T = U} workers blocks had (Err f)
    by_fault (unbuilt.StockShort name asked was) h = h
    by_fault unbuilt.NoMemory h = tt

module _ {B E : Type 0} {bk : rulebook.Ghosts B} {ex : extra.Ghosts E} where
  -- what extras a chain has is told by its identity
  pub of_extras : (h : List (List Directive) → ℕ) → IsOfIdentity chain_identity (λ (c : Chain B E bk ex). h (chain_extras c))
  of_extras h c d same = ap (λ (i : Identity PlansData). h i.kind.extras) same
