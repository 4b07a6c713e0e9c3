-- What a program brings to a run, and which of its extras are judges. This server's own rule.
use Rattle.std.specs.Prelude.{◌≡◌, ℕ, ◌+◌, List, [], ◌∷◌, ◌++◌, map, if◌then◌else◌}
use Rattle.chain_meaning.specs.{ground_at, named_in}
use Rattle.extra_stock.specs.{is_named, names_weigh}
use Rattle.extra_stock.specs.declared.stock.Stock.{Stock}
use Rattle.plugin_api.specs.{Sayings, Takings}
use Rattle.reload_watch.specs.{Footing, footing_on}

-- the names of the extras that a program hands in, in their order, and what its rulebook says of
-- extras of each name
pub record Program : Type 0 where
  pub taken : Takings
  pub said : Sayings
  pub extras : List (List ℕ)

abbrev pub brings : Takings → Sayings → List (List ℕ) → Program
brings taken said extras = record { taken = taken; said = said; extras = extras }

-- these names with one more, unless it is among them
abbrev pub with_name : List (List ℕ) → List ℕ → List (List ℕ)
with_name before name = if named_in before name then before else before ++ name ∷ []

-- these names and those behind them, each where it stands first
abbrev pub names_once : List (List ℕ) → List (List ℕ) → List (List ℕ)
names_once before [] = before
names_once before (name ∷ names) = names_once (with_name before name) names

-- the names of the judges: of each name the first extra is one
abbrev pub judge_names : List (List ℕ) → List (List ℕ)
judge_names extras = names_once [] extras

-- what reading a configuration stands on in a run of the program with this default port
abbrev pub footing_of : Program → ℕ → Footing
footing_of program port =
    footing_on program.taken program.said (ground_at port (judge_names program.extras))

-- how many of the names are this one
abbrev pub count_name : List ℕ → List (List ℕ) → ℕ
count_name name names = names_weigh (λ other. other) (is_named name) names

-- the names of a stock's extras: of the judges, and of the spares
pub record StockData : Type 0 where
  pub judges : List (List ℕ)
  pub spare : List (List ℕ)

abbrev pub stock_data : {E : Type 0} → (E → List ℕ) → Stock E → StockData
stock_data title stock =
    record { judges = map title stock.judges.items; spare = map title stock.spare.items }

-- how much the names of a stock's extras weigh
abbrev pub data_weighs : (List ℕ → ℕ) → StockData → ℕ
data_weighs weight stock =
    names_weigh (λ name. name) weight stock.judges + names_weigh (λ name. name) weight stock.spare

-- two stocks have the same extras, by their names
abbrev pub SameNames : StockData → StockData → Type 0
SameNames old new = (weight : List ℕ → ℕ) → data_weighs weight new ≡ data_weighs weight old

-- a stock has each name as often as the extras that were handed in
abbrev pub HasEachName : List (List ℕ) → StockData → Type 0
HasEachName handed stock =
    (name : List ℕ)
    → count_name name stock.judges + count_name name stock.spare ≡ count_name name handed

-- extras were parted into the first of each name and all others
pub record PartsExtras {E : Type 0} (title : E → List ℕ) (extras judges spare : List E)
    : Type 0 where
  pub judges_are : map title judges ≡ judge_names (map title extras)
  pub weigh : (w : List ℕ → ℕ)
      → names_weigh title w judges + names_weigh title w spare ≡ names_weigh title w extras
