-- When a stock is short of extras: for the first directive in the order of the text of whose name
-- the workers ask for more than there are.
use Rattle.std.specs.Prelude.{◌≡◌, ℕ, ◌*◌, Bool, List, nat_lt, flat_map, find, Option, Some, None}
use Rattle.dns_data.specs.declared.directive.Directive.{Directive}
use Rattle.extra_stock.specs.Stocks.{asked_by, is_named}
use Rattle.extra_stock.specs.declared.shortage.Short.{Short}

-- the extra directives of all blocks, in the order of the text
abbrev pub in_text : List (List Directive) → List Directive
in_text blocks = flat_map (λ ds. ds) blocks

-- how many extras of a name so many workers ask for
abbrev pub asked : ℕ → List (List Directive) → List ℕ → ℕ
asked workers blocks name = workers * asked_by (is_named name) blocks

-- whether there are fewer of a directive's name than are asked for
unfoldable pub is_short : ℕ → List (List Directive) → (List ℕ → ℕ) → Directive → Bool
is_short workers blocks had d = nat_lt (had d.name) (asked workers blocks d.name)

abbrev pub first_short : ℕ → List (List Directive) → (List ℕ → ℕ) → Option Directive
first_short workers blocks had = find (is_short workers blocks had) (in_text blocks)

-- a stock that is short of extras, with the name, how many were asked for, and how many there were
pub record IsShort (workers : ℕ) (blocks : List (List Directive)) (had : List ℕ → ℕ)
    (name : List ℕ) (asks has : ℕ) : Type 0 where
  pub directive : Directive
  pub first : first_short workers blocks had ≡ Some directive
  pub name_is : name ≡ directive.name
  pub asks_is : asks ≡ asked workers blocks name
  pub has_is : has ≡ had name

-- what is said of a stock
abbrev pub SaysShort : ℕ → List (List Directive) → (List ℕ → ℕ) → Option Short → Type 0
SaysShort workers blocks had None = first_short workers blocks had ≡ None
SaysShort workers blocks had (Some short) =
    IsShort workers blocks had short.name short.asked short.had
