-- What a stock of extras has. A weight of names says all: where the names of two lists weigh the
-- same by every weight, they have the same names, each as often, and as many items.
use Rattle.std.specs.Prelude.{◌≡◌, ◌<◌, ℕ, List, cond, length, nat_eq, slice_index_or}
use Rattle.std.specs.List.{sum_by}
use Rattle.std.specs.Cmp.Lexicographic.{pointwise}
use Rattle.dns_data.specs.declared.directive.Directive.{Directive}

-- how much the names of items weigh
abbrev pub names_weigh : {T : Type 0} → (T → List ℕ) → (List ℕ → ℕ) → List T → ℕ
names_weigh name_of weight items = sum_by (λ x. weight (name_of x)) items

-- the weight that counts a name
abbrev pub is_named : List ℕ → List ℕ → ℕ
is_named name other = cond (pointwise nat_eq other name) 1 0

-- how much the names of directives weigh, block by block
abbrev pub asked_by : (List ℕ → ℕ) → List (List Directive) → ℕ
asked_by weight blocks = sum_by (λ ds. names_weigh (λ d. d.name) weight ds) blocks

-- how many seats the blocks have
abbrev pub seats_in : List (List Directive) → ℕ
seats_in blocks = sum_by (λ ds. length ds) blocks

-- how much the names of the seats of chains weigh
abbrev pub in_chains : {C : Type 0} → (C → List (List Directive)) → (List ℕ → ℕ) → List C → ℕ
in_chains seats_of weight chains = sum_by (λ c. asked_by weight (seats_of c)) chains

-- how many seats chains have
abbrev pub seats_of_chains : {C : Type 0} → (C → List (List Directive)) → List C → ℕ
seats_of_chains seats_of chains = sum_by (λ c. seats_in (seats_of c)) chains

-- the items have these numbers, from 0 in order
abbrev pub are_numbered : {C : Type 0} → (C → ℕ) → List C → Type 0
are_numbered number_of items =
    (k : ℕ) (d : _) → k < length items → number_of (slice_index_or items k d) ≡ k
