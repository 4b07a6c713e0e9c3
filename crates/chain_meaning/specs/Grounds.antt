-- What a run stands on beside its configuration. It stays the same while the run lasts.
use Rattle.std.specs.Prelude.{ℕ, nat_eq, Bool, List}
use Rattle.std.specs.Cmp.Lexicographic.{pointwise}
use Rattle.std.specs.List.{list_any}
use Rattle.plugin_api.specs.{Sayings, Takings}

-- the extras that a program brings: whether there are any of a name, and which directives those of
-- a name take
pub record Brought : Type 0 where
  pub named : List ℕ → Bool
  pub taken : Takings

-- the port of keys that name none, what the program brings, and what its extras say
pub record Terms : Type 0 where
  pub default_port : ℕ
  pub brought : Brought
  pub said : Sayings

-- the part of it that is plain data: the port, and the names of the extras
pub record Ground : Type 0 where
  pub default_port : ℕ
  pub names : List (List ℕ)

-- whether a name is one of these
abbrev pub named_in : List (List ℕ) → List ℕ → Bool
named_in names name = list_any (pointwise nat_eq name) names

abbrev pub brought_of : (List ℕ → Bool) → Takings → Brought
brought_of named taken = record { named = named; taken = taken }

abbrev pub ground_at : ℕ → List (List ℕ) → Ground
ground_at default_port names = record { default_port = default_port; names = names }

abbrev pub terms_by : ℕ → Brought → Sayings → Terms
terms_by default_port brought said =
    record { default_port = default_port; brought = brought; said = said }

-- the terms of a ground under a rulebook
abbrev pub terms_on : Takings → Sayings → Ground → Terms
terms_on taken said basis =
    terms_by basis.default_port (brought_of (named_in basis.names) taken) said
