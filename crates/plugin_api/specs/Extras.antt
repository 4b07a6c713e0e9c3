-- What is known of a program's own plugins, its extras, under a rulebook. This server's own rule.
use Rattle.std.specs.Prelude.{◌≡◌, ℕ, Bool, List, [], Option, Some, None}
use Rattle.std.specs.List.{All}
use Rattle.dns_data.specs.declared.directive.Directive.{Directive}
use Rattle.dns_data.specs.declared.query.Query.{Query}
use Rattle.plugin_api.specs.declared.verdict.Verdict.{Verdict}

-- which directives extras of a name take, and what they say of a query by a directive
abbrev pub Takings : Type 0
Takings = List ℕ → Directive → Bool

abbrev pub Sayings : Type 0
Sayings = List ℕ → Directive → Query → Verdict

-- an extra takes and says what the rulebook says of its name
pub record Obeys (taken : Takings) (said : Sayings) (title : List ℕ) (takes : Directive → Bool)
    (ruling : Directive → Query → Verdict) : Type 0 where
  pub takes_it : (d : Directive) → takes d ≡ taken title d
  pub says_it : (d : Directive) (q : Query) → ruling d q ≡ said title d q

-- each of these extras does
abbrev pub Obey : {E : Type 0} → Takings → Sayings → (E → List ℕ) → (E → Directive → Bool)
    → (E → Directive → Query → Verdict) → List E → Type 0
Obey taken said title takes ruling extras =
    All (λ e. Obeys taken said (title e) (takes e) (ruling e)) extras

abbrev pub no_directive : Directive
no_directive = record { name = []; args = []; body = []; line = 0 }

-- the directive to which an extra was set
abbrev pub set_to : Option Directive → Directive
set_to None = no_directive
set_to (Some d) = d
