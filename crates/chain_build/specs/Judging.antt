-- What is said of the directive of an extra.
use Rattle.std.specs.Prelude.{ℕ, Bool, List, Option, Some, None, if◌then◌else◌}
use Rattle.dns_data.specs.declared.directive.Directive.{Directive}
use Rattle.plugin_api.specs.{Takings}

-- whether the extras of its name take it; None: there are none
abbrev pub judged : (List ℕ → Bool) → Takings → Directive → Option Bool
judged named taken d = if named d.name then Some (taken d.name d) else None
