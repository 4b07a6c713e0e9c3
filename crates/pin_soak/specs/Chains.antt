-- Which chain a chain of the soak is.
use Rattle.std.specs.Prelude.{ℕ, List, []}
use Rattle.pin_table.specs.{Identity, tag}
use Rattle.pin_soak.specs.declared.chains.Chain.{Chain}

-- its serial and its worker
abbrev pub identity_of : Chain → Identity ℕ
identity_of c = tag c.serial c.worker 0

-- it notes nothing
abbrev pub log_of : Chain → List (List ℕ)
log_of c = []
