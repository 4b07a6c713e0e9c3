-- The line of a step that was reached. This server's own rule.
use Rattle.std.specs.Prelude.{ℕ, nat_eq, List, ◌++◌, codes, if◌then◌else◌}
use Rattle.std.specs.Fmt.{decimal}
use Rattle.chain_trail.specs.declared.reached.Reached.{Reached}

-- `NAME line L: SAY`
abbrev pub step_text : Reached → List ℕ
step_text r = r.name ++ (codes " line " ++ (decimal r.line ++ (codes ": " ++ r.say)))

-- the end of a chain stands in no line
abbrev pub reached_text : Reached → List ℕ
reached_text r = if nat_eq r.line 0 then r.name else step_text r
