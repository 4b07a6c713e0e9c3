-- How a watch goes on through calls that make patterns. This server's own rule.
use Rattle.std.specs.Prelude.{◌≡◌, ◌≤◌, ◌⊎◌, ℕ, ◌+◌, Result, Err, if◌then◌else◌}
use Rattle.outside.specs.Causes.{RoseBy, WatchNoneFell, raised}
use Rattle.outside.specs.States.{WatchState, with_refusals}
use Rattle.chain_meaning.specs.declared.refusal.Refusal.{Refusal}
use Rattle.chain_build.specs.{is_of_pattern}
use Rattle.reload_watch.specs.declared.fault.ReadFault.{ReadFault}
use Rattle.reload_watch.specs.declared.fault.ReadFault.TheVariants as first
use Rattle.reload_watch.specs.declared.found.Found.{Found}
use Rattle.reload_watch.specs.declared.found.Found.TheVariants.{Kept, Next}
use Rattle.run_meaning.specs.declared.looking.Looking.{Looking}
use Rattle.run_meaning.specs.declared.looking.Looking.TheVariants as looking

-- no count fell, the script is as it was, and no refusal of a pattern is gone
pub record WatchGoesOn (before after : WatchState) : Type 0 where
  pub later : WatchNoneFell before.counts after.counts
  pub script : after.script ≡ before.script
  pub refusals : before.refusals ≤ after.refusals

-- the refusals of a maker behind a refusal: one more where it is that of a pattern
abbrev pub refusals_by : Refusal → ℕ → ℕ
refusals_by why before = if is_of_pattern why then raised before else before

-- 1 for the refusal of a pattern
abbrev pub pattern_refused : Refusal → ℕ
pattern_refused why = if is_of_pattern why then 1 else 0

-- the refusals of a maker behind the first reading
abbrev pub refusals_first : {X : Type 0} → Result X ReadFault → ℕ → ℕ
refusals_first (Err (first.Refused why)) before = refusals_by why before
refusals_first other before = before

-- the same behind a look: one that met want of memory may have refused a pattern before
abbrev pub CountsRefusals : Looking → ℕ → ℕ → Type 0
CountsRefusals (looking.Refused why) before after = after ≡ refusals_by why before
CountsRefusals looking.NoMemory before after = (after ≡ before) ⊎ (after ≡ raised before)
CountsRefusals answer before after = after ≡ before

-- a watch behind what a gathering came to: nothing but its refusals is another
abbrev pub kept_behind : Looking → WatchState → WatchState
kept_behind (looking.Refused why) state = with_refusals state (refusals_by why state.refusals)
kept_behind answer state = state

abbrev pub found_behind : {B : Type 0} → Found B → WatchState → WatchState
found_behind (Kept answer) state = kept_behind answer state
found_behind (Next plans) state = state

-- a count rose by so many at least, or stands at its last value, and by so many more at most
pub record RoseWithin (many more before after : ℕ) : Type 0 where
  pub least : RoseBy many before after
  pub most : after ≤ before + (many + more)
