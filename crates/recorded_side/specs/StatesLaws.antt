-- Laws of a side of which the marks are kept: what it promises by what the side promises.
use Rattle.std.specs.Prelude.{Option, Some, None}
use Rattle.outside.specs.Script.{AnsweredSide, SideScriptData}
use Rattle.outside.specs.States.{Journal, SideState}
use Rattle.recorded_side.specs.States.{journal_by, recorded_state}

answered_by : (script : Option SideScriptData) (journal kept : Journal)
    → AnsweredSide script journal → AnsweredSide script (journal_by script journal kept)
answered_by None journal kept h = tt
answered_by (Some script) journal kept h = h

-- its answers are those of a script
pub follows : (side : SideState) (kept : Journal) → AnsweredSide side.script side.journal
    → AnsweredSide (recorded_state side kept).script (recorded_state side kept).journal
follows side kept h = answered_by side.script side.journal kept h
