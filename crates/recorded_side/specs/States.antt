-- A side with the marks that are kept of it. This server's own rule.
use Rattle.std.specs.Prelude.{Option, Some, None}
use Rattle.outside.specs.Script.{SideScriptData}
use Rattle.outside.specs.States.{Journal, SideState}

-- a side, and the marks that were kept, where all of them could be
pub record Recorded (S : Type 0) : Type 0 where
  pub side : S
  pub kept : Journal

-- what is told: a side with a script tells its own journal, and one without tells what was kept
abbrev pub journal_by : Option SideScriptData → Journal → Journal → Journal
journal_by None journal kept = kept
journal_by (Some script) journal kept = journal

-- what it is at a moment: what the side is, but for the journal
abbrev pub recorded_state : SideState → Journal → SideState
recorded_state side kept =
    record side { journal = journal_by side.script side.journal kept }
