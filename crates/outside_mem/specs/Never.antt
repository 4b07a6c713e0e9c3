-- Sides and watches in memory of which no call fails: what their scripts must be, and what they are
-- at a moment. This server's own rule.
use Rattle.std.specs.Prelude.{◌≡◌, ◌≢◌, ℕ, [], Some, None, slice_get}
use Rattle.outside.specs.declared.datagram.Outcome.TheVariants as outcome
use Rattle.outside.specs.Causes.{no_watch_faults}
use Rattle.outside.specs.Script.{SideScriptData, WatchScriptData}
use Rattle.outside.specs.States.{SideState, WatchState}
use Rattle.outside_mem.specs.Unused.{side_script, side_state, IsUnusedSide}
use Rattle.outside_mem.specs.Unused.{watch_script, watch_state, IsUnusedWatch}
use Rattle.outside_mem.specs.declared.never_side.NeverSide.{NeverSide}
use Rattle.outside_mem.specs.declared.never_watch.NeverWatch.{NeverWatch}

-- a script by which no call of a side fails
pub record NeverFails (script : SideScriptData) : Type 0 where
  pub recv : script.fail_recv ≡ []
  pub send : script.fail_send ≡ []
  pub ask : script.fail_ask ≡ []
  pub note : script.fail_note ≡ []
  pub asks : (call : ℕ) → slice_get script.asks call ≢ Some outcome.Failed

-- a script by which no call of a watch fails
pub record WatchNeverFails (script : WatchScriptData) : Type 0 where
  pub read : script.fail_read ≡ []
  pub note : script.fail_note ≡ []

-- a side whose counts of failing calls are the constant 0, and which tells no script
abbrev pub without_faults : SideState → SideState
without_faults side = record {
  journal = side.journal;
  counts = record { recv = 0; send = 0; ask = 0; silences = side.counts.silences; note = 0 };
  script = None;
  left = side.left;
}

-- a watch whose counts of failing calls are the constant 0, and which tells no script
abbrev pub watch_without_faults : WatchState → WatchState
watch_without_faults watch = record {
  journal = watch.journal;
  counts = no_watch_faults;
  script = None;
  refusals = watch.refusals;
}

-- what they give
abbrev pub never_script : NeverSide → SideScriptData
never_script never = side_script never.side

abbrev pub never_watch_script : NeverWatch → WatchScriptData
never_watch_script never = watch_script never.watch

-- what they are at a moment
abbrev pub never_state : NeverSide → SideState
never_state never = without_faults (side_state never.side)

abbrev pub never_watch_state : NeverWatch → WatchState
never_watch_state never = watch_without_faults (watch_state never.watch)

-- nothing is told of them, and no call was made
abbrev pub IsUnusedNever : NeverSide → Type 0
IsUnusedNever never = IsUnusedSide never.side

abbrev pub IsUnusedNeverWatch : NeverWatch → Type 0
IsUnusedNeverWatch never = IsUnusedWatch never.watch
