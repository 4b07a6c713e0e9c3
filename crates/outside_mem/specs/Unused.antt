-- What sides and watches in memory are at a moment, and as they were made: nothing is told, and no
-- call was made. This server's own rule.
use Rattle.std.specs.Prelude.{◌≡◌, [], Some}
use Rattle.outside.specs.Causes.{no_side_faults, no_watch_faults}
use Rattle.outside.specs.Script.{SideScriptData, WatchScriptData}
use Rattle.outside.specs.States.{SideState, WatchState}
use Rattle.outside_mem.specs.Feed.{script_of, IsUnusedFeed}
use Rattle.outside_mem.specs.WatchFeed.{watch_script_of, IsUnusedWatchFeed}
use Rattle.outside_mem.specs.declared.side.MemSide.{MemSide}
use Rattle.outside_mem.specs.declared.watch.MemWatch.{MemWatch}

-- what a side gives
abbrev pub side_script : MemSide → SideScriptData
side_script side = script_of side.feed

-- what it is at a moment
abbrev pub side_state : MemSide → SideState
side_state side = record {
  journal = side.journal;
  counts = record {
    recv = side.recv_faults;
    send = side.send_faults;
    ask = side.ask_faults;
    silences = side.silences;
    note = side.note_faults;
  };
  script = Some (side_script side);
  left = side.left;
}

-- nothing was told of it, no call has failed, and its worker hasn't ended
pub record IsNewSide (side : MemSide) : Type 0 where
  pub nothing_told : side.journal ≡ Some []
  pub no_fault : (side_state side).counts ≡ no_side_faults
  pub here : side.left ≡ 0

pub record IsUnusedSide (side : MemSide) : Type 0 where
  pub new : IsNewSide side
  pub no_call : IsUnusedFeed side.feed

-- what a watch gives
abbrev pub watch_script : MemWatch → WatchScriptData
watch_script watch = watch_script_of watch.feed

-- what it is at a moment
abbrev pub watch_state : MemWatch → WatchState
watch_state watch = record {
  journal = watch.journal;
  counts = record { reads = watch.read_faults; notes = watch.note_faults };
  script = Some (watch_script watch);
  refusals = watch.maker.refused;
}

-- nothing was told of it, no call has failed, and no pattern was refused
pub record IsNewWatch (watch : MemWatch) : Type 0 where
  pub nothing_told : watch.journal ≡ Some []
  pub no_fault : (watch_state watch).counts ≡ no_watch_faults
  pub none_refused : watch.maker.refused ≡ 0

pub record IsUnusedWatch (watch : MemWatch) : Type 0 where
  pub new : IsNewWatch watch
  pub no_call : IsUnusedWatchFeed watch.feed
