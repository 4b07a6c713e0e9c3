pub mod Entry
pub mod Causes
pub mod Script
pub mod States
pub mod Marks
pub mod WatchMarks
pub mod Hosts
pub mod Journals
pub mod Patterns
pub mod Meanings
pub mod Weight
pub mod Kept
pub mod Same
pub mod SameLaws
pub mod Keys
pub mod Taking
pub mod TakingLaws
-- what public clauses cite
pub use Rattle.outside.specs.Causes.{HostCounts, HostNoneFell, SideCounts, WatchCounts, NoneFell}
pub use Rattle.outside.specs.Causes.{Rose, RoseBy, RoseJust, WatchNoneFell, raised}
pub use Rattle.outside.specs.Causes.{behind_ask, behind_note, behind_read, behind_recv, behind_send}
pub use Rattle.outside.specs.Causes.{behind_tell, behind_watch_note}
pub use Rattle.outside.specs.Entry.{EntryData}
pub use Rattle.outside.specs.Hosts.{HostState, HostTold, OpenedSide, SupplyData, ToldLine}
pub use Rattle.outside.specs.Hosts.{AddsHost, IsFreshSide, IsFreshWatch, OpensSide, OpensWatch}
pub use Rattle.outside.specs.Hosts.{TellsOneLine}
pub use Rattle.outside.specs.Marks.{Adds, Grows, ask_marks, more_marks, noted, now_mark, recv_marks}
pub use Rattle.outside.specs.Marks.{seen_mark, sent, word_mark}
pub use Rattle.outside.specs.Patterns.{IsPatternOf, IsPatternText, Makes, last_behind}
pub use Rattle.outside.specs.Script.{AnsweredSide, QuietSide, SideScriptData, WatchScriptData}
pub use Rattle.outside.specs.States.{Counted, Journal, SideState, Stays, WatchCounted}
pub use Rattle.outside.specs.States.{WatchJournal, WatchState, WatchStays, left_once, maker_alone}
pub use Rattle.outside.specs.States.{with_refusals}
pub use Rattle.outside.specs.WatchMarks.{AddsWatch, AnsweredWatch, IsReadLimited, QuietWatch}
pub use Rattle.outside.specs.WatchMarks.{look_marks, published, read_marks, watch_noted}
pub use Rattle.outside.specs.Kept.{Keeps, is_on}
pub use Rattle.outside.specs.Meanings.{Meaning, Starved, Took, onward}
pub use Rattle.outside.specs.Same.{same_answer, same_ask, same_entry, same_inner, same_key}
pub use Rattle.outside.specs.Same.{same_line, same_outcome, same_query}
pub use Rattle.outside.specs.Keys.{shard_of}
pub use Rattle.outside.specs.Taking.{Asks, Takes}
pub use Rattle.outside.specs.Weight.{inner_weight, weight_of}
