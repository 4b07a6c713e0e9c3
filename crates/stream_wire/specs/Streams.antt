-- What a source and a sink of bytes are at a moment, and what a call of each does to that. Either
-- may cut anywhere (RFC 1035, section 4.2.2). This server's own rule.
use Rattle.std.specs.Prelude.{◌≡◌, ◌≤◌, ◌<◌, ℕ, List, [], ◌++◌, length, take, Option, IfSome, option_map}
use Rattle.outside.specs.{raised}
use Rattle.stream_wire.specs.declared.source.Taken.{Taken}
use Rattle.stream_wire.specs.declared.source.Taken.TheVariants as taken
use Rattle.stream_wire.specs.declared.sink.Gave.{Gave}
use Rattle.stream_wire.specs.declared.sink.Gave.TheVariants as gave

-- a source: the bytes that it has left, where it tells them, and how many calls have failed
pub record SourceState : Type 0 where
  pub left : Option (List ℕ)
  pub faults : ℕ

-- a sink: the bytes that it took, where it tells them, and how many calls have failed
pub record SinkState : Type 0 where
  pub took : Option (List ℕ)
  pub faults : ℕ

-- just these bytes were taken from the front of a source, and no call failed
pub record Takes (before after : SourceState) (bytes : List ℕ) : Type 0 where
  pub told : before.left ≡ option_map (λ rest. bytes ++ rest) after.left
  pub faults : after.faults ≡ before.faults

-- just these bytes were taken, and then one call failed
pub record TakesThenFails (before after : SourceState) (bytes : List ℕ) : Type 0 where
  pub told : before.left ≡ option_map (λ rest. bytes ++ rest) after.left
  pub faults : after.faults ≡ raised before.faults

-- where a source tells its bytes, none is left
abbrev pub IsSpent : SourceState → Type 0
IsSpent source = IfSome source.left (λ rest. rest ≡ [])

-- bytes came into the front of a buffer. None for a buffer that isn't empty is the end.
pub record TakesSome (before after : SourceState) (buffer : List ℕ) (count : ℕ) : Type 0 where
  pub inside : count ≤ length buffer
  pub takes : Takes before after (take count buffer)
  pub end : count ≡ 0 → 0 < length buffer → IsSpent after

-- a call that takes, by its answer and what the buffer holds behind it
abbrev pub TakesInto : SourceState → SourceState → List ℕ → Taken → Type 0
TakesInto before after buffer (taken.Took count) = TakesSome before after buffer count
TakesInto before after buffer taken.End = Takes before after [] × IsSpent after
TakesInto before after buffer taken.Failed = TakesThenFails before after []

-- a sink took just these bytes, and no call failed
pub record Gains (before after : SinkState) (bytes : List ℕ) : Type 0 where
  pub told : after.took ≡ option_map (λ all. all ++ bytes) before.took
  pub faults : after.faults ≡ before.faults

-- a sink took just these bytes, and then one call failed
pub record GainsThenFails (before after : SinkState) (bytes : List ℕ) : Type 0 where
  pub told : after.took ≡ option_map (λ all. all ++ bytes) before.took
  pub faults : after.faults ≡ raised before.faults

-- so many of the bytes went. None of bytes that aren't empty is a failing call, and counts as one.
pub record GivesSome (before after : SinkState) (bytes : List ℕ) (count : ℕ) : Type 0 where
  pub inside : count ≤ length bytes
  pub some : 0 < count → Gains before after (take count bytes)
  pub none : count ≡ 0 → 0 < length bytes → GainsThenFails before after []
  pub nothing : length bytes ≡ 0 → Gains before after []

-- a call that gives, by its answer
abbrev pub Gives : SinkState → SinkState → List ℕ → Gave → Type 0
Gives before after bytes (gave.Gave count) = GivesSome before after bytes count
Gives before after bytes gave.Failed = GainsThenFails before after []
