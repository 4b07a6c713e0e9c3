-- What filling a buffer from a source does, by its answer. This server's own rule.
use Rattle.std.specs.Prelude.{◌<◌, ℕ, List, length, take}
use Rattle.stream_wire.specs.declared.filling.Filled.{Filled}
use Rattle.stream_wire.specs.declared.filling.Filled.TheVariants as filled
use Rattle.stream_wire.specs.Streams.{SourceState, Takes, TakesThenFails, IsSpent}

abbrev pub FillsBuffer : SourceState → SourceState → List ℕ → Filled → Type 0
FillsBuffer before after buffer filled.Full = Takes before after buffer
FillsBuffer before after buffer (filled.Ended count) =
    (count < length buffer) × Takes before after (take count buffer) × IsSpent after
FillsBuffer before after buffer filled.Failed =
    (count : ℕ) × (count < length buffer) × TakesThenFails before after (take count buffer)
