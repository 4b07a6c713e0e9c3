-- Messages in a stream: each behind its length in two bytes, the higher first (RFC 1035, section
-- 4.2.2; RFC 7766, section 8).
use Rattle.std.specs.Prelude.{◌≡◌, ◌≤◌, ◌<◌, ◌+◌, ◌*◌, ◌/◌, ◌%◌, ℕ, List, [], ◌∷◌, length, take}
use Rattle.dns_data.specs.declared.limit.TheConstants as limits
use Rattle.outside.specs.declared.datagram.Wrote.{Wrote}
use Rattle.outside.specs.declared.datagram.Wrote.TheVariants as wrote
use Rattle.stream_wire.specs.declared.reading.Frame.{Frame}
use Rattle.stream_wire.specs.declared.reading.Frame.TheVariants as frame
use Rattle.stream_wire.specs.Streams.{SourceState, Takes, TakesThenFails, IsSpent, SinkState, Gains, GainsThenFails}

-- a message as a stream carries it
abbrev pub framed : List ℕ → List ℕ
framed bytes = length bytes / 256 ∷ length bytes % 256 ∷ bytes

-- the bytes end inside a frame: what it wants, and how much of that is there. Behind one byte these
-- are the two bytes of the length and 1, else the length and the bytes behind it.
abbrev pub IsTorn : List ℕ → ℕ → ℕ → Type 0
IsTorn [] want got = ⊥
IsTorn (high ∷ []) want got = (want ≡ 2) × (got ≡ 1)
IsTorn (high ∷ low ∷ bytes) want got =
    (want ≡ 256 * high + low) × (got ≡ length bytes) × (got < want)

-- the bytes begin a frame and aren't all of it
abbrev pub IsPart : List ℕ → Type 0
IsPart [] = Unit {0}
IsPart (byte ∷ bytes) = (want : ℕ) × (got : ℕ) × IsTorn (byte ∷ bytes) want got

-- reading a frame, by its answer: a whole frame was taken and no more; the source ended before a
-- frame, or inside one; a call failed, or memory did, before the frame was whole
abbrev pub ReadsFrame : SourceState → SourceState → Frame → Type 0
ReadsFrame before after (frame.Got bytes) =
    (length bytes ≤ limits.MESSAGE_BYTES) × Takes before after (framed bytes)
ReadsFrame before after frame.End = Takes before after [] × IsSpent after
ReadsFrame before after (frame.Torn want got) =
    (want ≤ limits.MESSAGE_BYTES) × (front : List ℕ) × IsTorn front want got
    × Takes before after front
    × IsSpent after
ReadsFrame before after frame.Failed =
    (front : List ℕ) × IsPart front × TakesThenFails before after front
ReadsFrame before after frame.NoMemory =
    (front : List ℕ) × IsPart front × Takes before after front

-- reading the message behind its length
abbrev pub ReadsMessage : ℕ → SourceState → SourceState → Frame → Type 0
ReadsMessage size before after (frame.Got bytes) =
    (length bytes ≡ size) × Takes before after bytes
ReadsMessage size before after frame.End = ⊥
ReadsMessage size before after (frame.Torn want got) =
    (want ≡ size) × (got < size) × (bytes : List ℕ) × (got ≡ length bytes)
    × Takes before after bytes
    × IsSpent after
ReadsMessage size before after frame.Failed =
    (bytes : List ℕ) × (length bytes < size) × TakesThenFails before after bytes
ReadsMessage size before after frame.NoMemory =
    (bytes : List ℕ) × (length bytes < size) × Takes before after bytes

-- writing bytes to their end, by the answer: all of them went, or not all and a call failed
abbrev pub WritesAll : SinkState → SinkState → List ℕ → Wrote → Type 0
WritesAll before after bytes wrote.Ok = Gains before after bytes
WritesAll before after bytes wrote.Failed =
    (count : ℕ) × (count < length bytes) × GainsThenFails before after (take count bytes)
