-- What bytes that came so far begin with (RFC 1035, section 4.2.2).
use Rattle.std.specs.Prelude.{◌≡◌, ℕ, List, [], ◌++◌}
use Rattle.stream_wire.specs.declared.front.Front.{Front}
use Rattle.stream_wire.specs.declared.front.Front.TheVariants as front
use Rattle.stream_wire.specs.declared.reading.Frame.{Frame}
use Rattle.stream_wire.specs.declared.reading.Frame.TheVariants as frame
use Rattle.stream_wire.specs.Frames.{framed, IsTorn}

-- the bytes are a whole frame and more, none, or a part of a frame. Just one of these holds
-- (`one_front`, Laws.antt).
abbrev pub BeginsWith : List ℕ → Front → Type 0
BeginsWith bytes (front.Whole message) =
    (rest : List ℕ) × (bytes ≡ framed message.now ++ rest)
BeginsWith bytes front.Nothing = bytes ≡ []
BeginsWith bytes (front.Part want got) = IsTorn bytes want got

-- what a reader of the stream would answer, were these all its bytes
abbrev pub frame_of : Front → Frame
frame_of (front.Whole message) = frame.Got message.now
frame_of front.Nothing = frame.End
frame_of (front.Part want got) = frame.Torn want got
