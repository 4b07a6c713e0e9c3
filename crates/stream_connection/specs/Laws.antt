-- What a connection gives over its whole life, however its bytes were cut: the frames of the bytes
-- that came, in order, and of the rest it has all (RFC 1035, section 4.2.2).
use Rattle.std.proofs.Common.{◌≡◌, ℕ, List, [], ◌∷◌, ◌++◌, append_assoc, sym, ap, ◌∙◌}
use Rattle.std.proofs.lemmas.List.{append-nil}
use Rattle.stream_wire.specs.{framed}
use Rattle.stream_connection.specs.Connections.{ConnectionData, with_more, GivesMessage}

-- what happened to a connection
pub data Event : Type 0 where
  came : List ℕ → Event
  gave : List ℕ → Event

-- the bytes that came in all
abbrev pub bytes_of : List Event → List ℕ
bytes_of [] = []
bytes_of (came bytes ∷ events) = bytes ++ bytes_of events
bytes_of (gave message ∷ events) = bytes_of events

-- the messages that were given, as a stream carries them
abbrev pub frames_of : List Event → List ℕ
frames_of [] = []
frames_of (came bytes ∷ events) = frames_of events
frames_of (gave message ∷ events) = framed message ++ frames_of events

-- calls that did just these, one after the other, lead from one state to another; what else calls
-- did to it left the bytes that came
abbrev pub LeadsTo : ConnectionData → List Event → ConnectionData → Type 0
LeadsTo c [] d = d.incoming ≡ c.incoming
LeadsTo c (came bytes ∷ events) d = (now : ℕ) × LeadsTo (with_more c bytes now) events d
LeadsTo c (gave message ∷ events) d =
    (next : ConnectionData) × (now : ℕ) × GivesMessage c next message now × LeadsTo next events d

-- the messages are the frames of what came, and nothing is lost
pub frames_in_order : (c : ConnectionData) (events : List Event) (d : ConnectionData) → LeadsTo c events d → c.incoming ++ bytes_of events ≡ frames_of events ++ d.incoming
frames_in_order c [] d is = append-nil c.incoming ∙ sym is
frames_in_order c (came bytes ∷ events) d (now, leads) =
    sym (append_assoc c.incoming bytes (bytes_of events)) ∙ frames_in_order (with_more c bytes now) events d leads
frames_in_order c (gave message ∷ events) d (next, now, given, leads) =
    ap (λ xs. xs ++ bytes_of events) given.first
    ∙ (append_assoc (framed message) next.incoming (bytes_of events)
    ∙ (ap (λ xs. framed message ++ xs) (frames_in_order next events d leads)
    ∙ sym (append_assoc (framed message) (frames_of events) d.incoming)))
