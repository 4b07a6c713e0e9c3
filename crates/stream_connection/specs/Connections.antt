-- What a connection is at a moment, and what each of its calls does to that: which messages it
-- gives of the bytes that came, which bytes wait to go out, and when it is closed. Messages stand
-- in a stream by stream_wire's definitions (RFC 1035, section 4.2.2). This server's own rule.
use Rattle.std.specs.Prelude.{◌≡◌, ◌≤◌, ◌<◌, ◌+◌, ℕ, List, [], ◌∷◌, ◌++◌, length, drop, Bool, true, false, ◌||◌, Option, Some, None}
use Rattle.stream_wire.specs.{framed, IsPart}
use Rattle.stream_connection.specs.declared.bounds.Bounds.{Bounds}
use Rattle.stream_connection.specs.Bounds.{idle_for, is_past}
use Rattle.stream_connection.specs.declared.connection.Next.{Next}
use Rattle.stream_connection.specs.declared.connection.Next.TheVariants as next
use Rattle.stream_connection.specs.declared.connection.Replied.{Replied}
use Rattle.stream_connection.specs.declared.connection.Replied.TheVariants as replied

-- the bytes that came behind the last message that was given, and those that wait to go out; when
-- it was opened or gave a message, and since when a message is here in part
pub record ConnectionData : Type 0 where
  pub incoming : List ℕ
  pub waiting : List ℕ
  pub active : ℕ
  pub part : Option ℕ

abbrev pub new_connection : ℕ → ConnectionData
new_connection now = record { incoming = []; waiting = []; active = now; part = None }

-- since when a part is here, once more came
abbrev pub begun : List ℕ → Option ℕ → ℕ → Option ℕ
begun [] part now = Some now
begun (byte ∷ bytes) part now = part

-- more came
abbrev pub with_more : ConnectionData → List ℕ → ℕ → ConnectionData
with_more c bytes now = record c {
  incoming = c.incoming ++ bytes;
  part = begun c.incoming c.part now;
}

-- since when a part is here, where these bytes stand behind a message that was given
abbrev pub part_since : List ℕ → ℕ → Option ℕ
part_since [] now = None
part_since (byte ∷ bytes) now = Some now

-- a message was given
pub record GivesMessage (before after : ConnectionData) (message : List ℕ) (now : ℕ) : Type 0 where
  pub first : before.incoming ≡ framed message ++ after.incoming
  pub waiting : after.waiting ≡ before.waiting
  pub active : after.active ≡ now
  pub part : after.part ≡ part_since after.incoming now

-- a look for a message, by its answer: the first of what came and no byte more; none is whole; or
-- there is no memory for it
abbrev pub GivesNext : ConnectionData → ConnectionData → List ℕ → ℕ → Next → Type 0
GivesNext before after message now next.Message = GivesMessage before after message now
GivesNext before after message now next.Part = (after ≡ before) × IsPart before.incoming
GivesNext before after message now next.NoMemory = after ≡ before

-- what came begins with a whole message, or not
abbrev pub HasMessage : ConnectionData → Bool → Type 0
HasMessage c true = (message : List ℕ) × (rest : List ℕ) × (c.incoming ≡ framed message ++ rest)
HasMessage c false = IsPart c.incoming

-- a reply, by its answer: it waits behind the others and no more bytes wait than may; it would have
-- been more; or there is no memory for it
abbrev pub TakesReply : ConnectionData → ConnectionData → List ℕ → ℕ → Replied → Type 0
TakesReply before after bytes most replied.Waits =
    (after ≡ record before { waiting = before.waiting ++ framed bytes })
    × (length after.waiting ≤ most)
TakesReply before after bytes most replied.Refused =
    (after ≡ before) × (most < length before.waiting + (length bytes + 2))
TakesReply before after bytes most replied.NoMemory = after ≡ before

-- so many bytes went out
abbrev pub without : ConnectionData → ℕ → ConnectionData
without c count = record c { waiting = drop count c.waiting }

-- a part is here for too long
abbrev pub is_stale : Bounds → Option ℕ → ℕ → Bool
is_stale bounds None now = false
is_stale bounds (Some since) now = is_past since bounds.part now

-- it is to be closed, where so many are open
abbrev pub is_late : ConnectionData → Bounds → ℕ → ℕ → Bool
is_late c bounds count now =
    is_past c.active (idle_for bounds count) now || is_stale bounds c.part now
