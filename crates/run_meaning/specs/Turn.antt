-- One turn of a worker, as a value, and the marks by which its side tells it. This server's own
-- rule.
use Rattle.std.specs.Prelude.{◌≡◌, ◌≤◌, ℕ, ◌+◌, Bool, List, [], ◌∷◌, ◌++◌, Some, slice_get}
use Rattle.outside.specs.declared.datagram.Datagram.{Datagram}
use Rattle.outside.specs.declared.mark.Mark.{Mark}
use Rattle.outside.specs.declared.mark.Mark.TheVariants.{Got, RecvFailed, Sent, Pinned, Unpinned}
use Rattle.corefile_blocks.specs.declared.bundle.Bundle.{Bundle}
use Rattle.chain_meaning.specs.declared.served.Served.TheVariants.{Reply, Silent, NoMemory}
use Rattle.chain_meaning.specs.declared.served.Silence.{Silence}
use Rattle.chain_meaning.specs.Serving.{Serves}
use Rattle.chain_meaning.specs.Grounds.{Terms}

-- a receive that failed; one that met want of memory; or a datagram, served by the generation with
-- this serial, with the marks that serving took, and the reply with whether it went out, or the
-- cause of silence, or want of memory
pub data Turn : Type 0 where
  failed : Turn
  unread : Turn
  replied : ℕ → Datagram → List Mark → List ℕ → Bool → Turn
  silenced : ℕ → Datagram → List Mark → Silence → Turn
  starved : ℕ → Datagram → List Mark → Turn

-- the marks of a turn. A receive that met want of memory has none.
abbrev pub marks_of : Turn → List Mark
marks_of failed = RecvFailed ∷ []
marks_of unread = []
marks_of (replied serial d marks reply out) =
    Got d ∷ Pinned serial ∷ (marks ++ Sent reply out ∷ Unpinned serial ∷ [])
marks_of (silenced serial d marks why) = Got d ∷ Pinned serial ∷ (marks ++ Unpinned serial ∷ [])
marks_of (starved serial d marks) = Got d ∷ Pinned serial ∷ (marks ++ Unpinned serial ∷ [])

-- the generation with this serial was published, and a fact of its bundle
pub record IsPublished (bundles : List Bundle) (serial : ℕ) (P : Bundle → Type 0) : Type 0 where
  pub bundle : Bundle
  pub at : slice_get bundles serial ≡ Some bundle
  pub is : P bundle

-- the turn did what the published bundle of its serial means
abbrev pub IsLawful : List Bundle → Terms → Turn → Type 0
IsLawful bundles terms failed = Unit {0}
IsLawful bundles terms unread = Unit {0}
IsLawful bundles terms (replied serial d marks reply out) =
    IsPublished bundles serial (λ bundle. Serves bundle terms d marks (Reply reply))
IsLawful bundles terms (silenced serial d marks why) =
    IsPublished bundles serial (λ bundle. Serves bundle terms d marks (Silent why))
IsLawful bundles terms (starved serial d marks) =
    IsPublished bundles serial (λ bundle. Serves bundle terms d marks NoMemory)

-- 1 for a turn that took a datagram, and so a pin
abbrev pub datagrams : Turn → ℕ
datagrams failed = 0
datagrams unread = 0
datagrams (replied serial d marks reply out) = 1
datagrams (silenced serial d marks why) = 1
datagrams (starved serial d marks) = 1

-- 1 for a turn that met want of memory, in its receive or behind it
abbrev pub starved_in : Turn → ℕ
starved_in failed = 0
starved_in unread = 1
starved_in (replied serial d marks reply out) = 0
starved_in (silenced serial d marks why) = 0
starved_in (starved serial d marks) = 1

-- the serial that a turn pinned, where it pinned one
abbrev pub serials : Turn → List ℕ
serials failed = []
serials unread = []
serials (replied serial d marks reply out) = serial ∷ []
serials (silenced serial d marks why) = serial ∷ []
serials (starved serial d marks) = serial ∷ []

-- the numbers never fall, from this one on
abbrev pub NeverFall : ℕ → List ℕ → Type 0
NeverFall from [] = Unit {0}
NeverFall from (number ∷ numbers) = (from ≤ number) × NeverFall number numbers

-- the sum of a count over turns
abbrev pub total : (Turn → ℕ) → List Turn → ℕ
total count [] = 0
total count (turn ∷ turns) = count turn + total count turns
