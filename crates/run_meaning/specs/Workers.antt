-- A worker's run: its turns, and how it ends. This server's own rule.
use Rattle.std.specs.Prelude.{◌≡◌, ◌≤◌, ◌<◌, ◌⊎◌, ℕ, ◌+◌, List, [], ◌∷◌, ◌++◌, reverse}
use Rattle.std.specs.List.{flat_map, AllByRecursion}
use Rattle.dns_data.specs.declared.limit.TheConstants as limits
use Rattle.outside.specs.declared.mark.Mark.{Mark}
use Rattle.outside.specs.declared.mark.Mark.TheVariants.{RecvEnd}
use Rattle.run_meaning.specs.declared.work_end.WorkEnd.{WorkEnd}
use Rattle.run_meaning.specs.declared.work_end.WorkEnd.TheVariants as ends
use Rattle.run_meaning.specs.Turn.{NeverFall, Turn, datagrams, failed, marks_of, serials}
use Rattle.run_meaning.specs.Turn.{starved_in, total, unread}

-- how a worker ended: how many datagrams it took, each under a pin of its own, the last serial that
-- it has seen, and in how many turns it met want of memory
pub record Worked : Type 0 where
  pub taken : ℕ
  pub seen : ℕ
  pub starved : ℕ
  pub end : WorkEnd

-- how many receives in a row gave no datagram at the end of these turns, behind a row of so many
abbrev pub last_row : ℕ → List Turn → ℕ
last_row row [] = row
last_row row (failed ∷ turns) = last_row (row + 1) turns
last_row row (unread ∷ turns) = last_row (row + 1) turns
last_row row (turn ∷ turns) = last_row 0 turns

-- how many receives of that row met want of memory, behind a row with so many
abbrev pub last_unread : ℕ → List Turn → ℕ
last_unread met [] = met
last_unread met (failed ∷ turns) = last_unread met turns
last_unread met (unread ∷ turns) = last_unread (met + 1) turns
last_unread met (turn ∷ turns) = last_unread 0 turns

-- no `FAILURES` receives in a row gave no datagram, behind a row of so many
abbrev pub HasNoLongRow : ℕ → List Turn → Type 0
HasNoLongRow row [] = Unit {0}
HasNoLongRow row (failed ∷ turns) = (row + 1 < limits.FAILURES) × HasNoLongRow (row + 1) turns
HasNoLongRow row (unread ∷ turns) = (row + 1 < limits.FAILURES) × HasNoLongRow (row + 1) turns
HasNoLongRow row (turn ∷ turns) = HasNoLongRow 0 turns

-- turns that are lawful so: the serials never fall, just so many took a datagram, and just so many
-- met want of memory
pub record AreTurns (lawful : Turn → Type 0) (taken starving : ℕ) (turns : List Turn)
    : Type 0 where
  pub lawful_are : AllByRecursion lawful turns
  pub in_order : NeverFall 0 (flat_map serials turns)
  pub datagrams_are : total datagrams turns ≡ taken
  pub starved_are : total starved_in turns ≡ starving

-- no receive came behind the `most`-th datagram, where so many were taken before
abbrev pub NoneBehind : ℕ → ℕ → List Turn → Type 0
NoneBehind most taken [] = Unit {0}
NoneBehind most taken (turn ∷ turns) =
    (taken < most) × NoneBehind most (taken + datagrams turn) turns

-- `FAILURES` receives in a row gave no datagram, the last of them at the end and no such row
-- before, and a fact of how many of these met want of memory
pub record EndsInLongRow (P : ℕ → Type 0) (turns : List Turn) : Type 0 where
  pub before : List Turn
  pub last : Turn
  pub turns_are : turns ≡ before ++ last ∷ []
  pub first : HasNoLongRow 0 before
  pub row : last_row 0 turns ≡ limits.FAILURES
  pub met : P (last_unread 0 turns)

-- how a worker ended: what its journal has behind the turns, and how the turns end. The side's end
-- is a receive too.
abbrev pub Ending : ℕ → Worked → List Turn → WorkEnd → List Mark → Type 0
Ending most worked turns ends.End marks =
    HasNoLongRow 0 turns
    × (((marks ≡ RecvEnd ∷ []) × (worked.taken < most)) ⊎ ((marks ≡ []) × (worked.taken ≡ most)))
Ending most worked turns ends.RecvFailed marks =
    EndsInLongRow (λ met. met ≡ 0) turns × (marks ≡ [])
Ending most worked turns ends.NoMemory marks =
    EndsInLongRow (λ met. 0 < met) turns × (marks ≡ [])

-- the journal is that of a worker which took so many datagrams, at most as many as it was told, and
-- received no more behind these; by lawful turns, under pins of just these serials, the last one
-- first; saw no serial above this one, met want of memory just so often, and ended so
pub record WorkerRun (lawful : Turn → Type 0) (most : ℕ) (pinned : List ℕ) (worked : Worked)
    (journal : List Mark) : Type 0 where
  pub turns : List Turn
  pub ending : List Mark
  pub told : journal ≡ flat_map marks_of turns ++ ending
  pub are : AreTurns lawful worked.taken worked.starved turns
  pub at_most : worked.taken ≤ most
  pub none_behind : NoneBehind most 0 turns
  pub pinned_are : flat_map serials turns ≡ reverse pinned
  pub seen_all : AllByRecursion (λ serial. serial ≤ worked.seen) (flat_map serials turns)
  pub ends : Ending most worked turns worked.end ending
