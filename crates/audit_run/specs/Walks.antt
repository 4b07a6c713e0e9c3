-- A side's journal as a walk from turn to turn. This server's own rule.
use Rattle.std.specs.Prelude.{◌≡◌, ◌≤◌, ◌<◌, ◌⊎◌, ℕ, ◌+◌, ◌-◌, Bool, List, [], ◌∷◌, ◌++◌, length}
use Rattle.dns_data.specs.declared.limit.TheConstants as limits
use Rattle.outside.specs.declared.datagram.Datagram.{Datagram}
use Rattle.outside.specs.declared.mark.Mark.{Mark}
use Rattle.outside.specs.declared.mark.Mark.TheVariants.{RecvEnd, Sent, Unpinned}
use Rattle.chain_meaning.specs.declared.served.Served.{Served}
use Rattle.chain_meaning.specs.declared.served.Served.TheVariants.{Reply, Silent, NoMemory}
use Rattle.chain_meaning.specs.declared.served.Silence.{Silence}
use Rattle.run_meaning.specs.declared.work_end.WorkEnd.{WorkEnd}
use Rattle.run_meaning.specs.declared.work_end.WorkEnd.TheVariants as ends
use Rattle.run_meaning.specs.Turn.{Turn, failed, unread, replied, silenced, starved, marks_of}
use Rattle.audit_run.specs.declared.walk.Walk.{Walk}
use Rattle.audit_run.specs.declared.turn_meaning.TurnMeans.{TurnMeans}
use Rattle.audit_run.specs.declared.turn_meaning.TurnMeans.TheVariants as means

-- what a datagram may come to under the generation of a serial, by the marks that serving it took
abbrev pub Meanings : Type 1
Meanings = ℕ → Datagram → List Mark → Served → Type 0

-- the walk behind a turn
abbrev pub after : Walk → Turn → Walk
after w failed = record { taken = w.taken; row = w.row + 1; last = w.last }
after w unread = w
after w (replied serial d marks reply out) =
    record { taken = w.taken + 1; row = 0; last = serial }
after w (silenced serial d marks why) = record { taken = w.taken + 1; row = 0; last = serial }
after w (starved serial d marks) = record { taken = w.taken + 1; row = 0; last = serial }

-- so many receives in a row may give no datagram
abbrev pub row_limit : WorkEnd → ℕ
row_limit ends.RecvFailed = limits.FAILURES
row_limit end = limits.FAILURES - 1

module _ (serves : Meanings) (most : ℕ) (end : WorkEnd) where
  -- a turn may follow: it did what its datagram means, under a serial that isn't below the last
  abbrev pub IsTurn : Walk → Turn → Type 0
  IsTurn w failed = w.row < row_limit end
  IsTurn w unread = ⊥
  IsTurn w (replied serial d marks reply out) =
      (w.last ≤ serial) × serves serial d marks (Reply reply)
  IsTurn w (silenced serial d marks why) =
      (w.last ≤ serial) × serves serial d marks (Silent why)
  IsTurn w (starved serial d marks) = (w.last ≤ serial) × serves serial d marks NoMemory

  -- and none behind the last datagram, or behind as many failing receives as end a worker
  pub record IsStep (w : Walk) (turn : Turn) : Type 0 where
    pub more : w.taken < most
    pub few : w.row < limits.FAILURES
    pub is : IsTurn w turn

  -- the worker ended there
  abbrev pub Finishes : WorkEnd → Walk → List Mark → Type 0
  Finishes ends.End w marks =
      (w.row < limits.FAILURES)
      × (((marks ≡ RecvEnd ∷ []) × (w.taken < most)) ⊎ ((marks ≡ []) × (w.taken ≡ most)))
  Finishes ends.RecvFailed w marks = (w.row ≡ limits.FAILURES) × (marks ≡ [])
  Finishes ends.NoMemory w marks =
      (w.row < limits.FAILURES) × (w.taken < most) × (marks ≡ [])

  -- these are the marks of the turns that follow, and of the end
  abbrev pub Runs : Walk → List Turn → List Mark → Type 0
  Runs w [] marks = Finishes end w marks
  Runs w (turn ∷ turns) marks =
      IsStep w turn × (more : List Mark) × (marks ≡ marks_of turn ++ more)
      × Runs (after w turn) turns more

  -- a worker may go on so and end
  abbrev pub MayEnd : Walk → List Mark → Type 0
  MayEnd w marks = (turns : List Turn) × Runs w turns marks

  -- a worker may go on from there, and end
  abbrev pub GoesSomehow : Walk → Type 0
  GoesSomehow w = (other : List Mark) × MayEnd w other

  -- so many marks are those of a turn, and what follows may end the run exactly where it may
  -- behind that, as something may
  pub record GoesOn (w : Walk) (marks : List Mark) (v : Walk) (more : List Mark) : Type 0 where
    pub front : List Mark
    pub is : marks ≡ front ++ more
    pub some : 0 < length front
    pub on : (other : List Mark) → MayEnd v other → MayEnd w (front ++ other)
    pub back : (other : List Mark) → MayEnd w (front ++ other) → MayEnd v other
    pub goes : GoesSomehow v

  -- the mark with this number may not stand there, whatever stands behind it, while with another
  -- in its place a worker may go on and end
  pub record IsBad (w : Walk) (marks : List Mark) (at : ℕ) : Type 0 where
    pub front : List Mark
    pub bad : Mark
    pub rest : List Mark
    pub is : marks ≡ front ++ bad ∷ rest
    pub number : length front ≡ at
    pub never : (other : List Mark) → MayEnd w (front ++ bad ∷ other) → ⊥
    pub other : List Mark
    pub may : MayEnd w (front ++ other)

  -- or the marks end too early: with more of them a worker may end
  pub record EndsEarly (w : Walk) (marks : List Mark) (at : ℕ) : Type 0 where
    pub number : length marks ≡ at
    pub never : MayEnd w marks → ⊥
    pub more : List Mark
    pub may : MayEnd w (marks ++ more)

  -- the first mark with which no worker goes on, or the number of the marks where they end too
  -- early
  abbrev pub FailsAt : Walk → List Mark → ℕ → Type 0
  FailsAt w marks at = IsBad w marks at ⊎ EndsEarly w marks at

-- the marks of a turn behind those that serving took, and what follows
abbrev pub TurnEnds : Served → ℕ → List Mark → List Mark → Type 0
TurnEnds (Reply reply) serial marks more =
    (out : Bool) × (marks ≡ Sent reply out ∷ Unpinned serial ∷ more)
TurnEnds (Silent why) serial marks more = marks ≡ Unpinned serial ∷ more
TurnEnds NoMemory serial marks more = marks ≡ Unpinned serial ∷ more

-- the mark with this number may not stand there, whatever follows, while with another in its place
-- the marks mean something
pub record IsOffAt (serves : List Mark → Served → Type 0) (marks : List Mark) (at : ℕ) : Type 0
  where
    pub front : List Mark
    pub bad : Mark
    pub rest : List Mark
    pub is : marks ≡ front ++ bad ∷ rest
    pub number : length front ≡ at
    pub never : (other : List Mark) (served : Served) → serves (front ++ bad ∷ other) served → ⊥
    pub other : List Mark
    pub served : Served
    pub may : serves (front ++ other) served

-- what a datagram means by its own marks: a reply, none, that they end too early, or that the one
-- with this number may not stand there, whatever follows
abbrev pub MeansSo : (List Mark → Served → Type 0) → List Mark → TurnMeans → Type 0
MeansSo serves marks (means.Replies reply) =
    serves marks (Reply reply) × serves marks NoMemory
    × ((why : Silence) → serves marks (Silent why) → ⊥)
    × ((other : List ℕ) → serves marks (Reply other) → other ≡ reply)
MeansSo serves marks means.Silence =
    (why : Silence) × serves marks (Silent why)
    × ((other : List ℕ) → serves marks (Reply other) → ⊥)
MeansSo serves marks means.Short =
    serves marks NoMemory × ((why : Silence) → serves marks (Silent why) → ⊥)
    × ((other : List ℕ) → serves marks (Reply other) → ⊥)
MeansSo serves marks (means.Off at) = IsOffAt serves marks at
