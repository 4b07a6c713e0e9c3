-- What a walk along a side's journal answers. This server's own rule.
use Rattle.std.specs.Prelude.{◌≡◌, ◌≢◌, ◌≤◌, ◌<◌, ◌⊎◌, ℕ, ◌+◌, ◌==◌, ◌&&◌, nat_lt, Bool, true, List}
use Rattle.std.specs.Prelude.{[], ◌∷◌, ◌++◌, length}
use Rattle.std.specs.Prelude.{Option, Some, None, Result, Ok, Err}
use Rattle.dns_data.specs.declared.limit.TheConstants as limits
use Rattle.outside.specs.declared.datagram.Datagram.{Datagram}
use Rattle.outside.specs.declared.mark.Mark.{Mark}
use Rattle.outside.specs.declared.mark.Mark.TheVariants.{Got, Pinned, Unpinned}
use Rattle.chain_meaning.specs.declared.served.Served.{Served}
use Rattle.chain_meaning.specs.declared.served.Served.TheVariants.{Reply, NoMemory}
use Rattle.run_meaning.specs.declared.work_end.WorkEnd.{WorkEnd}
use Rattle.run_meaning.specs.declared.work_end.WorkEnd.TheVariants as ends
use Rattle.audit_run.specs.declared.turn_meaning.TurnMeans.{TurnMeans}
use Rattle.audit_run.specs.declared.turn_meaning.TurnMeans.TheVariants as means
use Rattle.audit_run.specs.declared.walk.Walk.{Walk}
use Rattle.audit_run.specs.declared.walk.SideFault.{SideFault}
use Rattle.audit_run.specs.declared.walk.SideFault.TheVariants as fault
use Rattle.audit_run.specs.declared.walk.Step.{Step}
use Rattle.audit_run.specs.declared.walk.Step.TheVariants as step
use Rattle.audit_run.specs.declared.walk.Stepped.{Stepped}
use Rattle.audit_run.specs.declared.walk.Stepped.TheVariants as stepped
use Rattle.audit_run.specs.declared.walk.Tail.{Tail}
use Rattle.audit_run.specs.declared.walk.Tail.TheVariants as tail
use Rattle.audit_run.specs.Walks.{FailsAt, GoesOn, GoesSomehow, IsOffAt, Meanings, MayEnd, TurnEnds}

-- the marks behind those that serving took, and what follows: of a turn that may have this reply,
-- or none
abbrev pub TurnTail : Option (List ℕ) → ℕ → List Mark → List Mark → Type 0
TurnTail (Some reply) serial marks more =
    TurnEnds (Reply reply) serial marks more ⊎ TurnEnds NoMemory serial marks more
TurnTail None serial marks more = TurnEnds NoMemory serial marks more

-- the mark with this number may not stand there, while with others in its place the turn may end
-- so, whatever follows
pub record TailIsBad (reply : Option (List ℕ)) (serial : ℕ) (marks : List Mark) (at : ℕ) : Type 0
  where
    pub front : List Mark
    pub bad : Mark
    pub rest : List Mark
    pub is : marks ≡ front ++ bad ∷ rest
    pub number : length front ≡ at
    pub never : (other more : List Mark) → TurnTail reply serial (front ++ bad ∷ other) more → ⊥
    pub other : List Mark
    pub may : (more : List Mark) → TurnTail reply serial (front ++ (other ++ more)) more

-- or they end too early: with others behind them the turn may end so
pub record TailEndsEarly (reply : Option (List ℕ)) (serial : ℕ) (marks : List Mark) (at : ℕ)
    : Type 0 where
  pub number : length marks ≡ at
  pub never : (more : List Mark) → TurnTail reply serial marks more → ⊥
  pub other : List Mark
  pub may : (more : List Mark) → TurnTail reply serial (marks ++ (other ++ more)) more

-- how a turn ends
abbrev pub EndsTurn : Option (List ℕ) → ℕ → List Mark → Tail → Type 0
EndsTurn reply serial marks (tail.Ends more) = TurnTail reply serial marks more.now
EndsTurn reply serial marks (tail.Fails at) =
    TailIsBad reply serial marks at ⊎ TailEndsEarly reply serial marks at

-- and behind the mark of its reply
abbrev pub EndsSent : ℕ → List Mark → Tail → Type 0
EndsSent serial marks (tail.Ends more) = marks ≡ Unpinned serial ∷ more.now
EndsSent serial marks (tail.Fails at) =
    (at ≡ 1) × ((bad : Mark) (rest : List Mark) → marks ≡ bad ∷ rest → bad ≢ Unpinned serial)

-- the walk in the beginning
abbrev pub start : Walk
start = record { taken = 0; row = 0; last = 0 }

-- the walk behind a turn that took a datagram under this serial
abbrev pub behind_datagram : Walk → ℕ → Walk
behind_datagram w serial = record { taken = w.taken + 1; row = 0; last = serial }

-- the mark of the side's end ends a journal, where the worker ended so and nothing stands behind it
abbrev pub EndsSo : WorkEnd → List Mark → Stepped → Type 0
EndsSo end behind (stepped.Goes more) = ⊥
EndsSo end behind stepped.Ends = (end ≡ ends.End) × (behind ≡ [])
EndsSo end behind (stepped.Fails at) =
    ((at ≡ 0) × (end ≢ ends.End))
    ⊎ ((at ≡ 1) × (end ≡ ends.End) × ((behind ≡ []) → ⊥))

-- whether a worker that ended so ended behind its last mark
abbrev pub has_ended : ℕ → WorkEnd → Walk → Bool
has_ended most ends.End w = nat_lt w.row limits.FAILURES && w.taken == most
has_ended most ends.RecvFailed w = w.row == limits.FAILURES
has_ended most ends.NoMemory w = nat_lt w.row limits.FAILURES && nat_lt w.taken most

-- whether a worker that ends so may take a datagram there: behind the last one stands nothing, or
-- its side's end
abbrev pub may_take : ℕ → WorkEnd → Walk → Bool
may_take most ends.End w = nat_lt w.taken most
may_take most ends.RecvFailed w = nat_lt (w.taken + 1) most
may_take most ends.NoMemory w = nat_lt (w.taken + 1) most

-- whether one may end so at all
abbrev pub may_begin : ℕ → WorkEnd → Bool
may_begin most ends.End = true
may_begin most ends.RecvFailed = nat_lt 0 most
may_begin most ends.NoMemory = nat_lt 0 most

-- a datagram may come there and be served under this serial, and something may follow it
pub record MayTake (most : ℕ) (end : WorkEnd) (w : Walk) (serial : ℕ) : Type 0 where
  pub more : w.taken < most
  pub few : w.row < limits.FAILURES
  pub low : w.last ≤ serial
  pub behind : may_take most end w ≡ true

module _ (serves : Meanings) (most : ℕ) (end : WorkEnd) where
  -- what a step came to
  abbrev pub StepsSo : Walk → List Mark → Walk → Stepped → Type 0
  StepsSo w marks v (stepped.Goes more) = GoesOn serves most end w marks v more.now
  StepsSo w marks v (stepped.Fails at) = FailsAt serves most end w marks at
  StepsSo w marks v stepped.Ends = MayEnd serves most end w marks

  -- the walk came so far: what is left may end the journal exactly where it may behind this, and
  -- something may
  pub record IsAt (marks : List Mark) (w : Walk) (rest : List Mark) : Type 0 where
    pub front : List Mark
    pub is : marks ≡ front ++ rest
    pub on : (other : List Mark) → MayEnd serves most end w other
        → MayEnd serves most end start (front ++ other)
    pub back : (other : List Mark) → MayEnd serves most end start (front ++ other)
        → MayEnd serves most end w other
    pub goes : GoesSomehow serves most end w

  -- what a turn came to that took this datagram, by the marks behind it
  abbrev pub TurnsSo : Walk → Datagram → List Mark → Step → Type 0
  TurnsSo w d marks (step.Goes serial more) =
      GoesOn serves most end w (Got d ∷ marks) (behind_datagram w serial) more.now
  TurnsSo w d marks (step.Fails at) = FailsAt serves most end w (Got d ∷ marks) at

  -- no worker ends so, whatever its journal
  pub record NoneEnds (at : ℕ) : Type 0 where
    pub first : at ≡ 0
    pub never : (other : List Mark) → MayEnd serves most end start other → ⊥

  -- what a journal comes to
  abbrev pub JudgesSide : List Mark → Result (Unit {0}) SideFault → Type 0
  JudgesSide marks (Ok done) = MayEnd serves most end start marks
  JudgesSide marks (Err (fault.Mark at)) =
      FailsAt serves most end start marks at ⊎ NoneEnds at
  JudgesSide marks (Err fault.NoMemory) = Unit {0}

  -- no other place of it is one at which it fails
  abbrev pub TellsPlace : List Mark → Result (Unit {0}) SideFault → Type 0
  TellsPlace marks (Err (fault.Mark at)) =
      (other : ℕ) → FailsAt serves most end start marks other → other ≡ at
  TellsPlace marks result = Unit {0}

-- what a turn may reply, by what its datagram means: it ends as one that may have this reply, or
-- none, exactly where one of its meanings ends so
pub record HasReply (serves : List Mark → Served → Type 0) (marks : List Mark) (serial : ℕ)
    (reply : Option (List ℕ)) : Type 0 where
  pub all : (served : Served) (tail more : List Mark) → serves marks served
      → TurnEnds served serial tail more → TurnTail reply serial tail more
  pub one : (tail more : List Mark) → TurnTail reply serial tail more
      → (served : Served) × serves marks served × TurnEnds served serial tail more

-- or a mark may not stand there
abbrev pub HasReplyOr : (List Mark → Served → Type 0) → List Mark → ℕ
    → Result (Option (List ℕ)) ℕ → Type 0
HasReplyOr serves marks serial (Ok reply) = HasReply serves marks serial reply
HasReplyOr serves marks serial (Err at) = IsOffAt serves marks at

abbrev pub reply_in : TurnMeans → Result (Option (List ℕ)) ℕ
reply_in (means.Replies reply) = Ok (Some reply)
reply_in means.Silence = Ok None
reply_in means.Short = Ok None
reply_in (means.Off at) = Err at

-- a step behind a pin: so far, what every walk makes of it
abbrev pub PinsSo : Meanings → ℕ → Datagram → List Mark → Step → Type 0
PinsSo serves pin d marks (step.Goes serial more) =
    (serial ≡ pin) × ((most : ℕ) (end : WorkEnd) (w : Walk) → MayTake most end w pin
    → GoesOn serves most end w (Got d ∷ Pinned pin ∷ marks) (behind_datagram w pin) more.now)
PinsSo serves pin d marks (step.Fails at) = (most : ℕ) (end : WorkEnd) (w : Walk)
    → MayTake most end w pin → FailsAt serves most end w (Got d ∷ Pinned pin ∷ marks) at
