-- What a worker's journal tells of calls is just the calls of its turns.
use Rattle.std.proofs.Common.{◌≡◌, ◌⊎◌, ℕ, List, [], ◌∷◌, ◌++◌, refl, ap, ◌∙◌, append-nil, inl, inr}
use Rattle.std.specs.Prelude.{◌<◌}
use Rattle.std.specs.List.{flat_map}
use Rattle.std.proofs.lemmas.List.Elements.{filter-append}
use Rattle.outside.specs.declared.mark.Mark.{Mark}
use Rattle.outside.specs.declared.mark.Mark.TheVariants.{RecvEnd, Sent, Unpinned}
use Rattle.run_meaning.specs.declared.work_end.WorkEnd.{WorkEnd}
use Rattle.run_meaning.specs.declared.work_end.WorkEnd.TheVariants as ends
use Rattle.one_history.specs.Shared.{calls_in, is_call}
use Rattle.run_meaning.specs.Calls.{calls}
use Rattle.run_meaning.specs.Turn.{Turn, failed, unread, replied, silenced, starved, marks_of}
use Rattle.run_meaning.specs.Workers.{Ending, Worked, WorkerRun}

-- what is told of one turn
turn_tells : (turn : Turn) → calls_in (marks_of turn) ≡ calls turn
turn_tells failed = refl
turn_tells unread = refl
turn_tells (replied serial d marks reply out) =
    filter-append is_call marks (Sent reply out ∷ Unpinned serial ∷ [])
    ∙ append-nil (calls_in marks)
turn_tells (silenced serial d marks why) =
    filter-append is_call marks (Unpinned serial ∷ []) ∙ append-nil (calls_in marks)
turn_tells (starved serial d marks) =
    filter-append is_call marks (Unpinned serial ∷ []) ∙ append-nil (calls_in marks)

-- what a journal tells of calls is just the calls of its turns, one after another
pub turns_tell : (turns : List Turn) → calls_in (flat_map marks_of turns) ≡ flat_map calls turns
turns_tell [] = refl
turns_tell (turn ∷ turns) =
    filter-append is_call (marks_of turn) (flat_map marks_of turns)
    ∙ ap (λ front. front ++ calls_in (flat_map marks_of turns)) (turn_tells turn)
    ∙ ap (λ rest. calls turn ++ rest) (turns_tell turns)

-- no call is told behind the turns
ending_tells : (most : ℕ) (worked : Worked) (turns : List Turn) (end : WorkEnd) (marks : List Mark)
    → Ending most worked turns end marks → calls_in marks ≡ []
ending_tells most worked turns ends.End marks h = by h.1
  where
    by : ((marks ≡ RecvEnd ∷ []) × (worked.taken < most))
        ⊎ ((marks ≡ []) × (worked.taken ≡ most)) → calls_in marks ≡ []
    by (inl e) = ap calls_in e.0
    by (inr e) = ap calls_in e.0
ending_tells most worked turns ends.RecvFailed marks h = ap calls_in h.1
ending_tells most worked turns ends.NoMemory marks h = ap calls_in h.1

-- what a worker's journal tells of calls is just the calls of its turns
pub run_tells : {lawful : Turn → Type 0} {most : ℕ} {pinned : List ℕ} {worked : Worked}
    {journal : List Mark} → (run : WorkerRun lawful most pinned worked journal)
    → calls_in journal ≡ flat_map calls run.turns
run_tells {most} {worked} run =
    ap calls_in run.told
    ∙ filter-append is_call (flat_map marks_of run.turns) run.ending
    ∙ ap (λ rest. calls_in (flat_map marks_of run.turns) ++ rest)
    (ending_tells most worked run.turns worked.end run.ending run.ends)
    ∙ append-nil (calls_in (flat_map marks_of run.turns))
    ∙ turns_tell run.turns
