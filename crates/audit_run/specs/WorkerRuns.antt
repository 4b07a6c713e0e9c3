-- Whether a side's journal is that of a worker. This server's own rule.
use Rattle.std.specs.Prelude.{◌≡◌, ℕ, List, Result, Ok, Err}
use Rattle.outside.specs.declared.mark.Mark.{Mark}
use Rattle.chain_meaning.specs.declared.served.Served.TheVariants.{Reply, Silent, NoMemory}
use Rattle.run_meaning.specs.declared.work_end.WorkEnd.{WorkEnd}
use Rattle.run_meaning.specs.Turn.{Turn, failed, unread, replied, silenced, starved}
use Rattle.run_meaning.specs.{Worked, WorkerRun}
use Rattle.audit_run.specs.declared.walk.SideFault.{SideFault}
use Rattle.audit_run.specs.declared.walk.SideFault.TheVariants as fault
use Rattle.audit_run.specs.Walks.{Meanings}

-- the turn did what its datagram means
abbrev pub lawful_by : Meanings → Turn → Type 0
lawful_by serves failed = Unit {0}
lawful_by serves unread = Unit {0}
lawful_by serves (replied serial d marks reply out) = serves serial d marks (Reply reply)
lawful_by serves (silenced serial d marks why) = serves serial d marks (Silent why)
lawful_by serves (starved serial d marks) = serves serial d marks NoMemory

-- it is that of a worker which ended so
pub record IsWorkers (serves : Meanings) (most : ℕ) (end : WorkEnd) (journal : List Mark) : Type 0
  where
    pub pinned : List ℕ
    pub worked : Worked
    pub end_is : worked.end ≡ end
    pub run : WorkerRun (lawful_by serves) most pinned worked journal

-- what a judgement tells
abbrev pub TellsWorker : Meanings → ℕ → WorkEnd → List Mark → Result (Unit {0}) SideFault → Type 0
TellsWorker serves most end journal (Ok done) = IsWorkers serves most end journal
TellsWorker serves most end journal (Err (fault.Mark at)) =
    IsWorkers serves most end journal → ⊥
TellsWorker serves most end journal (Err fault.NoMemory) = Unit {0}
