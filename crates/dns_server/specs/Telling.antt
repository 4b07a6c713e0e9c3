-- How a run's status is told, and what stands where its line could not be told. This server's own
-- rule.
use Rattle.std.specs.Prelude.{◌≡◌, ◌⊎◌, ℕ, List, [], ◌∷◌}
use Rattle.outside.specs.declared.datagram.Wrote.{Wrote}
use Rattle.outside.specs.declared.datagram.Wrote.TheVariants as wrote
use Rattle.corefile_words.specs.declared.word.Pair.{Pair}
use Rattle.outside.specs.Hosts.{HostState, TellsOneLine}
use Rattle.dns_server.specs.declared.status.Status.{Status}
use Rattle.dns_server.specs.declared.status.Status.TheVariants as status
use Rattle.dns_server.specs.Messages.{status_text}
use Rattle.dns_server.specs.Report.{RunData}
use Rattle.dns_server.specs.Stocking.{Program}
use Rattle.dns_server.specs.Words.{IsRunOf}

-- the status where its line could not be told: a cause that comes before serving stays
abbrev pub untold : Status → Status
untold status.Usage = status.Usage
untold (status.ReadFailed name) = status.ReadFailed name
untold status.OpenFailed = status.OpenFailed
untold status.TellFailed = status.TellFailed
untold (status.Refused why) = status.TellFailed
untold (status.StockShort name asked had) = status.TellFailed
untold status.NoMemory = status.TellFailed
untold status.WorkerFailed = status.TellFailed
untold status.Ended = status.TellFailed

abbrev pub after_tell : Wrote → Status → Status
after_tell wrote.Ok how = how
after_tell wrote.Failed how = untold how

-- one line was told for a status, and this status stands then
pub record IsTold (line : List ℕ) (how final : Status) (before after : HostState) : Type 0 where
  pub result : Wrote
  pub tells : TellsOneLine before after line result
  pub final_is : final ≡ after_tell result how

-- nothing was told, and the status stands
pub record IsSilent (how final : Status) (before after : HostState) : Type 0 where
  pub host : after ≡ before
  pub final_is : final ≡ how

-- a line is told for a status unless it is empty
abbrev pub TellsLine : List ℕ → Status → Status → HostState → HostState → Type 0
TellsLine [] how final before after = IsSilent how final before after
TellsLine (byte ∷ bytes) how final before after = IsTold (byte ∷ bytes) how final before after

-- the line of a status is told; where there was no memory for it, that of NoMemory
pub record TellsStatus (how final : Status) (before after : HostState) : Type 0 where
  pub named : Status
  pub either : (named ≡ how) ⊎ (named ≡ status.NoMemory)
  pub tells : TellsLine (status_text named) named final before after

-- a whole run: what it did by its words, and then the line of the status that it came to
pub record IsToldRun (program : Program) (words : List (List ℕ)) (env : List Pair) (run : RunData)
    (before after : HostState) : Type 0 where
  pub how : Status
  pub quiet : HostState
  pub runs : IsRunOf program words env (record run { status = how }) before quiet
  pub tells : TellsStatus how run.status quiet after
