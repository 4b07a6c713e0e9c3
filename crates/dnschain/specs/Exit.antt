-- The number with which the program ends, by the status of its run. This server's own rule.
use Rattle.std.specs.Prelude.{ℕ}
use Rattle.dns_server.specs.declared.status.Status.{Status}
use Rattle.dns_server.specs.declared.status.Status.TheVariants as status

abbrev pub exit_number : Status → ℕ
exit_number status.Usage = 2
exit_number (status.ReadFailed name) = 3
exit_number status.OpenFailed = 3
exit_number status.TellFailed = 3
exit_number (status.Refused refusal) = 1
exit_number (status.StockShort name asked had) = 5
exit_number status.NoMemory = 4
exit_number status.WorkerFailed = 6
exit_number status.Ended = 0
