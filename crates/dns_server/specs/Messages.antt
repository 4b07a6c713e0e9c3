-- The line of each status, as an operator sees it. This server's own rule.
use Rattle.std.specs.Prelude.{ℕ, List, [], ◌++◌, codes}
use Rattle.chain_meaning.specs.{refusal_text}
use Rattle.run_meaning.specs.{stock_text}
use Rattle.dns_server.specs.declared.status.Status.{Status}
use Rattle.dns_server.specs.declared.status.Status.TheVariants as status

-- the line of a status, without a line end. A run that ended has none, and where telling failed,
-- nothing further is told.
abbrev pub status_text : Status → List ℕ
status_text status.Usage =
    codes "usage: dnschain serve --conf FILE [--port N] [--workers N] [--queries N], or dnschain load N"
status_text (status.ReadFailed name) = codes "cannot read " ++ name
status_text status.OpenFailed = codes "cannot open"
status_text status.TellFailed = []
status_text (status.Refused why) = refusal_text why
status_text (status.StockShort name asked had) = stock_text name asked had
status_text status.NoMemory = codes "out of memory"
status_text status.WorkerFailed = codes "a worker could not receive"
status_text status.Ended = []
