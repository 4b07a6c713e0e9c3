use Rattle.std.proofs.Common.{refl, ap}
use Rattle.outside.specs.Journals.{rose_failed}
use Rattle.dns_server.specs.declared.status.Status.TheVariants as status
use Rattle.dns_server.specs.Report.{RunData}
use Rattle.dns_server.specs.Stocking.{data_weighs}
use Rattle.dns_server.proofs.Openings.{not_opened, opened_before}
use Rattle.dns_server.proofs.running.run_opened.Goals as goal

pub returns-in-Ok-clause-runs : goal.returns-in-Ok-clause-runs
returns-in-Ok-clause-runs g c = opened_before (g.H.Watch.PatternMaker.state c.in-Ok.watch) c.in-Ok.ensures c.run_command.ensures.runs

pub returns-in-Err-Failed-clause-runs : goal.returns-in-Err-Failed-clause-runs
returns-in-Err-Failed-clause-runs g c =
    let failed = rw c.in-Err-Failed.field-0-is at c.in-Err-Failed.ensures in
    rw c.stopped.ensures (not_opened status.OpenFailed failed.told failed.supply (refl, rose_failed failed))

pub returns-in-Err-Failed-clause-extras : goal.returns-in-Err-Failed-clause-extras
returns-in-Err-Failed-clause-extras g c = λ w. ap (λ (d : RunData). data_weighs w d.stock) c.stopped.ensures

pub returns-in-Err-NoMemory-clause-runs : goal.returns-in-Err-NoMemory-clause-runs
returns-in-Err-NoMemory-clause-runs g c =
    let starved = rw c.in-Err-NoMemory.field-0-is at c.in-Err-NoMemory.ensures in
    rw c.stopped-in-Err-NoMemory.ensures (not_opened status.NoMemory starved.told starved.supply tt)

pub returns-in-Err-NoMemory-clause-extras : goal.returns-in-Err-NoMemory-clause-extras
returns-in-Err-NoMemory-clause-extras g c = λ w. ap (λ (d : RunData). data_weighs w d.stock) c.stopped-in-Err-NoMemory.ensures
