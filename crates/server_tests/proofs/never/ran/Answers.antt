use Rattle.std.proofs.Common.{refl, subst, sym}
use Rattle.server_tests.specs.Serving.{LoadsNothing}
use Rattle.server_tests.proofs.WithoutFaults.{no_open_fails, no_read_fails, no_worker_fails, reads, receive}
use Rattle.server_tests.proofs.never.ran.Goals as goal

pub returns-clause-receives : goal.returns-clause-receives
returns-clause-receives g c = no_worker_fails c.run_with.ensures.runs (subst LoadsNothing (sym c.deref.ensures.value) c.in_ok-words.ensures) (record { sides = receive c.run_with.result.sides.items; watch = reads c.run_with.result.watch; closed = refl; opens = refl; tells = refl })

pub returns-clause-reads : goal.returns-clause-reads
returns-clause-reads g c = no_read_fails c.run_with.ensures.runs (subst LoadsNothing (sym c.deref.ensures.value) c.in_ok-words.ensures) (record { sides = receive c.run_with.result.sides.items; watch = reads c.run_with.result.watch; closed = refl; opens = refl; tells = refl })

pub returns-clause-opens : goal.returns-clause-opens
returns-clause-opens g c = no_open_fails c.run_with.ensures.runs (subst LoadsNothing (sym c.deref.ensures.value) c.in_ok-words.ensures) (record { sides = receive c.run_with.result.sides.items; watch = reads c.run_with.result.watch; closed = refl; opens = refl; tells = refl })
