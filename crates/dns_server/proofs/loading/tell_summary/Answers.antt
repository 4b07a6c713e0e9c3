use Rattle.std.proofs.Common.{ℕ, List, subst}
use Rattle.load_maker.specs.{TellsAll}
use Rattle.dns_server.specs.Loading.{load_data}
use Rattle.dns_server.proofs.Loads.{sums_to}
use Rattle.dns_server.proofs.loading.tell_summary.Goals as goal

pub returns-in-Ok-clause-tells : goal.returns-in-Ok-clause-tells
returns-in-Ok-clause-tells g c =
    let to = TellsAll (g.H.Host.state c.args.host.now) (g.H.Host.state c.tell_lines.new.host) in
    sums_to (load_data c.args.load.now) c.in-Some.lines.items to c.in-Some.ensures (subst to c.deref.ensures.value c.in-Ok.ensures.tells)
