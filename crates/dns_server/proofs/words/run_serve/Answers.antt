use Rattle.std.proofs.Common.{ℕ, List, refl, sym, subst, ◌∙◌}
use Rattle.extra_stock.specs.{is_named}
use Rattle.outside.specs.Journals.{host-adds-nothing}
use Rattle.chain_meaning.specs.{ground_at}
use Rattle.reload_watch.specs.{footing_on}
use Rattle.dns_server.specs.declared.status.Status.TheVariants as status
use Rattle.dns_server.specs.Report.{RunsCommand, run_data}
use Rattle.dns_server.proofs.Openings.{not_opened}
use Rattle.dns_server.proofs.Stocked.{data_is, names_map}
use Rattle.dns_server.proofs.words.run_serve.Goals as goal

pub returns-in_default-clause-runs : goal.returns-in_default-clause-runs
returns-in_default-clause-runs g c = rw c.stopped.ensures (not_opened status.NoMemory (host-adds-nothing (g.H.Host.state c.args.host.now)) refl tt)

pub returns-in-Err-clause-runs : goal.returns-in-Err-clause-runs
returns-in-Err-clause-runs g c = rw c.stopped-in-Err.ensures (not_opened status.NoMemory (host-adds-nothing (g.H.Host.state c.args.host.now)) refl tt)

pub returns-clause-runs : goal.returns-clause-runs
returns-clause-runs g c =
    let s = c.args.serve in
    subst (λ (x : List ℕ × List (List ℕ)). RunsCommand (record { source = record { conf = x.0; env = c.args.env.now }; footing = footing_on g.B.Rulebook.taken g.B.Rulebook.said (ground_at s.port x.1); workers = s.workers; most = s.most })
    (run_data g.H.Side.Side.state g.H.Watch.PatternMaker.state g.E.Extra.title c.run_opened.result) (g.H.Host.state c.args.host.now) (g.H.Host.state c.run_opened.new.host))
    (λ i. (c.in-Ok.ensures i, c.in-Ok-sorted.ensures.parts.judges_are i))
    c.run_opened.ensures.runs

pub returns-clause-extras : goal.returns-clause-extras
returns-clause-extras g c = λ name.
    let title = g.E.Extra.title in
    let w = is_named name in
    c.run_opened.ensures.extras w
    ∙ (data_is title w c.in-Ok-sorted.stock ∙ (c.in-Ok-sorted.ensures.parts.weigh w ∙ sym (names_map title w c.args.extras.items)))
