use Rattle.std.proofs.Common.{ℕ, List, map, refl, sym, ap, arith, subst, ◌∙◌, option_map}
use Rattle.extra_stock.specs.{is_named}
use Rattle.outside.specs.Hosts.{HostState}
use Rattle.outside_mem.specs.{side_state, watch_state}
use Rattle.load_maker.specs.{load_state}
use Rattle.dns_server.specs.Loading.{load_data, memory_setup}
use Rattle.dns_server.specs.Report.{RunData, RunsCommand, run_data}
use Rattle.dns_server.specs.Stocking.{StockData, brings, data_weighs, stock_data}
use Rattle.dns_server.proofs.LoadSides.{all_memory, memory_watch}
use Rattle.dns_server.proofs.Loads.{load_ran, load_starves, told_stock}
use Rattle.dns_server.proofs.Stocked.{data_is, names_map}
use Rattle.dns_server.proofs.loading.run_load.Goals as goal

pub returns-in-Err-clause-loads : goal.returns-in-Err-clause-loads
returns-in-Err-clause-loads g c =
    load_starves (brings g.B.Rulebook.taken g.B.Rulebook.said (map g.E.Extra.title c.args.extras.items)) c.args.count (run_data g.H.Side.Side.state g.H.Watch.PatternMaker.state g.E.Extra.title c.stopped-ran.result) _ (g.H.Host.state c.args.host.now) c.stopped-ran.ensures

pub returns-in_default-clause-loads : goal.returns-in_default-clause-loads
returns-in_default-clause-loads g c =
    load_starves (brings g.B.Rulebook.taken g.B.Rulebook.said (map g.E.Extra.title c.args.extras.items)) c.args.count (run_data g.H.Side.Side.state g.H.Watch.PatternMaker.state g.E.Extra.title c.stopped.result) _ (g.H.Host.state c.args.host.now) c.stopped.ensures

pub returns-in_default-clause-extras : goal.returns-in_default-clause-extras
returns-in_default-clause-extras g c = λ name.
    let title = g.E.Extra.title in
    let w = is_named name in
    ap (λ (d : RunData). data_weighs w d.stock) c.stopped.ensures
    ∙ (data_is title w c.in-Ok.stock ∙ (c.in-Ok.ensures.parts.weigh w ∙ sym (names_map title w c.args.extras.items)))

pub returns-clause-loads : goal.returns-clause-loads
returns-clause-loads g c =
    let title = g.E.Extra.title in
    let inner = run_data side_state watch_state title c.run_memory-ran.result in
    load_ran (brings g.B.Rulebook.taken g.B.Rulebook.said (map title c.args.extras.items)) c.args.count c.in-Ok-loaded.load inner
    (run_data g.H.Side.Side.state g.H.Watch.PatternMaker.state title c.tell_load.result.0) (option_map load_data c.tell_load.result.1) c.in-Ok-loaded.ensures.load refl
    (record {
      left = load_state c.run_memory-ran.new.memory;
      runs = subst (λ (x : List ℕ × List (List ℕ) × HostState). RunsCommand (memory_setup g.B.Rulebook.taken g.B.Rulebook.said x.1 x.0) inner x.2 (load_state c.run_memory-ran.new.memory))
          (λ i. (c.in-Ok-loaded.ensures.conf i, c.in-Ok.ensures.parts.judges_are i, c.in-Ok-loaded.ensures.host i)) c.run_memory-ran.ensures.runs;
    })
    (all_memory c.run_memory-ran.result.sides.items) (memory_watch c.run_memory-ran.result.watch) (omega arith) c.tell_load.ensures.tells

pub returns-clause-extras : goal.returns-clause-extras
returns-clause-extras g c = λ name.
    let title = g.E.Extra.title in
    let w = is_named name in
    let inner = run_data side_state watch_state title c.run_memory-ran.result in
    ap (λ (d : StockData). data_weighs w d) (told_stock _ inner (run_data g.H.Side.Side.state g.H.Watch.PatternMaker.state title c.tell_load.result.0) (option_map load_data c.tell_load.result.1) _ _ c.tell_load.ensures.tells)
    ∙ (c.run_memory-ran.ensures.extras w ∙ (data_is title w c.in-Ok.stock ∙ (c.in-Ok.ensures.parts.weigh w ∙ sym (names_map title w c.args.extras.items))))
