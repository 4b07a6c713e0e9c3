use Rattle.std.proofs.Common.{ℕ, List, length, map, Result, Ok, Err, ap, subst, ◌∙◌, arith}
use Rattle.chain_build.specs.{PlansData}
use Rattle.chain_meaning.specs.{ground_at}
use Rattle.outside.specs.Causes.{HostNoneFell}
use Rattle.outside.specs.Hosts.{HostState}
use Rattle.reload_watch.specs.declared.fault.ReadFault.{ReadFault}
use Rattle.corefile_bundle.specs.{gathered-in-order}
use Rattle.reload_watch.specs.{ReadsFirst, footing_on, source_data}
use Rattle.dns_server.specs.Report.{RunData, RunsBehind, run_data}
use Rattle.dns_server.specs.Stocking.{data_weighs}
use Rattle.dns_server.specs.Opening.{RefusesSides}
use Rattle.dns_server.specs.States.{run_setup}
use Rattle.dns_server.proofs.Each.{no_items}
use Rattle.dns_server.proofs.Openings.{first_stops, no_port_stops, sides_stop}
use Rattle.dns_server.proofs.running.run_command.Goals as goal

pub returns-in-Err-clause-runs : goal.returns-in-Err-clause-runs
returns-in-Err-clause-runs g c =
    let state = g.H.Watch.PatternMaker.state in
    let reads_by : (r : Result PlansData ReadFault) → ReadsFirst (source_data c.args.setup.source) (footing_on g.B.Rulebook.taken g.B.Rulebook.said (ground_at c.args.setup.port (map g.E.Extra.title c.as_slice.result.now))) (g.H.Watch.PatternMaker.state c.args.watch) (g.H.Watch.PatternMaker.state c.read_first-read.new.watch) r
    → ReadsFirst (source_data c.args.setup.source) (footing_on g.B.Rulebook.taken g.B.Rulebook.said (ground_at c.args.setup.port (map g.E.Extra.title c.args.stock.judges.items))) (g.H.Watch.PatternMaker.state c.args.watch) (g.H.Watch.PatternMaker.state c.read_first-read.new.watch) r =
    λ r x. subst (λ (l : List g.row.E.Denot). ReadsFirst (source_data c.args.setup.source) (footing_on g.B.Rulebook.taken g.B.Rulebook.said (ground_at c.args.setup.port (map g.E.Extra.title l))) (g.H.Watch.PatternMaker.state c.args.watch) (g.H.Watch.PatternMaker.state c.read_first-read.new.watch) r) c.as_slice.ensures.value x in
    rw c.stopped.ensures (first_stops (run_setup c.args.setup g.B.Rulebook.taken g.B.Rulebook.said (map g.E.Extra.title c.args.stock.judges.items)) (state c.args.watch) (state c.read_first-read.new.watch) c.in-Err.fault c.status_of.result (g.H.Host.state c.args.host.now)
    c.requires.fresh c.in-Err.ensures.goes.script c.in-Err.ensures.refusals (reads_by (Err c.in-Err.fault) c.in-Err.ensures.reads) c.status_of.ensures)

pub returns-then-len-eq0-clause-runs : goal.returns-then-len-eq0-clause-runs
returns-then-len-eq0-clause-runs g c =
    let state = g.H.Watch.PatternMaker.state in
    let reads_by : (r : Result PlansData ReadFault) → ReadsFirst (source_data c.args.setup.source) (footing_on g.B.Rulebook.taken g.B.Rulebook.said (ground_at c.args.setup.port (map g.E.Extra.title c.as_slice.result.now))) (g.H.Watch.PatternMaker.state c.args.watch) (g.H.Watch.PatternMaker.state c.read_first-read.new.watch) r
    → ReadsFirst (source_data c.args.setup.source) (footing_on g.B.Rulebook.taken g.B.Rulebook.said (ground_at c.args.setup.port (map g.E.Extra.title c.args.stock.judges.items))) (g.H.Watch.PatternMaker.state c.args.watch) (g.H.Watch.PatternMaker.state c.read_first-read.new.watch) r =
    λ r x. subst (λ (l : List g.row.E.Denot). ReadsFirst (source_data c.args.setup.source) (footing_on g.B.Rulebook.taken g.B.Rulebook.said (ground_at c.args.setup.port (map g.E.Extra.title l))) (g.H.Watch.PatternMaker.state c.args.watch) (g.H.Watch.PatternMaker.state c.read_first-read.new.watch) r) c.as_slice.ensures.value x in
    rw c.stopped-then-len-eq0.ensures (no_port_stops (run_setup c.args.setup g.B.Rulebook.taken g.B.Rulebook.said (map g.E.Extra.title c.args.stock.judges.items)) (state c.args.watch) (state c.read_first-read.new.watch) c.in-Ok.plans (g.H.Host.state c.args.host.now)
    c.requires.fresh (c.in-Ok.ensures.goes.script, c.in-Ok.ensures.refusals) (reads_by (Ok c.in-Ok.plans) c.in-Ok.ensures.reads) (no_items c.in-Ok.plans.ports (omega (arith, c.if-len-eq0.true, c.len.ensures, ap (λ (p : PlansData). length p.ports) c.plans.view_is))))

pub returns-in-Some-clause-runs : goal.returns-in-Some-clause-runs
returns-in-Some-clause-runs g c =
    let state = g.H.Watch.PatternMaker.state in
    let reads_by : (r : Result PlansData ReadFault) → ReadsFirst (source_data c.args.setup.source) (footing_on g.B.Rulebook.taken g.B.Rulebook.said (ground_at c.args.setup.port (map g.E.Extra.title c.as_slice.result.now))) (g.H.Watch.PatternMaker.state c.args.watch) (g.H.Watch.PatternMaker.state c.read_first-read.new.watch) r
    → ReadsFirst (source_data c.args.setup.source) (footing_on g.B.Rulebook.taken g.B.Rulebook.said (ground_at c.args.setup.port (map g.E.Extra.title c.args.stock.judges.items))) (g.H.Watch.PatternMaker.state c.args.watch) (g.H.Watch.PatternMaker.state c.read_first-read.new.watch) r =
    λ r x. subst (λ (l : List g.row.E.Denot). ReadsFirst (source_data c.args.setup.source) (footing_on g.B.Rulebook.taken g.B.Rulebook.said (ground_at c.args.setup.port (map g.E.Extra.title l))) (g.H.Watch.PatternMaker.state c.args.watch) (g.H.Watch.PatternMaker.state c.read_first-read.new.watch) r) c.as_slice.ensures.value x in
    rw c.stopped-in-Some.ensures (sides_stop (run_setup c.args.setup g.B.Rulebook.taken g.B.Rulebook.said (map g.E.Extra.title c.args.stock.judges.items)) (state c.args.watch) (state c.read_first-read.new.watch) c.in-Ok.plans c.in-Some.why (g.H.Host.state c.args.host.now)
    c.requires.fresh (c.in-Ok.ensures.goes.script, c.in-Ok.ensures.refusals) (reads_by (Ok c.in-Ok.plans) c.in-Ok.ensures.reads) (subst (λ (p : PlansData). RefusesSides p.ports c.args.setup.workers c.in-Some.why) c.plans.view_is
    (subst (λ (l : List ℕ). RefusesSides l c.args.setup.workers c.in-Some.why) c.as_slice-2.ensures c.in-Some.ensures)))

pub returns-clause-runs : goal.returns-clause-runs
returns-clause-runs g c =
    let state = g.H.Watch.PatternMaker.state in
    let reads_by : (r : Result PlansData ReadFault) → ReadsFirst (source_data c.args.setup.source) (footing_on g.B.Rulebook.taken g.B.Rulebook.said (ground_at c.args.setup.port (map g.E.Extra.title c.as_slice.result.now))) (g.H.Watch.PatternMaker.state c.args.watch) (g.H.Watch.PatternMaker.state c.read_first-read.new.watch) r
    → ReadsFirst (source_data c.args.setup.source) (footing_on g.B.Rulebook.taken g.B.Rulebook.said (ground_at c.args.setup.port (map g.E.Extra.title c.args.stock.judges.items))) (g.H.Watch.PatternMaker.state c.args.watch) (g.H.Watch.PatternMaker.state c.read_first-read.new.watch) r =
    λ r x. subst (λ (l : List g.row.E.Denot). ReadsFirst (source_data c.args.setup.source) (footing_on g.B.Rulebook.taken g.B.Rulebook.said (ground_at c.args.setup.port (map g.E.Extra.title l))) (g.H.Watch.PatternMaker.state c.args.watch) (g.H.Watch.PatternMaker.state c.read_first-read.new.watch) r) c.as_slice.ensures.value x in
    let title = g.E.Extra.title in
    let setup = run_setup c.args.setup g.B.Rulebook.taken g.B.Rulebook.said (map title c.args.stock.judges.items) in
    let run = run_data g.H.Side.Side.state state title c.run_plans.result in
    subst (λ (h : HostState). RunsBehind setup run (state c.args.watch) h (g.H.Host.state c.run_plans.new.host)) c.seed_of-seed.ensures
    (c.run_plans.ensures.runs (state c.args.watch) c.requires.fresh (c.in-Ok.ensures.goes.script, c.in-Ok.ensures.refusals) (reads_by (Ok c.in-Ok.plans) c.in-Ok.ensures.reads))

pub returns-clause-counts : goal.returns-clause-counts
returns-clause-counts g c =
    subst (λ (h : HostState). HostNoneFell h.counts (g.H.Host.state c.run_plans.new.host).counts) c.seed_of-seed.ensures c.run_plans.ensures.counts

pub returns-in-Err-clause-extras : goal.returns-in-Err-clause-extras
returns-in-Err-clause-extras g c = λ w. ap (λ (d : RunData). data_weighs w d.stock) c.stopped.ensures

pub returns-then-len-eq0-clause-extras : goal.returns-then-len-eq0-clause-extras
returns-then-len-eq0-clause-extras g c = λ w. ap (λ (d : RunData). data_weighs w d.stock) c.stopped-then-len-eq0.ensures

pub returns-in-Some-clause-extras : goal.returns-in-Some-clause-extras
returns-in-Some-clause-extras g c = λ w. ap (λ (d : RunData). data_weighs w d.stock) c.stopped-in-Some.ensures

pub run_plans-requires-clause-basis : goal.run_plans-requires-clause-basis
run_plans-requires-clause-basis g c = λ κs b.
    c.in-Ok.ensures.reads.ground_is ∙ (λ k. ground_at c.args.setup.port (map g.E.Extra.title (c.as_slice.ensures.value k)))

-- the first bundle came in order, as it was read
pub run_plans-requires-clause-gathered : goal.run_plans-requires-clause-gathered
run_plans-requires-clause-gathered g c = λ κs b.
    let told = c.in-Ok.ensures.reads.tells in
    gathered-in-order (source_data c.args.setup.source) told.reads c.in-Ok.plans.bundle told.gathers
