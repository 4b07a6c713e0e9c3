use Rattle.std.proofs.Common.{◌≡◌, Err, map, take, rules, sym, ap, ◌∙◌}
use Rattle.chain_meaning.specs.{brought_of}
use Rattle.chain_meaning.specs.Accepting.{block_task}
use Rattle.chain_meaning.specs.Steps.{context_of, file_plans}
use Rattle.plugin_api.specs.{rank_of}
use Rattle.chain_build.specs.Places.{context_in, placed_by}
use Rattle.chain_build.specs.PlacesLaws.{files-placed}
use Rattle.chain_build.proofs.BlockReading.{block_err, carried_on, placed_on}
use Rattle.chain_build.proofs.places.read_block.Goals as goal

pub read_more-requires-clause-plans : goal.read_more-requires-clause-plans
read_more-requires-clause-plans g c =
    let before = take c.loop-index.index c.as_slice-all.result.now in
    let same : context_in c.in_ok-zones.zones c.args.sources.now.files.now ≡ context_of c.args.sources.now.files.now c.args.block.now =
    ap (λ zones. context_in zones c.args.sources.now.files.now) (c.in_ok-zones.ensures ∙ ap (map (λ key. key.zone)) c.as_slice.ensures) in
    ap (λ places. places.files) c.loop-index.invariant.before ∙ files-placed (context_of c.args.sources.now.files.now c.args.block.now) before c.args.patterns ∙ ap (λ context. file_plans context before) (sym same)

pub returns-in_err-read_more-clause-reads : goal.returns-in_err-read_more-clause-reads
returns-in_err-read_more-clause-reads g c =
    let same : context_in c.in_ok-zones.zones c.args.sources.now.files.now ≡ context_of c.args.sources.now.files.now c.args.block.now =
    ap (λ zones. context_in zones c.args.sources.now.files.now) (c.in_ok-zones.ensures ∙ ap (map (λ key. key.zone)) c.as_slice.ensures) in
    let e = c.in_err-read_more.field-0.0 in
    let is : c.from_residual-in_err-read_more.result ≡ Err e = search rules in
    rw is (block_err (brought_of (g.J.Judges.named c.args.judges.now) (g.J.Judges.taken c.args.judges.now)) c.args.patterns c.args.sources.now.files.now c.args.block.now (context_in c.in_ok-zones.zones c.args.sources.now.files.now) c.as_slice-all.result.now c.loop-index.index c.index-all-index.result c.loop-index.places c.read_more.new.places
    (g.M.PatternMaker.last c.read_more.new.maker) e same c.loop-index-test.true c.index-all-index.is c.loop-index.invariant.carried
    (c.read_more.new.places ≡ placed_by (rank_of c.index-all-index.result.name) (context_in c.in_ok-zones.zones c.args.sources.now.files.now) c.index-all-index.result c.loop-index.places) c.in_err-read_more.ensures.reads)

pub loop-index-preserved : goal.loop-index-preserved
loop-index-preserved g c =
    let context = context_of c.args.sources.now.files.now c.args.block.now in
    let own = context_in c.in_ok-zones.zones c.args.sources.now.files.now in
    let same : own ≡ context = ap (λ zones. context_in zones c.args.sources.now.files.now) (c.in_ok-zones.ensures ∙ ap (map (λ key. key.zone)) c.as_slice.ensures) in
    let reads = c.in_ok-read_more.ensures.reads in
    record {
      carried = carried_on (brought_of (g.J.Judges.named c.args.judges.now) (g.J.Judges.taken c.args.judges.now)) context own c.as_slice-all.result.now c.loop-index.index c.index-all-index.result c.loop-index.places c.read_more.new.places same c.loop-index-test.true c.index-all-index.is reads.1
          (block_task (brought_of (g.J.Judges.named c.args.judges.now) (g.J.Judges.taken c.args.judges.now)) c.args.patterns c.args.sources.now.files.now c.args.block.now) reads.0 c.loop-index.invariant.carried;
      before = placed_on (brought_of (g.J.Judges.named c.args.judges.now) (g.J.Judges.taken c.args.judges.now)) context own c.as_slice-all.result.now c.loop-index.index c.index-all-index.result c.loop-index.places c.read_more.new.places same c.loop-index-test.true c.index-all-index.is reads.1
          c.args.patterns c.loop-index.invariant.before;
      taken = c.in_ok-read_more.ensures.taken c.loop-index.invariant.taken;
      state = c.in_ok-read_more.ensures.maker ∙ c.loop-index.invariant.state;
    }
