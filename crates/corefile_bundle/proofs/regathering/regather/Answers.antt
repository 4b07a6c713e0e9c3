use Rattle.std.proofs.Common.{ap, subst, sym, ◌∙◌}
use Rattle.corefile_bundle.specs.Again.{read_again}
use Rattle.corefile_bundle.specs.Gathering.{TellsGathering, source_of}
use Rattle.corefile_bundle.proofs.Gathered.{joins, no_bundle}
use Rattle.corefile_bundle.proofs.Rereading.{again_others, other_in_order}
use Rattle.corefile_bundle.proofs.regathering.regather.Goals as goal

pub returns-in-Err-clause-told : goal.returns-in-Err-clause-told
returns-in-Err-clause-told g c =
    no_bundle (source_of c.args.conf.now c.args.env.now) (g.W.PatternMaker.state c.args.watch.now) (g.W.PatternMaker.state c.read_corefile.new.watch) c.in-Err.fault c.in-Err.ensures.takes

pub returns-then-not-is_same_text-clause-told : goal.returns-then-not-is_same_text-clause-told
returns-then-not-is_same_text-clause-told g c =
    let source = source_of c.args.conf.now c.args.env.now in
    let state = g.W.PatternMaker.state in
    let is = ap (read_again c.args.last.now) c.other.ensures ∙ again_others c.args.last.now c.gather_rest.result in
    subst (TellsGathering source (state c.args.watch.now) (state c.gather_rest.new.watch)) (sym is)
    (joins source (state c.args.watch.now) (state c.read_corefile.new.watch) (state c.gather_rest.new.watch) c.in-Ok.bundle c.gather_rest.result c.in-Ok.ensures.takes c.gather_rest.ensures.told)

pub returns-then-not-is_same_text-clause-gathered : goal.returns-then-not-is_same_text-clause-gathered
returns-then-not-is_same_text-clause-gathered g c =
    other_in_order (source_of c.args.conf.now c.args.env.now) (g.W.PatternMaker.state c.args.watch.now) (g.W.PatternMaker.state c.gather_rest.new.watch) c.args.last.now c.other.result (returns-then-not-is_same_text-clause-told g c)

pub returns-clause-told : goal.returns-clause-told
returns-clause-told g c =
    let state = g.W.PatternMaker.state in
    joins (source_of c.args.conf.now c.args.env.now) (state c.args.watch.now) (state c.read_corefile.new.watch) (state c.reread_files.new.watch) c.in-Ok.bundle (read_again c.args.last.now c.reread_files.result) c.in-Ok.ensures.takes c.reread_files.ensures.told

pub returns-clause-gathered : goal.returns-clause-gathered
returns-clause-gathered g c =
    other_in_order (source_of c.args.conf.now c.args.env.now) (g.W.PatternMaker.state c.args.watch.now) (g.W.PatternMaker.state c.reread_files.new.watch) c.args.last.now c.reread_files.result (returns-clause-told g c)
