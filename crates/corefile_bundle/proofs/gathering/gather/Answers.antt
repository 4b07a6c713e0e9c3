use Rattle.corefile_bundle.specs.Gathering.{source_of}
use Rattle.corefile_bundle.proofs.Gathered.{joins, no_bundle}
use Rattle.corefile_bundle.proofs.Rereading.{told_in_order, told_whole}
use Rattle.corefile_bundle.proofs.gathering.gather.Goals as goal

pub returns-in-Err-clause-told : goal.returns-in-Err-clause-told
returns-in-Err-clause-told g c =
    no_bundle (source_of c.args.conf.now c.args.env.now) (g.W.PatternMaker.state c.args.watch.now) (g.W.PatternMaker.state c.read_corefile.new.watch) c.in-Err.fault c.in-Err.ensures.takes

pub returns-in-Ok-clause-told : goal.returns-in-Ok-clause-told
returns-in-Ok-clause-told g c =
    joins (source_of c.args.conf.now c.args.env.now) (g.W.PatternMaker.state c.args.watch.now) (g.W.PatternMaker.state c.read_corefile.new.watch) (g.W.PatternMaker.state c.gather_rest.new.watch) c.in-Ok.bundle c.gather_rest.result c.in-Ok.ensures.takes
    c.gather_rest.ensures.told

pub returns-in-Ok-clause-whole : goal.returns-in-Ok-clause-whole
returns-in-Ok-clause-whole g c =
    told_whole (source_of c.args.conf.now c.args.env.now) (g.W.PatternMaker.state c.args.watch.now) (g.W.PatternMaker.state c.gather_rest.new.watch) c.gather_rest.result
    (joins (source_of c.args.conf.now c.args.env.now) (g.W.PatternMaker.state c.args.watch.now) (g.W.PatternMaker.state c.read_corefile.new.watch) (g.W.PatternMaker.state c.gather_rest.new.watch) c.in-Ok.bundle c.gather_rest.result c.in-Ok.ensures.takes
    c.gather_rest.ensures.told)

pub returns-in-Ok-clause-gathered : goal.returns-in-Ok-clause-gathered
returns-in-Ok-clause-gathered g c =
    told_in_order (source_of c.args.conf.now c.args.env.now) (g.W.PatternMaker.state c.args.watch.now) (g.W.PatternMaker.state c.gather_rest.new.watch) c.gather_rest.result
    (joins (source_of c.args.conf.now c.args.env.now) (g.W.PatternMaker.state c.args.watch.now) (g.W.PatternMaker.state c.read_corefile.new.watch) (g.W.PatternMaker.state c.gather_rest.new.watch) c.in-Ok.bundle c.gather_rest.result c.in-Ok.ensures.takes
    c.gather_rest.ensures.told)
