use Rattle.std.proofs.Common.{arith, ap, refl, rules, subst, sym, ◌∙◌}
use Rattle.corefile_bundle.specs.Again.{InOrder, read_again}
use Rattle.corefile_bundle.specs.Steps.{TellsRest}
use Rattle.corefile_bundle.proofs.Gathered.{ends, goes_on, joins_rest, next_small, read_ends, too_many}
use Rattle.corefile_bundle.proofs.Rereading.{again_others, all_again, left_again, next_here, no_files, one_more, same_again, whole_again}
use Rattle.corefile_bundle.proofs.regathering.reread_files.Goals as goal

pub returns-in_default-copy-clause-told : goal.returns-in_default-copy-clause-told
returns-in_default-copy-clause-told g c =
    ends c.args.bundle (g.W.PatternMaker.state c.args.watch.now) (g.W.PatternMaker.state c.loop-file.watch) c.loop-file.bundle _ c.loop-file.invariant.gathered tt

pub returns-then-count-ge-FILES-clause-told : goal.returns-then-count-ge-FILES-clause-told
returns-then-count-ge-FILES-clause-told g c =
    let i = c.loop-file.invariant in
    let next = next_here c.args.last.now c.loop-file.bundle c.loop-file.rest.now c.in-Some.others.now c.in-Some.file.now c.in-Some.file.now.name i.conf i.env c.in-Some.ensures.cases.0 refl i.order in
    rw c.too_many_files.ensures
    (too_many c.args.bundle (g.W.PatternMaker.state c.args.watch.now) (g.W.PatternMaker.state c.loop-file.watch) c.loop-file.bundle c.in-Some.file.now.name i.gathered next.0 (omega (arith, c.len-count.ensures)))

pub returns-in-Err-clause-told : goal.returns-in-Err-clause-told
returns-in-Err-clause-told g c =
    let i = c.loop-file.invariant in
    let next = next_here c.args.last.now c.loop-file.bundle c.loop-file.rest.now c.in-Some.others.now c.in-Some.file.now c.in-Ok.name i.conf i.env c.in-Some.ensures.cases.0 c.in-Ok.ensures i.order in
    read_ends c.args.bundle (g.W.PatternMaker.state c.args.watch.now) (g.W.PatternMaker.state c.loop-file.watch) (g.W.PatternMaker.state c.read_file.new.watch) c.loop-file.bundle c.in-Ok.name c.in-Err.fault i.gathered next.0
    (omega (arith, c.len-count.ensures)) c.in-Err.ensures.takes

pub gather_rest-requires : goal.gather_rest-requires
gather_rest-requires g c = record {
  small = (next_small c.loop-file.bundle c.in-Ok-read_file.behind c.in-Ok.name (g.W.PatternMaker.state c.loop-file.watch) (g.W.PatternMaker.state c.read_file.new.watch) c.loop-file.invariant.small c.in-Ok-read_file.ensures.takes).small;
}

pub returns-then-not-is_same_file-clause-told : goal.returns-then-not-is_same_file-clause-told
returns-then-not-is_same_file-clause-told g c =
    let i = c.loop-file.invariant in
    let state = g.W.PatternMaker.state in
    let first = c.args.bundle in
    let next = next_here c.args.last.now c.loop-file.bundle c.loop-file.rest.now c.in-Some.others.now c.in-Some.file.now c.in-Ok.name i.conf i.env c.in-Some.ensures.cases.0 c.in-Ok.ensures i.order in
    let on = goes_on first (state c.args.watch.now) (state c.loop-file.watch) (state c.read_file.new.watch) c.loop-file.bundle c.in-Ok-read_file.behind c.in-Ok.name i.gathered next.0 (omega (arith, c.len-count.ensures)) c.in-Ok-read_file.ensures.takes in
    let is = ap (read_again c.args.last.now) c.other.ensures ∙ again_others c.args.last.now c.gather_rest.result in
    subst (TellsRest first (state c.args.watch.now) (state c.gather_rest.new.watch)) (sym is)
    (joins_rest first (state c.args.watch.now) (state c.read_file.new.watch) (state c.gather_rest.new.watch) c.in-Ok-read_file.behind c.gather_rest.result on c.gather_rest.ensures.told)

pub loop-file-preserved : goal.loop-file-preserved
loop-file-preserved g c =
    let i = c.loop-file.invariant in
    let state = g.W.PatternMaker.state in
    let first = c.args.bundle in
    let last = c.args.last.now in
    let bundle = c.loop-file.bundle in
    let behind = c.in-Ok-read_file.behind in
    let file = c.in-Some.file.now in
    let rest = c.loop-file.rest.now in
    let others = c.in-Some.others.now in
    let is = c.in-Some.ensures.cases.0 in
    let took = c.in-Ok-read_file.ensures.takes in
    let next = next_here last bundle rest others file c.in-Ok.name i.conf i.env is c.in-Ok.ensures i.order in
    let bytes = c.is_same_file.ensures.0 c.if-not-is_same_file.false in
    let again = same_again bundle behind c.in-Ok.name file c.at.result.now c.len-count.result (one_more bundle behind c.in-Ok.name (state c.loop-file.watch) (state c.read_file.new.watch) took) c.len-count.ensures c.at.ensures bytes c.in-Ok.ensures in
    record {
      gathered = goes_on first (state c.args.watch.now) (state c.loop-file.watch) (state c.read_file.new.watch) bundle behind c.in-Ok.name i.gathered next.0 (omega (arith, c.len-count.ensures)) took;
      small = (next_small bundle behind c.in-Ok.name (state c.loop-file.watch) (state c.read_file.new.watch) i.small took).small;
      conf = again.conf ∙ i.conf;
      env = again.env ∙ i.env;
      files = left_again bundle behind last rest others file again is i.files;
      order = subst (λ files. InOrder last files others) (sym again.files) next.1;
      stays = search rules;
    }

pub returns-clause-told : goal.returns-clause-told
returns-clause-told g c =
    let i = c.loop-file.invariant in
    let state = g.W.PatternMaker.state in
    let last = c.args.last.now in
    let bundle = c.loop-file.bundle in
    let none = no_files c.loop-file.rest.now c.in_default.ensures.cases in
    let same = all_again bundle last c.loop-file.rest.now i.conf i.env none i.files in
    let whole = whole_again bundle last c.loop-file.rest.now i.conf i.env none i.order in
    ends c.args.bundle (state c.args.watch.now) (state c.loop-file.watch) bundle _ i.gathered
    (same, whole)
