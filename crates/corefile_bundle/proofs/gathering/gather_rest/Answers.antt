use Rattle.std.proofs.Common.{sym, ◌∙◌, refl, arith, rules}
use Rattle.corefile_bundle.proofs.Gathered.{begins, ends, goes_on, next_small, read_ends, seeks_behind, too_many}
use Rattle.corefile_bundle.proofs.gathering.gather_rest.Goals as goal

pub loop-name-init : goal.loop-name-init
loop-name-init g c = record {
  gathered = begins c.args.bundle (g.W.PatternMaker.state c.args.watch.now);
  small = c.requires.small;
  seeks = c.in-Ok.ensures;
  stays = search rules;
}

pub returns-in-Err-clause-told : goal.returns-in-Err-clause-told
returns-in-Err-clause-told g c =
    ends c.args.bundle (g.W.PatternMaker.state c.args.watch.now) (g.W.PatternMaker.state c.args.watch.now) c.args.bundle _
    (begins c.args.bundle (g.W.PatternMaker.state c.args.watch.now)) tt

pub returns-in-Ok-None-clause-told : goal.returns-in-Ok-None-clause-told
returns-in-Ok-None-clause-told g c =
    ends c.args.bundle (g.W.PatternMaker.state c.args.watch.now) (g.W.PatternMaker.state c.loop-name.watch) c.loop-name.bundle _ c.loop-name.invariant.gathered (refl, sym c.in-Ok-None.ensures.name ∙ c.in-Ok-None.field-0-is)

pub returns-in-Err-next_file-clause-told : goal.returns-in-Err-next_file-clause-told
returns-in-Err-next_file-clause-told g c =
    ends c.args.bundle (g.W.PatternMaker.state c.args.watch.now) (g.W.PatternMaker.state c.loop-name.watch) c.loop-name.bundle _ c.loop-name.invariant.gathered tt

pub returns-then-len-ge-FILES-clause-told : goal.returns-then-len-ge-FILES-clause-told
returns-then-len-ge-FILES-clause-told g c =
    rw c.too_many_files.ensures (too_many c.args.bundle (g.W.PatternMaker.state c.args.watch.now) (g.W.PatternMaker.state c.loop-name.watch) c.loop-name.bundle c.in-Ok-Some.name c.loop-name.invariant.gathered (sym c.in-Ok-Some.ensures.name ∙ c.in-Ok-Some.field-0-is) (omega (arith, c.len.ensures)))

pub returns-in-Err-read_file-clause-told : goal.returns-in-Err-read_file-clause-told
returns-in-Err-read_file-clause-told g c =
    read_ends c.args.bundle (g.W.PatternMaker.state c.args.watch.now) (g.W.PatternMaker.state c.loop-name.watch) (g.W.PatternMaker.state c.read_file.new.watch) c.loop-name.bundle c.in-Ok-Some.name c.in-Err-read_file.fault
    c.loop-name.invariant.gathered (sym c.in-Ok-Some.ensures.name ∙ c.in-Ok-Some.field-0-is) (omega (arith, c.len.ensures)) c.in-Err-read_file.ensures.takes

pub loop-name-smaller : goal.loop-name-smaller
loop-name-smaller g c =
    let behind = next_small c.loop-name.bundle c.in-Ok-read_file.behind c.in-Ok-Some.name (g.W.PatternMaker.state c.loop-name.watch) (g.W.PatternMaker.state c.read_file.new.watch)
    c.loop-name.invariant.small c.in-Ok-read_file.ensures.takes in
    let longer = behind.longer in
    omega (arith, longer, c.len.ensures)

pub loop-name-preserved : goal.loop-name-preserved
loop-name-preserved g c =
    let behind = next_small c.loop-name.bundle c.in-Ok-read_file.behind c.in-Ok-Some.name (g.W.PatternMaker.state c.loop-name.watch) (g.W.PatternMaker.state c.read_file.new.watch)
    c.loop-name.invariant.small c.in-Ok-read_file.ensures.takes in
    record {
      gathered = goes_on c.args.bundle (g.W.PatternMaker.state c.args.watch.now) (g.W.PatternMaker.state c.loop-name.watch) (g.W.PatternMaker.state c.read_file.new.watch) c.loop-name.bundle c.in-Ok-read_file.behind c.in-Ok-Some.name
          c.loop-name.invariant.gathered (sym c.in-Ok-Some.ensures.name ∙ c.in-Ok-Some.field-0-is) (omega (arith, c.len.ensures)) c.in-Ok-read_file.ensures.takes;
      small = behind.small;
      seeks = seeks_behind c.loop-name.bundle c.in-Ok-read_file.behind c.next_file.new.seeker c.in-Ok-Some.name (g.W.PatternMaker.state c.loop-name.watch) (g.W.PatternMaker.state c.read_file.new.watch)
          c.in-Ok-Some.ensures.seeks c.in-Ok-read_file.ensures.takes;
      stays = search rules;
    }
