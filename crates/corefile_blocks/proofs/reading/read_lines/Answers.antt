use Rattle.std.proofs.Common.{◌-◌, ◌∙◌, sym, ap, arith}
use Rattle.corefile_blocks.proofs.ReadLemmas.{line_goes_on, line_stops, lines_end, past_limit}
use Rattle.corefile_blocks.specs.Blocks.{all_of}
use Rattle.corefile_blocks.specs.Reader.{reading_of}
use Rattle.corefile_blocks.proofs.reading.read_lines.Goals as goal

pub returns-then-left-eq0-clause-all : goal.returns-then-left-eq0-clause-all
returns-then-left-eq0-clause-all c =
    let next = rw c.in-Some.is at c.in_ok-taken.ensures in
    c.all_of.ensures ∙ sym (past_limit c.loop-reader.left c.args.bundle.now c.args.port _ _ _ _ c.if-left-eq0.true next) ∙ c.loop-reader.invariant.says

pub returns-in-Some-2-clause-all : goal.returns-in-Some-2-clause-all
returns-in-Some-2-clause-all c =
    let next = rw c.in-Some.is at c.in_ok-taken.ensures in
    let follows = rw c.in-Some-2.is at c.in_ok-fault.ensures.follows in
    c.all_of-in-Some-2.ensures ∙ sym (line_stops c.loop-reader.left (c.loop-reader.left - 1) c.args.bundle.now c.args.port _ _ _ _ _ (omega arith) next follows)
    ∙ c.loop-reader.invariant.says

pub returns-clause-all : goal.returns-clause-all
returns-clause-all c =
    let next = rw c.in_default.is at c.in_ok-taken.ensures in
    c.all_of-2.ensures ∙ ap (λ fault. all_of (reading_of c.loop-reader.reader) fault) c.end_fault-fault.ensures.fault ∙ sym (lines_end c.loop-reader.left c.args.bundle.now c.args.port _ _ next)
    ∙ c.loop-reader.invariant.says

pub loop-reader-preserved : goal.loop-reader-preserved
loop-reader-preserved c =
    let next = rw c.in-Some.is at c.in_ok-taken.ensures in
    let follows = rw c.in_default-2.is at c.in_ok-fault.ensures.follows in
    record {
      says = sym (line_goes_on c.loop-reader.left (c.loop-reader.left - 1) c.args.bundle.now c.args.port _ _ _ _ (omega arith) next follows) ∙ c.loop-reader.invariant.says;
      texts = c.in_ok-fault.ensures.texts;
      nesting = omega (arith, c.in_ok-fault.ensures.nesting, c.loop-reader.invariant.nesting);
    }
