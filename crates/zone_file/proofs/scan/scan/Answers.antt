use Rattle.std.proofs.Common.{sym, ap, length, arith, ◌∙◌}
use Rattle.std.proofs.lemmas.List.{take_rest}
use Rattle.zone_file.proofs.ScannedLines.{scan_step}
use Rattle.zone_file.proofs.scan.scan.Goals as goal

pub loop-byte-preserved : goal.loop-byte-preserved
loop-byte-preserved c =
    let text = ap length c.in-Some.ensures.cases.0 in
    let few = c.loop-byte.invariant.few in
    record {
      says = scan_step c.loop-byte.depth c.in-Some.byte.now c.in-Some-first_word.size c.loop-byte.rest.now c.in-Some.behind.now _ c.loop-byte.words c.push.new.self c.in-Some-first_word.word _ c.loop-byte.invariant.says
          c.in-Some.ensures.cases.0 (sym c.is_blank.ensures ∙ c.if-is_blank.false) c.if-byte-eq59.false c.if-byte-eq40.false c.if-byte-eq41.false
          (sym c.first_word.ensures.value ∙ c.in-Some-first_word.is) c.in_ok-push.ensures.ok (take_rest c.in-Some.behind.now c.in-Some-first_word.size);
      few = omega (arith, text, few);
      small = c.loop-byte.invariant.small;
    }
