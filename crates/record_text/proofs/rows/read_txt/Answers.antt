use Rattle.std.proofs.Common.{◌≡◌, ◌∷◌, ◌++◌, ◌+◌, [], drop, sym, arith, ◌∙◌, ap, subst}
use Rattle.std.specs.List.{AllByRecursion}
use Rattle.dns_data.specs.Record.{IsCharacterString}
use Rattle.record_text.specs.Fields.{string_in}
use Rattle.record_text.proofs.LongTexts.{words_at, length-push, each_push, txt_step, txt_long}
use Rattle.record_text.proofs.rows.read_txt.Goals as goal

pub returns-then-size-gt-RDATA_BYTES-clause-value : goal.returns-then-size-gt-RDATA_BYTES-clause-value
returns-then-size-gt-RDATA_BYTES-clause-value c =
    txt_long c.args.words.now _ (drop (c.loop-word.word-index + 1) c.args.words.now) c.loop-word.strings c.word-item.result c.in_ok-string.string c.loop-word.invariant.says
    (words_at c.args.words.now c.loop-word.word-index c.word-item.result c.loop-word-test.true c.word-item.is)
    (ap string_in (sym c.word.view_is) ∙ c.in_ok-string.ensures.value)
    (let a = c.loop-word.invariant.size in let b = c.len.ensures in let d = c.if-size-gt-RDATA_BYTES.true in omega (arith, a, b, d))

pub loop-word-preserved : goal.loop-word-preserved
loop-word-preserved c =
    let push : c.push.new.self ≡ c.loop-word.strings ++ c.in_ok-string.string ∷ [] = c.in_ok-push.ensures.ok in
    let size = length-push c.loop-word.strings c.in_ok-string.string in
    let a = c.loop-word.invariant.size in
    let b = c.len.ensures in
    record {
      says = txt_step c.args.words.now _ (drop (c.loop-word.word-index + 1) c.args.words.now) c.loop-word.strings c.push.new.self c.word-item.result c.in_ok-string.string c.loop-word.invariant.says
          (words_at c.args.words.now c.loop-word.word-index c.word-item.result c.loop-word-test.true c.word-item.is)
          (ap string_in (sym c.word.view_is) ∙ c.in_ok-string.ensures.value) push;
      size = rw push (omega (arith, a, b, size));
      small = omega arith;
      each = subst (AllByRecursion IsCharacterString) (sym push) (each_push c.loop-word.strings c.in_ok-string.string c.loop-word.invariant.each c.in_ok-string.ensures.short);
    }
