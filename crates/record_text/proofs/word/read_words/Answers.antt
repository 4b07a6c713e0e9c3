use Rattle.std.proofs.Common.{sym, ◌∙◌}
use Rattle.std.proofs.lemmas.List.{take_rest}
use Rattle.record_text.proofs.Steps.{word_step}
use Rattle.record_text.proofs.word.read_words.Goals as goal

pub loop-byte-preserved : goal.loop-byte-preserved
loop-byte-preserved c =
    word_step c.args.text.now c.loop-byte.rest.now c.in-Some.behind.now _ c.loop-byte.words c.push.new.self c.in-Some.byte.now c.in-Some-first_word.word c.in-Some-first_word.size
    c.loop-byte.invariant c.in-Some.ensures.cases.0 (sym c.is_blank.ensures ∙ c.if-is_blank.false) (sym c.first_word.ensures.value ∙ c.in-Some-first_word.is) c.in_ok-push.ensures.ok
    (take_rest c.in-Some.behind.now c.in-Some-first_word.size)
