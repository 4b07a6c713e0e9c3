use Rattle.std.proofs.Common.{sym}
use Rattle.record_text.specs.HeadLaws.{begins_more}
use Rattle.record_text.proofs.head.cut_words.Goals as goal

pub loop-word-preserved : goal.loop-word-preserved
loop-word-preserved c =
    rw (sym c.in_ok-push.ensures.ok) at
    (begins_more c.args.text.now c.loop-word.rest.now c.in-Some.behind.now c.in-Some.word.now c.loop-word.words c.loop-word.invariant c.in-Some.ensures.value)
