use Rattle.std.proofs.Common.{◌∙◌}
use Rattle.outside.specs.Meanings.{onward}
use Rattle.forward_plugin.specs.Forward.{take_word, try_of}
use Rattle.plain_marks.specs.MeantLaws.{followed-by, meant-as, means-as, stopped, wanting}
use Rattle.plain_marks.specs.declared.meant.Meant.TheVariants as meant
use Rattle.plain_marks.proofs.Judged.{behind_word, try_as}
use Rattle.plain_marks.proofs.asking.try_of.Goals as goal

pub returns-in-Done : goal.returns-in-Done
returns-in-Done c =
    let next = behind_word c.args.upstream.now.upstream c.args.passed.now.by c.args.passed.now.query.now in
    meant-as c.asked.result (λ some. onward (take_word some) next) (try_of c.args.upstream.now.upstream c.args.passed.now.by c.args.passed.now.query.now) c.args.marks.now
    (try_as c.args.upstream.now.upstream c.args.passed.now.by c.args.passed.now.query.now)
    (followed-by take_word next c.args.marks.now c.in-Done.left.now c.in-Done.word c.asked.result c.in-Done.ensures c.asked.ensures)

pub returns-in-More : goal.returns-in-More
returns-in-More c =
    try_as c.args.upstream.now.upstream c.args.passed.now.by c.args.passed.now.query.now c.args.marks.now
    ∙ wanting take_word (behind_word c.args.upstream.now.upstream c.args.passed.now.by c.args.passed.now.query.now) c.args.marks.now c.in-More.ensures

pub returns-in-Off : goal.returns-in-Off
returns-in-Off c =
    let next = behind_word c.args.upstream.now.upstream c.args.passed.now.by c.args.passed.now.query.now in
    means-as (λ some. onward (take_word some) next) (try_of c.args.upstream.now.upstream c.args.passed.now.by c.args.passed.now.query.now) c.args.marks.now (meant.Off c.in-Off.left)
    (try_as c.args.upstream.now.upstream c.args.passed.now.by c.args.passed.now.query.now)
    (stopped take_word next c.args.marks.now c.in-Off.left.now c.in-Off.ensures)
