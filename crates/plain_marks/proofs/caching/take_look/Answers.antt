use Rattle.outside.specs.Meanings.{Done, onward}
use Rattle.cache_rules.specs.{key_of}
use Rattle.chain_meaning.specs.Caching.{take_looked, take_now}
use Rattle.plain_marks.specs.MeantLaws.{followed-by}
use Rattle.plain_marks.proofs.caching.take_look.Goals as goal

pub returns-in-Done : goal.returns-in-Done
returns-in-Done c =
    followed-by take_now
    (λ moment left. onward (take_looked (key_of c.args.query.now) moment left) (λ entry more. Done (moment, entry) more))
    c.args.marks.now c.in-Done.left.now c.in-Done.moment c.look_at.result c.in-Done.ensures c.look_at.ensures
