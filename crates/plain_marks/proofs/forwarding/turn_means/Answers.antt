use Rattle.plain_marks.proofs.Orders.{turned}
use Rattle.plain_marks.proofs.forwarding.turn_means.Goals as goal

pub returns-in-Done : goal.returns-in-Done
returns-in-Done c =
    turned c.args.passed.now.by c.args.passed.now.query.now c.args.passed.now.is_pooled c.args.plan.now.upstreams c.turn-turn.ensures.value c.count.ensures.value c.from_on.ensures c.args.marks.now c.in-Done.left.now c.tries.result c.in-Done.ensures.means c.tries.ensures
