use Rattle.std.proofs.Common.{subst, sym}
use Rattle.dns_wire.specs.{asked_by}
use Rattle.chain_build.specs.Giving.{decision_in}
use Rattle.chain_build.specs.Replying.{Finishes}
use Rattle.chain_build.specs.declared.given.Given.{Given}
use Rattle.chain_build.proofs.serving.finish_apart.Goals as goal

pub returns-in-Ended : goal.returns-in-Ended
returns-in-Ended c =
    subst (λ (x : Given). Finishes c.args.datagram.now (asked_by c.args.room.now.query.name c.args.beside) (decision_in x c.args.room.now.front.walk.plugins.slot) c.finish.result) (sym c.in-Ended.is) c.finish.ensures

pub returns-in-Hit : goal.returns-in-Hit
returns-in-Hit c =
    subst (λ (x : Given). Finishes c.args.datagram.now (asked_by c.args.room.now.query.name c.args.beside) (decision_in x c.args.room.now.front.walk.plugins.slot) c.finish_hit.result) (sym c.in-Hit.is) c.finish_hit.ensures
