use Rattle.std.proofs.Common.{Ok, refl, subst, sym}
use Rattle.chain_meaning.specs.Mean.{error_noted}
use Rattle.chain_build.specs.Giving.{decision_in, gave}
use Rattle.chain_build.specs.LoggedWalks.{TakesQuietly}
use Rattle.chain_build.specs.declared.given.Given.{Given}
use Rattle.chain_build.specs.declared.given.Given.TheVariants as given
use Rattle.chain_build.proofs.Givings.{quiet_result}
use Rattle.chain_build.proofs.LoggedWalks.{quiet_nothing}
use Rattle.chain_build.proofs.noting.note_error.Goals as goal

pub returns-in-Ended : goal.returns-in-Ended
returns-in-Ended g c answer =
    let q = c.args.query.now in
    subst (λ (x : Given). TakesQuietly (error_noted q (decision_in x answer)) (gave c.as_given.result answer) (g.S.Side.state c.args.side.now) (g.S.Side.state c.note_ended.new.side)) (sym c.in-Ended.is)
    (quiet_result (error_noted q (decision_in (given.Ended c.in-Ended.ended) answer)) (c.as_given.ensures answer) (c.note_ended.ensures answer))

pub returns-in-Hit : goal.returns-in-Hit
returns-in-Hit g c answer =
    let q = c.args.query.now in
    subst (λ (x : Given). TakesQuietly (error_noted q (decision_in x answer)) (Ok (decision_in (given.Hit c.in-Hit.hit) answer)) (g.S.Side.state c.args.side.now) (g.S.Side.state c.args.side.now)) (sym c.in-Hit.is)
    (quiet_nothing (error_noted q (decision_in (given.Hit c.in-Hit.hit) answer)) (λ left. refl))
