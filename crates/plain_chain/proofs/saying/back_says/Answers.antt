use Rattle.chain_build.specs.Compiled.{back_answerer}
use Rattle.plain_chain.proofs.Rules.{none-said, some-said}
use Rattle.plain_chain.proofs.saying.back_says.Goals as goal

pub returns-in-Some : goal.returns-in-Some
returns-in-Some c = some-said (back_answerer c.args.plugin.now) c.args.query.now _ c.back_answer.new.room.slot c.in-Some.ended c.in_ok-ended.ensures.answered c.in-Some.is c.in_ok-decided-in-Some.ensures

pub returns : goal.returns
returns c = none-said (back_answerer c.args.plugin.now) c.args.query.now _ c.back_answer.new.room.slot c.in_ok-ended.ensures.answered c.in-None.is
