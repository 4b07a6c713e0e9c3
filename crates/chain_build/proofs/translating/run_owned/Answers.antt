use Rattle.std.proofs.Common.{◌++◌, map}
use Rattle.chain_meaning.specs.Mean.{mean}
use Rattle.chain_build.specs.Compiled.{middle_of}
use Rattle.chain_build.specs.Plans.{others_of}
use Rattle.chain_build.proofs.Givings.{tb_err, tb_owned}
use Rattle.chain_build.proofs.Walks.{decided-err}
use Rattle.chain_build.proofs.translating.run_owned.Goals as goal

pub returns-in_err-given-clause-takes : goal.returns-in_err-given-clause-takes
returns-in_err-given-clause-takes g c =
    let steps = map middle_of c.args.steps.middle.now ++ others_of (g.X.Extras.says c.args.extras.now) c.args.steps.behind.now in
    tb_err (mean steps c.args.walk.now.query.now) (decided-err c.from_residual.result c.run_middle.new.room.plugins.slot c.from_residual.ensures.0) c.in_err-given.ensures.takes

pub returns-clause-takes : goal.returns-clause-takes
returns-clause-takes g c =
    let steps = map middle_of c.args.steps.middle.now ++ others_of (g.X.Extras.says c.args.extras.now) c.args.steps.behind.now in
    tb_owned (mean steps c.args.walk.now.query.now) c.own.result c.own.new.slot c.own.ensures c.in_ok-given.ensures.takes
