use Rattle.std.proofs.Common.{◌++◌, map, refl}
use Rattle.outside.specs.Meanings.{onward}
use Rattle.chain_meaning.specs.CallsByRun.{numbers_in}
use Rattle.chain_meaning.specs.Mean.{answer_of, mean, or_rest}
use Rattle.chain_meaning.specs.MeanLaws.{mean_nothing}
use Rattle.chain_build.specs.Compiled.{front_answerer, middle_of}
use Rattle.chain_build.specs.Plans.{inner_of, others_of}
use Rattle.chain_build.specs.WalkingLaws.{middle-answers, middle-end}
use Rattle.chain_build.proofs.LoggedWalks.{tb_as, tb_nothing, tb_starved}
use Rattle.chain_build.proofs.Walks.{answers, gave-err, goes}
use Rattle.chain_build.proofs.front.+run_middle.Goals as goal

pub returns-in_default-clause-takes : goal.returns-in_default-clause-takes
returns-in_default-clause-takes g t c =
    let behind = others_of (g.X.Extras.says c.args.extras.now) c.args.steps.behind.now in
    tb_as (mean behind c.args.walk.now.query.now) _ refl (middle-end c.args.steps.middle.now behind c.args.walk.now.query.now c.in_default.ensures.cases) c.run_others.ensures.takes

pub returns-in_err-ended-clause-takes : goal.returns-in_err-ended-clause-takes
returns-in_err-ended-clause-takes g t c =
    let steps = map middle_of c.args.steps.middle.now ++ others_of (g.X.Extras.says c.args.extras.now) c.args.steps.behind.now in
    tb_starved (numbers_in (inner_of c.args.steps.behind.now) c.args.walk.now.query.now) (mean steps c.args.walk.now.query.now) (gave-err _ c.front_answer.new.slot c.from_residual.ensures.0) (mean_nothing steps c.args.walk.now.query.now)

pub returns-in-Some-2-clause-takes : goal.returns-in-Some-2-clause-takes
returns-in-Some-2-clause-takes g t c =
    let behind = others_of (g.X.Extras.says c.args.extras.now) c.args.steps.behind.now in
    let rest = mean (map middle_of c.in-Some.middle.now ++ behind) in
    tb_as _ _ refl (middle-answers c.in-Some.plugin.now c.in-Some.middle.now behind c.args.walk.now.query.now c.in-Some.ensures.cases.0)
    (tb_nothing (numbers_in (inner_of c.args.steps.behind.now) c.args.walk.now.query.now) (λ left. onward (answer_of (front_answerer c.in-Some.plugin.now) c.args.walk.now.query.now left) (or_rest rest c.args.walk.now.query.now))
    (answers (front_answerer c.in-Some.plugin.now) rest c.args.walk.now.query.now _ c.front_answer.new.slot c.in-Some-2.ended c.in_ok-ended.ensures c.in-Some-2.is))

pub returns-in-None-clause-takes : goal.returns-in-None-clause-takes
returns-in-None-clause-takes g t c =
    let behind = others_of (g.X.Extras.says c.args.extras.now) c.args.steps.behind.now in
    let rest = mean (map middle_of c.in-Some.middle.now ++ behind) in
    tb_as _ _ refl (middle-answers c.in-Some.plugin.now c.in-Some.middle.now behind c.args.walk.now.query.now c.in-Some.ensures.cases.0)
    (tb_as (rest c.args.walk.now.query.now) _ refl
    (goes (front_answerer c.in-Some.plugin.now) rest c.args.walk.now.query.now _ c.front_answer.new.slot c.in_ok-ended.ensures c.in-None.is)
    c.run_middle.ensures.takes)
