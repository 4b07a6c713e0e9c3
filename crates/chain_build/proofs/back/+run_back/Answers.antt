use Rattle.std.proofs.Common.{map, refl, rules, ◌∙◌}
use Rattle.chain_meaning.specs.CallsByRun.{pool_in}
use Rattle.chain_meaning.specs.Mean.{mean}
use Rattle.chain_build.specs.Compiled.{back_answerer, back_of}
use Rattle.chain_build.specs.WalkingLaws.{back-answers, back-end}
use Rattle.chain_build.proofs.LoggedWalks.{by_as, by_first, by_nothing, by_rest, ends_by, fails_by, goes_by, lone_rest}
use Rattle.chain_build.proofs.OneForward.{rest_takes}
use Rattle.chain_build.proofs.Walks.{decided-err}
use Rattle.chain_build.proofs.back.+run_back.Goals as goal

pub returns-in_default-clause-asks : goal.returns-in_default-clause-asks
returns-in_default-clause-asks g t c =
    let q = c.args.walk.now.query.now in
    by_nothing (pool_in (map back_of c.args.steps.now) q) (mean (map back_of c.args.steps.now) q) (back-end _ _ c.in_default.ensures.cases)

pub returns-in_err-ended-clause-asks : goal.returns-in_err-ended-clause-asks
returns-in_err-ended-clause-asks g t c =
    let q = c.args.walk.now.query.now in
    let is = c.in-Some.ensures.cases.0 in
    by_as _ _ refl (back-answers c.in-Some.plugin.now c.in-Some.rest.now q is)
    (fails_by (back_answerer c.in-Some.plugin.now) (map back_of c.in-Some.rest.now) q (decided-err _ c.answer_behind.new.room.slot c.from_residual.ensures.0)
    (by_first c.in-Some.plugin.now c.in-Some.rest.now q is c.in_err-ended.ensures.asks))

pub returns-in-Some-2-clause-asks : goal.returns-in-Some-2-clause-asks
returns-in-Some-2-clause-asks g t c =
    let q = c.args.walk.now.query.now in
    let is = c.in-Some.ensures.cases.0 in
    by_as _ _ refl (back-answers c.in-Some.plugin.now c.in-Some.rest.now q is)
    (ends_by (back_answerer c.in-Some.plugin.now) (mean (map back_of c.in-Some.rest.now)) q c.answer_behind.new.room.slot c.in-Some-2.ended
    (by_first c.in-Some.plugin.now c.in-Some.rest.now q is c.in_ok-ended.ensures.asks) c.in-Some-2.is)

pub returns-in-None-clause-asks : goal.returns-in-None-clause-asks
returns-in-None-clause-asks g t c =
    let q = c.args.walk.now.query.now in
    let is = c.in-Some.ensures.cases.0 in
    by_as _ _ refl (back-answers c.in-Some.plugin.now c.in-Some.rest.now q is)
    (goes_by (back_answerer c.in-Some.plugin.now) (mean (map back_of c.in-Some.rest.now)) q c.answer_behind.new.room.slot (by_first c.in-Some.plugin.now c.in-Some.rest.now q is c.in_ok-ended.ensures.asks)
    c.in-None.is (by_rest c.in-Some.plugin.now c.in-Some.rest.now q is c.requires.lone c.run_back.ensures.asks))

pub run_back-requires : goal.run_back-requires
run_back-requires g t c =
    let clear = c.in_ok-ended.ensures.next c.in-None.is ∙ c.requires.clear in
    let takes = rest_takes _ _ c.args.steps.now c.in-Some.rest.now c.in-Some.plugin.now c.in-Some.ensures.cases.0 c.in_ok-ended.ensures.count c.requires.pools in
    let lone = lone_rest c.in-Some.plugin.now c.in-Some.rest.now c.in-Some.ensures.cases.0 c.requires.lone in
    λ κs b. (search rules, (b.0, (b.1, (clear, (takes, lone)))))
