use Rattle.std.proofs.Common.{map, rules, ◌∙◌}
use Rattle.chain_meaning.specs.Mean.{mean}
use Rattle.chain_meaning.specs.MeanLaws.{mean_nothing}
use Rattle.chain_build.specs.Compiled.{back_answerer, back_of}
use Rattle.chain_build.specs.WalkingLaws.{back-answers, back-end}
use Rattle.chain_build.proofs.Walks.{answers, goes, goes_clear, tries-as, tries-err}
use Rattle.chain_build.proofs.back.+try_back.Goals as goal

pub returns-in_default : goal.returns-in_default
returns-in_default t c = back-end _ _ c.in_default.ensures.cases

pub returns-in_err-ended : goal.returns-in_err-ended
returns-in_err-ended t c = tries-err _ _ _ c.from_residual.ensures.0 (mean_nothing (map back_of c.args.steps.now) c.args.query.now)

pub returns-in-Some-2 : goal.returns-in-Some-2
returns-in-Some-2 t c =
    let q = c.args.query.now in
    λ left. back-answers c.in-Some.plugin.now c.in-Some.rest.now q c.in-Some.ensures.cases.0 left
    ∙ answers (back_answerer c.in-Some.plugin.now) (mean (map back_of c.in-Some.rest.now)) q c.args.room.now.slot c.back_answer.new.room.slot c.in-Some-2.ended c.in_ok-ended.ensures.answered c.in-Some-2.is left

pub returns-in-None : goal.returns-in-None
returns-in-None t c =
    let q = c.args.query.now in
    tries-as (mean (map back_of c.in-Some.rest.now) q) _ c.try_back.new.room.slot c.try_back.result
    (λ marks. back-answers c.in-Some.plugin.now c.in-Some.rest.now q c.in-Some.ensures.cases.0 marks
    ∙ goes (back_answerer c.in-Some.plugin.now) (mean (map back_of c.in-Some.rest.now)) q c.args.room.now.slot c.back_answer.new.room.slot c.in_ok-ended.ensures.answered c.in-None.is marks)
    c.try_back.ensures

pub try_back-requires : goal.try_back-requires
try_back-requires t c = (search rules, goes_clear _ _ _ _ c.in_ok-ended.ensures.answered c.in-None.is ∙ c.requires.clear)
