use Rattle.std.specs.Prelude.{IfOk}
use Rattle.std.proofs.Common.{◌≡◌, List, subst}
use Rattle.plugin_api.specs.{Sayings}
use Rattle.chain_build.specs.declared.block_chain.FrontAnswerer.{FrontAnswerer}
use Rattle.chain_meaning.specs.Translating.{bound_of}
use Rattle.chain_meaning.specs.declared.decision.Decision.{Decision}
use Rattle.chain_trail.specs.Trail.{second_by, traced, trailed_onward}
use Rattle.chain_trail.specs.Trails.{Trails}
use Rattle.outside.specs.declared.mark.Mark.{Mark}
use Rattle.plain_marks.specs.declared.meant.Meant as declared
use Rattle.plain_marks.specs.declared.meant.Meant.TheVariants as meant
use Rattle.plain_chain.specs.Steps.{plain_run}
use Rattle.plain_chain.proofs.Traced.{twice}
use Rattle.plain_chain.proofs.Trailing.{ok-as, ok-followed}
use Rattle.plain_chain.proofs.translating.decide_twice.Goals as goal

pub returns-in-Done-clause-trails : goal.returns-in-Done-clause-trails
returns-in-Done-clause-trails g c n =
    let said = g.R.Rulings.said c.args.rulings.now in
    let chain = c.args.asking.chain.now in
    let q = c.args.asking.query.now in
    let names = c.args.names.now in
    let plan = c.args.plan.now in
    let rest = traced (plain_run said chain.middle chain) names in
    let marks = c.args.marks.now in
    let left = c.in-Done.left.now in
    let first = c.in-Done.first in
    let before = c.args.trail.now in
    let mid = c.decide_run.new.trail in
    let after = c.decide_again.new.trail in
    let r = c.decide_again.result in
    let next = λ (v : Decision) (some : List Mark). second_by n rest plan q v (bound_of v) some in
    let t : Trails (rest q) marks before mid (meant.Done first c.in-Done.left) =
    subst (λ (m : declared.Meant Decision). Trails (rest q) marks before mid m) c.in-Done.is
    (subst (λ (middle : List FrontAnswerer). Trails (traced (plain_run said middle chain) names q) marks before mid c.in_ok-first.field-0) c.as_slice-middle.ensures c.in_ok-first.ensures.trails) in
    ok-as r (λ some. trailed_onward (rest q some) next) _ marks before after (λ other. twice n rest plan q other c.requires.both)
    (ok-followed (rest q) next r marks left before mid after first t.lines t.added t.are
    (subst (λ (s : Sayings). IfOk r (Trails (second_by n (traced (plain_run s chain.middle chain) names) plan q first (bound_of first)) left mid after)) c.decide_run.ensures.stays (c.decide_again.ensures.trails n)))
