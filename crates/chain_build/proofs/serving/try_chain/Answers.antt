use Rattle.std.proofs.Common.{List, Option, length, ◌<◌, refl, sym, subst, ◌∙◌, arith}
use Rattle.plugin_api.specs.{PlanData}
use Rattle.chain_meaning.specs.Serving.{chain_decides}
use Rattle.chain_build.specs.Compiled.{inner_steps}
use Rattle.chain_build.specs.Plans.{steps_in}
use Rattle.chain_build.specs.Walking.{NotesCodes}
use Rattle.chain_build.specs.declared.block_chain.FrontStep.{FrontStep}
use Rattle.chain_build.proofs.Served.{no_extras}
use Rattle.chain_build.proofs.Tried.{decides_nothing, no_cache, no_middle, tries_by}
use Rattle.chain_build.proofs.Walks.{tries-err}
use Rattle.chain_build.proofs.serving.try_chain.Goals as goal

pub returns-in_err-passes_dns64 : goal.returns-in_err-passes_dns64
returns-in_err-passes_dns64 g c =
    let steps = steps_in g.B.Rulebook.said c.args.chain.now in
    tries-err (chain_decides steps c.args.query.now) _ c.from_residual.result c.from_residual.ensures.0 (decides_nothing steps c.args.query.now)

pub returns-in_err-ended : goal.returns-in_err-ended
returns-in_err-ended g c =
    let steps = steps_in g.B.Rulebook.said c.args.chain.now in
    tries-err (chain_decides steps c.args.query.now) _ c.from_residual-in_err-ended.result c.from_residual-in_err-ended.ensures.0 (decides_nothing steps c.args.query.now)

pub returns : goal.returns
returns g c =
    let chain = c.args.chain.now in
    let none = no_cache chain.cache (sym c.is_some.ensures ∙ c.if-is_some.false) in
    tries_by g.B.Rulebook.said chain c.args.query.now _ c.in_ok-ended.ended c.in-Some.notes
    (subst (λ (steps : List FrontStep). NotesCodes steps c.in-Some.notes) c.as_slice.ensures c.in-Some.ensures)
    (c.is_noted.ensures c.if-is_noted.false)
    (no_middle chain.middle (omega (arith, c.len-else-len-gt0.ensures, c.if-len-gt0-2.false)))
    (no_extras chain.extras (omega (arith, c.len.ensures, c.if-len-gt0.false)))
    none
    (subst (λ (o : Option PlanData). 0 < length (inner_steps o chain.rewrites chain.back)) none (c.if-not-has_inner.ensures.some refl))
    (c.in_ok-passes_dns64.ensures c.if-not-branch.false)
    c.in_ok-ended.ensures
