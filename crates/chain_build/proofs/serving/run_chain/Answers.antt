use Rattle.std.proofs.Common.{refl, ◌∙◌, ◌≤◌, length, inl, inr, sym, ap, arith}
use Rattle.outside.specs.Meanings.{Done}
use Rattle.chain_meaning.specs.CallsByRun.{run_calls}
use Rattle.chain_meaning.specs.CallsByRunLaws.{calls_none}
use Rattle.chain_meaning.specs.Mean.{mean}
use Rattle.chain_meaning.specs.MeanLaws.{extras_say}
use Rattle.chain_meaning.specs.declared.decision.Decision.TheVariants as decision
use Rattle.chain_build.specs.LoggedWalks.{chain_runs}
use Rattle.chain_build.specs.Plans.{heads_in, inner_of, steps_in}
use Rattle.chain_build.proofs.LoggedCalls.{front_takes, tc_as, tc_nothing, tc_once}
use Rattle.chain_build.proofs.Served.{bare, extras_calls, extras_mean, once_inner, own_says, runs_inner, runs_none}
use Rattle.chain_build.proofs.serving.run_chain.Goals as goal

pub returns-then-len-gt0-clause-takes : goal.returns-then-len-gt0-clause-takes
returns-then-len-gt0-clause-takes g c =
    let said = g.B.Rulebook.said in
    let q = c.args.walk.now.query.now in
    let chain = c.args.chain.now in
    front_takes chain q c.as_slice-front.ensures (ap (extras_say said) c.requires.seated) (steps_in said chain) (extras_calls said chain q)
    (extras_mean said chain q (inr (inl (omega (arith, c.len.ensures, c.if-len-gt0.true))))) c.run_front.ensures.takes

pub returns-then-has_head-clause-takes : goal.returns-then-has_head-clause-takes
returns-then-has_head-clause-takes g c =
    let said = g.B.Rulebook.said in
    let q = c.args.walk.now.query.now in
    let chain = c.args.chain.now in
    let none : length chain.extras ≤ 0 = omega (arith, c.len.ensures, c.if-len-gt0.false) in
    front_takes chain q c.as_slice-front.ensures (sym (own_says said chain none)) (steps_in said chain) (extras_calls said chain q)
    (extras_mean said chain q (inl (c.has_head.ensures.some c.if-has_head.true))) c.run_front-then-has_head.ensures.takes

pub returns-clause-takes : goal.returns-clause-takes
returns-clause-takes g c =
    let said = g.B.Rulebook.said in
    let q = c.args.walk.now.query.now in
    let chain = c.args.chain.now in
    let none : length chain.extras ≤ 0 = omega (arith, c.len.ensures, c.if-len-gt0.false) in
    tc_nothing (chain_runs (steps_in said chain) q) _ (λ which. calls_none which (steps_in said chain) q)
    (λ left. runs_none said (heads_in chain) chain.extras (inner_of chain) q (c.has_head.ensures.none c.if-has_head.false) none (c.has_inner.ensures.none c.if-has_inner.false) left
    ∙ ap (λ a. Done (decision.Reply a) left) (sym c.set_code.ensures))

pub returns-then-has_inner-clause-takes : goal.returns-then-has_inner-clause-takes
returns-then-has_inner-clause-takes g c =
    let said = g.B.Rulebook.said in
    let q = c.args.walk.now.query.now in
    let chain = c.args.chain.now in
    let inner = inner_of chain in
    let head = c.has_head.ensures.none c.if-has_head.false in
    let none : length chain.extras ≤ 0 = omega (arith, c.len.ensures, c.if-len-gt0.false) in
    tc_as (chain_runs inner q) _ (mean inner q) _ (λ which marks. ap (λ s. run_calls which s q marks) (bare said (heads_in chain) chain.extras inner head none))
    (runs_inner said (heads_in chain) chain.extras inner q head none (c.has_inner.ensures.some c.if-has_inner.true))
    (tc_once inner inner q (once_inner chain) (λ which. refl) c.run_inner.ensures.takes)
