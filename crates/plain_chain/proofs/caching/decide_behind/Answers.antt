use Rattle.std.proofs.Common.{◌≡◌, ◌<◌, ◌∙◌, ◌++◌, length, map, refl, sym, ap, subst, arith}
use Rattle.rewrite_plugin.specs.{changed_by}
use Rattle.rewrite_plugin.specs.declared.plan_data.Changed.{Changed}
use Rattle.chain_meaning.specs.Mean.{reply_restored}
use Rattle.chain_build.specs.Compiled.{back_of, back_steps}
use Rattle.chain_trail.specs.Says.{rewrite_say}
use Rattle.chain_trail.specs.Trail.{head_name, reached, rewritten_by, tail_names, traced, trailed_then}
use Rattle.chain_trail.specs.Trails.{Trails}
use Rattle.plain_chain.proofs.Traced.{behind-rules}
use Rattle.plain_chain.proofs.Trailing.{ok-lined, ok-then}
use Rattle.plain_chain.proofs.caching.decide_behind.Goals as goal

pub returns : goal.returns
returns c =
    let q = c.args.asking.query.now in
    let names = c.args.names.now in
    let n = head_name names in
    let ds = c.as_slice-rules.result.now in
    let back = c.as_slice-back.result.now in
    let rest = traced (map back_of back) (tail_names names) in
    let changed = c.change.new.changed in
    let marks = c.args.marks.now in
    let some : 0 < length ds = omega (arith, c.if-rules-eq0.false) in
    let same : changed ≡ changed_by ds q = c.in_ok-change.ensures in
    let line : c.reach.new.trail ≡ c.args.trail.now ++ reached n (rewrite_say changed) = c.in_ok-reach.ensures ∙ ap (λ s. c.args.trail.now ++ reached n s) (c.as_str.ensures ∙ c.in_ok-say.ensures) in
    ok-lined c.restored.result (λ some. trailed_then (rest changed.query some) (reply_restored ds changed)) _ marks (reached n (rewrite_say changed)) c.args.trail.now c.reach.new.trail c.decide_back-2.new.trail
    (λ other. (λ i. traced (back_steps (sym c.as_slice-rules.ensures i) (sym c.as_slice-back.ensures i)) names q other) ∙ behind-rules ds back names q some other
    ∙ ap (λ (x : Changed). rewritten_by n rest ds x other) (sym same)) line
    (ok-then c.restored.result (rest changed.query) (reply_restored ds changed) (λ some. trailed_then (rest changed.query some) (reply_restored ds changed)) marks c.reach.new.trail c.decide_back-2.new.trail c.in_ok-meant.meant (λ other. refl)
    (subst (λ ns. Trails (traced (map back_of back) ns changed.query) marks c.reach.new.trail c.decide_back-2.new.trail c.in_ok-meant.meant) c.rest_of.ensures c.in_ok-meant.ensures) c.restored.ensures)
