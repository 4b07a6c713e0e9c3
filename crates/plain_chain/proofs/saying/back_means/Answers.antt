use Rattle.std.proofs.Common.{List, sym, ap, ◌∙◌}
use Rattle.forward_plugin.specs.{ForwardData, forward_means}
use Rattle.outside.specs.Meanings.{onward}
use Rattle.chain_build.specs.Compiled.{back_answerer}
use Rattle.chain_build.specs.declared.block_chain.BackAnswerer.{BackAnswerer}
use Rattle.chain_meaning.specs.Mean.{answer_of, forward_answered}
use Rattle.plain_marks.specs.MeantLaws.{meant-as}
use Rattle.plain_chain.proofs.Rules.{forward-is}
use Rattle.plain_chain.proofs.saying.back_means.Goals as goal

pub returns-in-Forward : goal.returns-in-Forward
returns-in-Forward c =
    let q = c.args.query.now in
    meant-as c.forwarded.result (λ some. onward (forward_means c.as_slice.result.now q some) forward_answered) (answer_of (back_answerer c.args.plugin.now) q) c.args.marks.now
    (λ other. ap (λ (p : BackAnswerer). answer_of (back_answerer p) q other) c.in-Forward.is ∙ forward-is c.in-Forward.plans q other
    ∙ ap (λ (ps : List ForwardData). onward (forward_means ps q other) forward_answered) (sym c.as_slice.ensures))
    c.forwarded.ensures
