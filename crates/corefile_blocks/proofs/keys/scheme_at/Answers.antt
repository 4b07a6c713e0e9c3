use Rattle.std.proofs.Common.{sym, ap, ◌∙◌}
use Rattle.std.proofs.lemmas.List.{take_rest}
use Rattle.std.proofs.Common.{eqb}
use Rattle.std.specs.List.{starts_with}
use Rattle.std.specs.Prelude.{codes}
use Rattle.corefile_blocks.proofs.KeyLemmas.{no_scheme}
use Rattle.corefile_blocks.proofs.keys.scheme_at.Goals as goal

pub loop-at-preserved : goal.loop-at-preserved
loop-at-preserved c =
    c.loop-at.invariant
    ∙ no_scheme c.args.text.now c.loop-at.at c.loop-at-test.true
    (ap (λ rest. starts_with eqb rest (codes "://")) (sym (take_rest c.args.text.now c.loop-at.at)) ∙ sym c.starts_with.ensures.value ∙ c.if-starts_with.false)
