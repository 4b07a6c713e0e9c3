use Rattle.std.proofs.Common.{[], sym, ◌∙◌}
use Rattle.std.proofs.lemmas.List.{append-nil}
use Rattle.chain_build.specs.Plans.{steps_in}
use Rattle.plain_chain.proofs.Chosen.{none-traced}
use Rattle.plain_chain.proofs.Trailing.{done-at}
use Rattle.plain_chain.proofs.tracing.trace_chain.Goals as goal

pub returns-then-has_none-clause-trails : goal.returns-then-has_none-clause-trails
returns-then-has_none-clause-trails g c =
    let said = g.R.Rulings.said c.args.rulings.now in
    let steps = steps_in said c.args.asking.chain.now in
    record {
      lines = [];
      added = sym (append-nil c.args.trail.now);
      are = done-at _ c.args.marks.now [] c.bare_reply.result
          (none-traced steps c.args.names.now c.args.asking.query.now c.bare_reply.result c.bare_reply.ensures (sym (c.has_none.ensures said) ∙ c.if-has_none.true));
    }
