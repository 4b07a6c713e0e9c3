use Rattle.std.proofs.Common.{◌≡◌, List, Some, ap, subst, ◌∙◌}
use Rattle.std.specs.Prelude.{IfOk, Result}
use Rattle.dns_lists.specs.declared.memory.NoMemory.{NoMemory}
use Rattle.outside.specs.declared.mark.Mark.{Mark}
use Rattle.chain_build.specs.{PlansData, chain_log, server_of, terms_in}
use Rattle.chain_build.specs.Logs.{held_log}
use Rattle.explain_chain.specs.Explaining.{IsExplained}
use Rattle.explain_chain.proofs.Told.{explains_as}
use Rattle.explain_chain.proofs.explaining.explain.Goals as goal

pub returns-clause-tells : goal.returns-clause-tells
returns-clause-tells g c =
    let result = c.explain_by-explained.result in
    let how = c.serve-served.result in
    let d = c.args.datagram.now in
    let plans = c.deref.ensures ∙ ap (λ i. i.kind) c.serve-served.ensures.same in
    let same = c.explain_by-explained.ensures.same in
    let kept = subst (λ (r : Result (List Mark) NoMemory). IfOk r (λ marks. c.serve-served.new.side.kept ≡ Some marks)) c.in-Ok.is c.into_parts-side.ensures.marks in
    let lines = subst (λ (marks : List Mark). IfOk result (λ e. IsExplained c.deref.result.now.bundle (terms_in g.B.Rulebook.taken g.B.Rulebook.said c.deref.result.now) d marks how e.lines)) c.as_slice.ensures c.explain_by-explained.ensures.lines in
    let own = subst (λ (p : PlansData). IfOk result (λ e. IsExplained p.bundle (terms_in g.B.Rulebook.taken g.B.Rulebook.said p) d c.in-Ok.marks how e.lines)) plans lines in
    explains_as g.S.Side.state c.args.side c.into_parts-side.result.0 c.new-recording.result c.serve-served.new.side (server_of c.args.chain.now) d how (chain_log c.args.chain.now) (chain_log c.serve-served.new.chain) _ result c.in-Ok.marks
    c.new-recording.ensures c.serve-served.ensures.tells c.into_parts-side.ensures.side kept c.into_parts-side.ensures.keeps c.requires.fresh.nothing_told (ap (λ uses. held_log uses.items) (same.uses ∙ ap (λ held. held.uses) c.deref_mut.ensures.value)) c.explain_by-explained.ensures.served own
