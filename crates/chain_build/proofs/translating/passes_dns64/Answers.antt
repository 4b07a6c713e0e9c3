use Rattle.std.proofs.Common.{Bool, ◌∙◌, subst, sym}
use Rattle.dns64_plugin.specs.{Points}
use Rattle.chain_build.proofs.Tried.{not_true, passes_some}
use Rattle.chain_build.proofs.translating.passes_dns64.Goals as goal

pub returns : goal.returns
returns c = λ passes.
    passes_some c.args.chain.now.dns64 c.in-Some.plan c.args.query.now c.in-Some.is (sym c.translates.ensures ∙ c.if-translates.false)
    (subst (λ (b : Bool). Points c.in-Some.plan c.args.query.now c.ptr_query.new.inner b) (not_true c.in_ok-ptr_query.field-0 passes) c.in_ok-ptr_query.ensures)
