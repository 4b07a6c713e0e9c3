use Rattle.std.proofs.Common.{subst}
use Rattle.std.specs.Prelude.{IfSome}
use Rattle.zone_lookup.specs.Ready.{IsDenial}
use Rattle.zone_tree.proofs.store.TreeZoneZoneStore.ready_denial.Goals as goal

pub returns : goal.returns
returns c =
    let kept = subst (λ denial. IfSome denial (λ tail. IsDenial c.self.inside.tree.zone tail)) c.in-Some.is c.self.invariant.denial_is in
    subst (λ zone. IsDenial zone c.in-Some.tail) c.self.view_is kept
