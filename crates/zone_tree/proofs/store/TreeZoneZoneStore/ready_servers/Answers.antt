use Rattle.std.proofs.Common.{◌∙◌, [], ap, sym, subst}
use Rattle.std.specs.Prelude.{IfSome}
use Rattle.zone_lookup.specs.Ready.{IsReady}
use Rattle.zone_tree.specs.Sets.{meet}
use Rattle.zone_tree.proofs.Glue.{ready_apart}
use Rattle.zone_tree.proofs.store.TreeZoneZoneStore.ready_servers.Goals as goal

pub returns : goal.returns
returns c =
    let tree = c.self.inside.tree in
    let kept = subst (λ servers. IfSome servers (λ tail. IsReady tree.zone [] tail)) c.in-Some.is c.self.invariant.servers_are in
    let apart = ap (meet c.args.answer.now) (sym c.additional.ensures) ∙ sym c.meets.ensures ∙ c.if-meets.false in
    subst (λ zone. IsReady zone c.args.answer.now c.in-Some.tail) c.self.view_is (ready_apart tree.zone c.args.answer.now c.in-Some.tail kept apart)
